-- The steps of a run, pass for pass (the rule, section 'Run').
use Rattle.std.specs.Prelude.{ℕ, zero, suc, Bool, true, false, List, [], ◌∷◌, ◌++◌, Float, Option, Some, None}
use Rattle.start.specs.Start.{started}
use Rattle.state.specs.Fields.{alpha, sample}
use Rattle.state.specs.Lists.{State}
use Rattle.solver.specs.Pass.{chosen, refreshed, counted_down, passed, runs}
use Rattle.solver.specs.Run.{ready_of, problem_of, Full, full, goes}
use Rattle.solver.specs.declared.Given.{Given}

-- the pair's positions, the samples that stood there, and the weights that the step left them
pub record Step : Type 0 where
  pub i : ℕ
  pub j : ℕ
  pub sample_i : ℕ
  pub sample_j : ℕ
  pub left_i : Float
  pub left_j : Float

module _ (g : Given) (m : List ℕ) where
  -- v is counted down, and c its first look: the state in which the pass takes its last look
  unfoldable pub look_by : Full → Option (ℕ × ℕ) → Full
  look_by v (Some (i, j)) = v
  look_by v None = refreshed g m v

  abbrev pub look_at : Full → Full
  look_at v = look_by v (chosen g m v)

  unfoldable pub pair_on : Bool → Full → Option (ℕ × ℕ)
  pair_on true v = chosen g m (look_at v)
  pair_on false v = None

  -- the pair with which the pass that begins in w steps; optimal where it doesn't step
  unfoldable pub pair_from : Full → Option (ℕ × ℕ)
  pair_from w = let v = counted_down g m w in pair_on (goes v.run.status) v

  -- v is what the pass leaves: nothing in a pass moves a sample after the walk
  abbrev pub step_at : Full → ℕ → ℕ → Step
  step_at v i j =
      record {
        i = i;
        j = j;
        sample_i = sample v.state i;
        sample_j = sample v.state j;
        left_i = (alpha (problem_of g m) v.state i).value;
        left_j = (alpha (problem_of g m) v.state j).value;
      }

  unfoldable pub steps_of : Full → Option (ℕ × ℕ) → List Step
  steps_of v (Some (i, j)) = step_at v i j ∷ []
  steps_of v None = []

  module _ (b : List Float) where
    -- what the pass that begins in w adds, where it is made
    unfoldable pub added : Bool → Full → List Step
    added true w = steps_of (passed g m b w) (pair_from w)
    added false w = []

    -- the steps of the first t passes, in order
    unfoldable pub traced : Full → ℕ → List Step
    traced w zero = []
    traced w (suc t) = let v = runs g m b w t in traced w t ++ added (goes v.run.status) v

    unfoldable pub made : Bool → Full → List Full
    made true w = passed g m b w ∷ []
    made false w = []

    -- the state after each of the first t passes, as far as they were made
    unfoldable pub states : Full → ℕ → List Full
    states w zero = []
    states w (suc t) = let v = runs g m b w t in states w t ++ made (goes v.run.status) v

    -- where the first pass begins
    abbrev pub start_of : State → Full
    start_of s = full (ready_of g.n) (started (problem_of g m) b s) s.numbers s.labels

-- the last of a list, and w where it is empty
unfoldable pub last_of : Full → List Full → Full
last_of w [] = w
last_of w (v ∷ vs) = last_of v vs
