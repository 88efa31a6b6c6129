-- A run with shrinking off over the positions that stand (the rule, section 'Retired samples'): nothing moves, and all n positions are active.
use Rattle.std.specs.Prelude.{ℕ, zero, suc, Bool, true, false, cond, List, [], ◌++◌, Float, Option, Some, None}
use Rattle.solver.specs.Pass.{stepped}
use Rattle.solver.specs.Run.{problem_of, Full, with_run, goes, ended}
use Rattle.solver.specs.declared.Given.{Given}
use Rattle.state.specs.Lists.{State}
use Rattle.trace.specs.Trace.{Step, steps_of, start_of}
use Rattle.standing.specs.Over.{choice_c_over, choice_nu_over}

module _ (stands : ℕ → Bool) (g : Given) (m : List ℕ) where
  -- the pair, by the rule that holds
  unfoldable pub chosen_over : State → Option (ℕ × ℕ)
  chosen_over s = cond g.nu (choice_nu_over stands (problem_of g m) s g.floor g.eps g.n) (choice_c_over stands (problem_of g m) s g.floor g.eps g.n)

  module _ (b : List Float) where
    -- one step, or the end
    unfoldable pub passed_on : Full → Option (ℕ × ℕ) → Full
    passed_on w (Some (i, j)) = stepped g m b w i j
    passed_on w None = with_run w (ended w.run)

    unfoldable pub next_over : Bool → Full → Full
    next_over goes w = cond goes (passed_on w (chosen_over w.state)) w

    -- the first t passes
    unfoldable pub runs_over : Full → ℕ → Full
    runs_over w zero = w
    runs_over w (suc t) = let v = runs_over w t in next_over (goes v.run.status) v

    -- start, at most budget passes: s holds weights, ceilings, linear terms, kernel indices and labels
    unfoldable pub trained_over : ℕ → State → Full
    trained_over budget s = runs_over (start_of g m b s) budget

    -- what a pass from w adds to the steps, where it is made
    unfoldable pub added_over : Bool → Full → List Step
    added_over true w = let c = chosen_over w.state in steps_of g m (passed_on w c) c
    added_over false w = []

    -- the steps of the first t passes, in order
    unfoldable pub traced_over : Full → ℕ → List Step
    traced_over w zero = []
    traced_over w (suc t) = let v = runs_over w t in traced_over w t ++ added_over (goes v.run.status) v
