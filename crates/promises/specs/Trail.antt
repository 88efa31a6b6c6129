-- A finger on one weight: what a run has after t passes, and what the next one does to it. With shrinking off position s holds sample s.
use Rattle.std.specs.Prelude.{ℕ, suc, ◌+◌, ◌<◌, List, ◌++◌, ◌≡◌, eqb, Float, get_or, Some}
use Rattle.std.specs.Float.{nan, binary64}
use Rattle.std.specs.Float.Ieee.{add, sub, mul}
use Rattle.alpha.specs.Weight.{weight}
use Rattle.answer.specs.Answer.{coefficient_of}
use Rattle.answer.specs.Lent.{Lent}
use Rattle.finder.specs.Found.{found_pair}
use Rattle.kernel.specs.Matrix.{entry_at}
use Rattle.kernel.specs.Row.{alike_of, signed_of}
use Rattle.modes.specs.declared.Mode.{Mode}
use Rattle.solver.specs.Pass.{counted_down, runs}
use Rattle.solver.specs.Run.{problem_of}
use Rattle.state.specs.Fields.{gradient, alpha, diagonal, row, bound}
use Rattle.state.specs.Lists.{Problem, State}
use Rattle.trace.specs.Trace.{Step, look_at, traced}
use Rattle.update.specs.Update.{ceiling}
use Rattle.update.specs.declared.Pair.{Pair}
use Rattle.promises.specs.Fit.{Fit, after, weight_after, pair_after, steps_taken, r_of}

-- what the pair finder says of positions i and j in a state, under the ceilings u and v
abbrev pub found_under : Problem → State → ℕ → ℕ → Float → Float → Pair
found_under p s i j u v =
    found_pair (weight (alpha p s i).value u) (weight (alpha p s j).value v) (gradient p s i) (gradient p s j)
    (diagonal p s i) (diagonal p s j) (row p s i j) (eqb (get_or s.labels i 0) (get_or s.labels j 0))

-- under their ceilings there; b are those of the places
abbrev pub found_at : Problem → Mode → List Float → State → ℕ → ℕ → Pair
found_at p mode b s i j = found_under p s i j (ceiling p mode b s i) (ceiling p mode b s j)

-- what is read behind the last step
abbrev pub no_step : Step
no_step = record { i = 0; j = 0; sample_i = 0; sample_j = 0; left_i = nan; left_j = nan }

module _ (k : Fit) (m : List ℕ) (d : Lent) where
  -- the steps of the next u passes, after t
  abbrev pub later_steps : ℕ → ℕ → List Step
  later_steps t u = traced k.given m k.ceilings (after k m d t) u

  abbrev pub gradient_after : ℕ → ℕ → Float
  gradient_after t i = gradient (problem_of k.given m) (after k m d t).state i

  -- the lent label of sample i, and the kernel entry of i and j, negated between different labels
  abbrev pub label_lent : ℕ → ℕ
  label_lent i = get_or k.labels i 0

  abbrev pub entry_lent : ℕ → ℕ → Float
  entry_lent i j = signed_of (alike_of k.given.kind (label_lent i) (label_lent j)) (entry_at k.given.n m i j)

  -- what the pair finder says of samples i and j, by their weights and gradients after t passes
  unfoldable pub found_after : ℕ → ℕ → ℕ → Pair
  found_after t i j =
      found_pair (weight (weight_after k m d t i) (bound k.ceilings i)) (weight (weight_after k m d t j) (bound k.ceilings j))
      (gradient_after t i) (gradient_after t j) (entry_at k.given.n m i i) (entry_at k.given.n m j j) (entry_lent i j) (eqb (label_lent i) (label_lent j))

  -- the pass after t leaves samples i and j what the finder says, every other weight as it was, and carries the two changes into each gradient
  pub record StepsWith (t i j : ℕ) : Type 0 where
    pub below_i : i < k.given.n
    pub below_j : j < k.given.n
    pub apart : i ≡ j → ⊥
    pub left_i_law : weight_after k m d (suc t) i ≡ (found_after t i j).i.value
    pub left_j_law : weight_after k m d (suc t) j ≡ (found_after t i j).j.value
    pub others : (s : ℕ) → s < k.given.n → (s ≡ i → ⊥) → (s ≡ j → ⊥) → weight_after k m d (suc t) s ≡ weight_after k m d t s
    pub carried : (s : ℕ) → s < k.given.n
        → gradient_after (suc t) s
        ≡ add binary64 (gradient_after t s) (add binary64
        (mul binary64 (entry_lent i s) (sub binary64 (weight_after k m d (suc t) i) (weight_after k m d t i)))
        (mul binary64 (entry_lent j s) (sub binary64 (weight_after k m d (suc t) j) (weight_after k m d t j))))

  -- step q of a run with that budget, counted from 0, is that of the pass after q: of samples i and j, with the weights that it left them
  pub record ShownStep (budget q i j : ℕ) : Type 0 where
    pub chosen : pair_after k m d q ≡ Some (i, j)
    pub steps : StepsWith q i j
    pub told : get_or (steps_taken k m d budget) q no_step ≡ record { i = i; j = j; sample_i = i; sample_j = j; left_i = weight_after k m d (suc q) i; left_j = weight_after k m d (suc q) j }

  -- with shrinking on or off: what step q left is what the finder says in the state in which its pair was chosen, under the ceilings there
  abbrev pub FoundStep : ℕ → ℕ → Type 0
  FoundStep budget q =
      let e = get_or (steps_taken k m d budget) q no_step in
      let s = (look_at k.given m (counted_down k.given m (after k m d q))).state in
      let f = found_at (problem_of k.given m) k.given.mode k.ceilings s e.i e.j in
      (e.left_i ≡ f.i.value) × (e.left_j ≡ f.j.value)

  -- what a call with that budget tells with shrinking off, by its iterations and its list home
  pub record Trailed (budget iterations : ℕ) (home : List Float) : Type 0 where
    -- the run starts at the start weights
    pub begins : (s : ℕ) → s < k.given.n → weight_after k m d 0 s ≡ get_or k.weights s nan
    -- each sample's weight after as many passes, as the entry answers it
    pub weights : (s : ℕ) → s < k.given.n → get_or home s nan ≡ coefficient_of k.how (label_lent s) (r_of k m d budget) (weight_after k m d budget s)
    pub steps : (q : ℕ) → q < iterations → ShownStep budget q (get_or (steps_taken k m d budget) q no_step).i (get_or (steps_taken k m d budget) q no_step).j
    -- a longer run goes on from there, with the same steps before its own
    pub runs_on : (u : ℕ) → after k m d (u + budget) ≡ runs k.given m k.ceilings (after k m d budget) u
    pub steps_on : (u : ℕ) → steps_taken k m d (u + budget) ≡ steps_taken k m d budget ++ later_steps budget u
