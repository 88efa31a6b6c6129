-- A step by the ceilings that were lent for its two samples, wherever they stand (the rule, section 'Modes').
use Rattle.std.specs.Prelude.{ℕ, List, ◌≡◌, get_or}
use Rattle.std.specs.Float.{nan}
use Rattle.answer.specs.Lent.{Lent}
use Rattle.solver.specs.Pass.{counted_down}
use Rattle.solver.specs.Run.{problem_of}
use Rattle.state.specs.Lists.{State}
use Rattle.trace.specs.Trace.{Step, look_at}
use Rattle.update.specs.declared.Pair.{Pair}
use Rattle.promises.specs.Fit.{Fit, after, steps_taken}
use Rattle.promises.specs.Trail.{found_under, no_step}

module _ (k : Fit) (m : List ℕ) (d : Lent) where
  -- what the pair finder says of the two of step e in a state
  abbrev pub found_own : Step → State → Pair
  found_own e s = found_under (problem_of k.given m) s e.i e.j (get_or k.ceilings e.sample_i nan) (get_or k.ceilings e.sample_j nan)

  -- what step q left is that, in the state in which its pair was chosen
  abbrev pub OwnStep : ℕ → ℕ → Type 0
  OwnStep budget q =
      let e = get_or (steps_taken k m d budget) q no_step in
      let s = (look_at k.given m (counted_down k.given m (after k m d q))).state in
      (e.left_i ≡ (found_own e s).i.value) × (e.left_j ≡ (found_own e s).j.value)
