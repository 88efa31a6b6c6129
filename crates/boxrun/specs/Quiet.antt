-- What a stop tells of the extremes, where the entries are of magnitude 2^1000 at the most.
use Rattle.std.specs.Prelude.{ℕ, Bool, true, false, List, ◌⊎◌, ◌≡◌, Float}
use Rattle.std.specs.Float.Ieee.{lt}
use Rattle.alpha.specs.Weight.{zero}
use Rattle.partner.specs.Rule.{Sum}
use Rattle.solver.specs.Run.{problem_of}
use Rattle.solver.specs.declared.Given.{Given}
use Rattle.state.specs.Lists.{State}
use Rattle.trace.specs.Rule.{Rises, Falls, is_below}

-- by the sums of the extremes the rule stops (under nu `max` passes over one that is NaN), or none of them is above 0: at most 0, or NaN
pub record Quiet (stands : ℕ → Bool) (g : Given) (m : List ℕ) (s : State) (a : ℕ) : Type 0 where
  pub sums : Bool → Float
  pub each : (t : Bool) → Sum (problem_of g m) s (Rises stands g m s a g.nu t) (Falls stands g m s a g.nu t) (sums t)
  pub tells : (is_below stands g m s a g.nu sums ≡ true) ⊎ ((t : Bool) → lt zero (sums t) ≡ false)
