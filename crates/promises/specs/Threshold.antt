-- What the reason 'threshold' of an answer says: the rule's own stop, of what the run leaves.
use Rattle.std.specs.Prelude.{ℕ, Bool, false, List, ◌≡◌}
use Rattle.answer.specs.Lent.{Lent}
use Rattle.boxrun.specs.Quiet.{Quiet}
use Rattle.extreme.specs.Rule.{everybody}
use Rattle.trace.specs.Rule.{NoPair, Ended}
use Rattle.trace.specs.Trace.{start_of}
use Rattle.promises.specs.Fit.{Fit, start_from, run_of}
use Rattle.promises.specs.Retired.{after_over}

-- of the fit k over the matrix m
pub record Threshold (k : Fit) (m : List ℕ) (d : Lent) (budget : ℕ) : Type 0 where
  -- the run ended by itself: with a pass that met no pair at either look
  pub ended : Ended k.given m k.ceilings (start_of k.given m k.ceilings (start_from k m d)) budget
  -- in what it leaves, over the positions that are active there, the rule stops
  pub stop : NoPair everybody k.given m (run_of k m d budget).state (run_of k m d budget).run.active
  -- so each sum of the extremes is below eps, or isn't above 0
  pub quiet : Quiet everybody k.given m (run_of k m d budget).state (run_of k m d budget).run.active
  -- with shrinking off these are all positions
  pub all : k.given.shrinking ≡ false → (run_of k m d budget).run.active ≡ k.given.n

-- .. of the positions that stand
pub record ThresholdOver (stands : ℕ → Bool) (k : Fit) (m : List ℕ) (d : Lent) (budget : ℕ) : Type 0 where
  pub stop : NoPair stands k.given m (after_over stands k m d budget).state k.given.n
  pub quiet : Quiet stands k.given m (after_over stands k m d budget).state k.given.n
