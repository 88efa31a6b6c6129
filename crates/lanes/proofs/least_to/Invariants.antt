use mathlib.Core.Path.{◌≡◌}
use Rattle.lanes.specs.Lanes.{least_to}
use Rattle.lanes.proofs.least_to.Given as goal

abbrev pub invariant-loop-x : goal.invariant-loop-x
invariant-loop-x l = l.w ≡ least_to l.f l.t l.x-index
