use Prim.Native.Nat.{◌+◌}
use mathlib.Core.Bool.{true, false, cond}
use mathlib.Core.Path.{◌≡◌}
use lib.Ieee.{nan, inf}
use lib.ListN.{get_or}
use Rattle.extreme.specs.Best.{at_most, best}
use Rattle.extreme.specs.Racing.{below, race_of}
use Rattle.lanes.proofs.plainly.Given as goal

abbrev pub invariant-loop-k : goal.invariant-loop-k
invariant-loop-k l = l.r ≡ race_of l.n (best (cond l.nu below at_most) (inf false) (λ q. true) (λ q. get_or l.f (l.o + q) nan) l.k)
