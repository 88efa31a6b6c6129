use Prim.Native.Nat.{◌≤◌}
use mathlib.Core.Path.{◌≡◌}
use Rattle.extreme.specs.Racing.{racing}
use Rattle.lanes.specs.Lanes.{least_by, begins}
use Rattle.lanes.proofs.least.Given as goal

abbrev pub invariant-loop-sixteen : goal.invariant-loop-sixteen
invariant-loop-sixteen l = (l.h ≤ l.n) × (racing l.v l.h ≡ begins (least_by l.nu l.f l.o l.n l.sixteen))
