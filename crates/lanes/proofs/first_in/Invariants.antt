use Prim.Native.Nat.{◌-◌, ◌≤◌}
use mathlib.Core.Path.{◌≡◌}
use Rattle.lanes.specs.Lanes.{first_in}
use Rattle.lanes.proofs.first_in.Given as goal

abbrev pub invariant-loop-k : goal.invariant-loop-k
invariant-loop-k l = (l.t ≤ l.k) × (l.i ≡ first_in l.f l.v l.t l.k (l.e - l.k))
