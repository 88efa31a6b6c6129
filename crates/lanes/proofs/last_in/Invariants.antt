use Prim.Native.Nat.{◌-◌, ◌≤◌}
use mathlib.Core.Path.{◌≡◌}
use Rattle.lanes.specs.Lanes.{last_in}
use Rattle.lanes.proofs.last_in.Given as goal

abbrev pub invariant-loop-k : goal.invariant-loop-k
invariant-loop-k l = (l.t ≤ l.k) × (l.k ≤ l.e) × (l.i ≡ last_in l.f l.v l.t (l.k - l.t))
