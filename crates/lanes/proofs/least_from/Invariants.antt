use Prim.Native.Nat.{ℕ, ◌≤◌, ◌<◌}
use mathlib.Core.Path.{◌≡◌}
use lib.Ieee.{nan}
use lib.ListN.{length, get_or}
use Rattle.lanes.specs.Lanes.{lane}
use Rattle.lanes.proofs.least_from.Given as goal

abbrev pub invariant-loop-k : goal.invariant-loop-k
invariant-loop-k l = (l.k ≤ 8) × (8 ≡ length l.z) × ((j : ℕ) → j < l.k → get_or l.z j nan ≡ lane l.f l.t j)
