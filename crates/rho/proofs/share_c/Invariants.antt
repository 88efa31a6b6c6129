use Prim.Native.Nat.{◌≤◌}
use mathlib.Core.Path.{◌≡◌}
use Rattle.rho.specs.Rho.{share_c}
use Rattle.rho.proofs.share_c.Given as goal

abbrev pub invariant-loop-k : goal.invariant-loop-k
invariant-loop-k l = (l.k ≤ l.active) × (l.s.free ≤ l.k) × (l.s ≡ share_c l.n l.f l.y l.k)
