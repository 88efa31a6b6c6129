use Prim.Native.Nat.{◌≤◌}
use mathlib.Core.Path.{◌≡◌}
use lib.ListN.{length}
use Rattle.kernel.specs.Row.{signed_of}
use Rattle.orderless.specs.Run.{spread}
use Rattle.rho.specs.Rho.{positive_in}
use Rattle.course.proofs.begin.Given as goal

abbrev pub invariant-loop-k : goal.invariant-loop-k
invariant-loop-k l = (l.k ≤ l.n) × (length l.f ≡ length l.initial.f) × (l.f ≡ spread (λ q. signed_of (positive_in l.y q) l.p) l.initial.f l.k)
