use Prim.Native.Nat.{◌≤◌}
use mathlib.Core.Path.{◌≡◌}
use lib.ListN.{length}
use lib.Ieee.{binary64, mul}
use Rattle.kernel.specs.Matrix.{entry_at}
use Rattle.orderless.specs.Run.{raised_to}
use Rattle.course.proofs.bring.Given as goal

abbrev pub invariant-loop-k : goal.invariant-loop-k
invariant-loop-k l = (l.k ≤ l.n) × (length l.f ≡ length l.initial.f) × (l.f ≡ raised_to (λ q. mul binary64 l.x (entry_at l.side l.m l.i q)) l.initial.f l.k)
