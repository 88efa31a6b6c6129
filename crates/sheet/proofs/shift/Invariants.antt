use Prim.Native.Nat.{◌≤◌}
use mathlib.Core.Path.{◌≡◌}
use lib.Ieee.{binary64, add, mul}
use lib.ListN.{length}
use Rattle.kernel.specs.Matrix.{entry_at}
use Rattle.orderless.specs.Step.{shift_in}
use Rattle.sheet.proofs.shift.Given as goal

abbrev pub invariant-loop-k : goal.invariant-loop-k
invariant-loop-k l = (l.k ≤ l.n) × (length l.f ≡ length l.initial.f) × (l.f ≡ shift_in l.nu l.n (λ q. add binary64 (mul binary64 (entry_at l.side l.m l.i q) l.x) (mul binary64 (entry_at l.side l.m l.j q) l.z)) l.initial.f l.k)
