use native.Mathlib.Nat.{add-zero}
use native.Mathlib.Omega.{arith}
use Rattle.wire.specs.Wire.{digits}
use Rattle.wire.proofs.word_at.Goals as goal

pub returns : goal.returns
unfolding digits
returns c = rw c.from_le_bytes.ensures (simp add-zero (omega arith))
