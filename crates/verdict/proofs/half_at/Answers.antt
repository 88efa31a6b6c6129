use native.Mathlib.Nat.{add-zero}
use native.Mathlib.Omega.{arith}
use Rattle.wire.specs.Wire.{digits}
use Rattle.verdict.proofs.half_at.Goals as goal

pub returns : goal.returns
unfolding digits
returns c = simp add-zero (omega arith)
