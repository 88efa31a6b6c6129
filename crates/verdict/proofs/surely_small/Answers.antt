use Prim.Native.Nat.{◌+◌, ◌*◌, ◌%◌}
use native.Mathlib.Omega.{arith}
use borrow.Author.Tests.{ltb-true}
use Rattle.wire.specs.Wire.{digits}
use Rattle.verdict.proofs.Quick.{small_good}
use Rattle.verdict.proofs.surely_small.Goals as goal

pub returns : goal.returns
returns c =
    let s = c.args in
    λ h. small_good s.m.now (λ i. omega (arith, c.shared_slice_known-1.given i)) s.k (ltb-true (digits s.m.now (8 * s.k + 4) 4 % 0x8000_0000) 0x7dff_ffff (rw (← c.half_at.ensures) h))
