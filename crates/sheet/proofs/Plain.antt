-- A zero's sign, let go by a test. Assumes nothing.
use Prim.Native.Nat.{ℕ, zero, suc}
use mathlib.Core.Bool.{true, false, true≢false}
use mathlib.Core.Path.{◌≡◌, refl, sym, ◌∙◌}
use native.Mathlib.Omega.{arith}
use lib.Dec.{T}
use lib.Ieee.{Float, nan, inf, fin, binary64, of_bits, fits, eq}
use Rattle.alpha.specs.Weight as Weight
use Rattle.floats.specs.Helpers.{abs_of}
use Rattle.floats.proofs.Magnitude.{abs_zero}
use Rattle.orderless.specs.Plain.{plain}
use Rattle.orderless.proofs.Plain.{zero_even}

one_zero : (x : Float) → Weight.zero ≡ abs_of x → Weight.zero ≡ plain x
unfolding abs_of plain of_bits
one_zero nan h = h
one_zero (inf s) h = let z : ◌≡◌ {A = ℕ} 0 1 = cc in absurd (omega arith)
one_zero (fin s zero e) h = h
one_zero (fin s (suc m) e) h = let z : 0 ≡ suc m = cc in absurd (omega arith)

pub plain_zero : (x : Float) → T (fits binary64 x) → eq x Weight.zero ≡ true → Weight.zero ≡ plain x
unfolding of_bits
plain_zero x t h = one_zero x (abs_zero x t h)

pub plain_other : (x : Float) → eq x Weight.zero ≡ false → x ≡ plain x
unfolding plain
plain_other nan h = refl
plain_other (inf s) h = refl
plain_other (fin s zero e) h = absurd (true≢false (sym (zero_even s e) ∙ h))
plain_other (fin s (suc m) e) h = refl
