-- The support limit, and who is counted. Assumes nothing.
use Prim.Native.Nat.{ℕ, zero, suc, ◌+◌, ◌≤◌}
use mathlib.Core.Bool.{Bool, true, false, cond}
use mathlib.Core.List.{List}
use mathlib.Core.Path.{◌≡◌, refl}
use native.Mathlib.Omega.{arith}
use lib.IntN.{pos, negsuc}
use lib.Ieee.{Float, nan, inf, fin, binary64, of_bits, neg, mul, lt, of_int}
use lib.ListN.{get_or}
use Rattle.floats.specs.Helpers.{abs_of}
use Rattle.answer.specs.Answer.{support_limit, supports, support_of}

-- ---- the limit

-- 100·2^-52 exactly, as 25·2^-50
pub support_limit_is : support_limit ≡ fin false 25 (negsuc 49)
unfolding of_bits
support_limit_is = refl

-- the Rust's `100. * epsilon`: one product, which loses nothing
pub support_limit_rust : support_limit ≡ mul binary64 (of_int binary64 (pos 100)) (fin false 1 (negsuc 51))
unfolding of_bits mul of_int
support_limit_rust = refl

-- ---- who is counted

-- the limit itself isn't, the next f64 is, with either sign, and so are the infinities; a NaN isn't, and neither zero is
pub support_edges : (supports support_limit ≡ false) × (supports (of_bits binary64 0x3d19_0000_0000_0001) ≡ true)
    × (supports (neg support_limit) ≡ false) × (supports (of_bits binary64 0xbd19_0000_0000_0001) ≡ true)
    × (supports (inf false) ≡ true) × (supports (inf true) ≡ true) × (supports nan ≡ false)
    × (supports (of_bits binary64 0) ≡ false) × (supports (of_bits binary64 0x8000_0000_0000_0000) ≡ false)
unfolding of_bits neg abs_of lt
support_edges = (refl, refl, refl, refl, refl, refl, refl, refl, refl)

-- a sign changes nothing
pub supports_neg : (x : Float) → supports (neg x) ≡ supports x
unfolding neg abs_of
supports_neg nan = refl
supports_neg (inf s) = refl
supports_neg (fin s m e) = refl

counted_most : (b : Bool) (t : ℕ) → cond b (t + 1) t ≤ t + 1
counted_most true t = omega arith
counted_most false t = omega arith

-- n places count n at the most
pub support_most : (h : List Float) (n : ℕ) → support_of h n ≤ n
unfolding support_of
support_most h zero = omega arith
support_most h (suc n) =
    let a = counted_most (supports (get_or h n nan)) (support_of h n) in
    let b = support_most h n in omega arith
