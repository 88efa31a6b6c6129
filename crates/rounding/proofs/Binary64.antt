-- Constants of the f64 format, and whole numbers in either format. Assumes nothing.
use mathlib.Core.Path.{◌≡◌, refl, sym}
use mathlib.Core.Bool.{false}
use Prim.Native.Nat.{ℕ, ◌+◌, ◌*◌, ◌^◌, ◌≤◌, ◌<◌}
use native.Mathlib.Nat.{zero-lt-suc, mul-one}
use lib.IntN.{pos}
use lib.Dec.{T, lit<}
use lib.Ieee.{Float, Format, binary64, prec, low, of_int, of_bits, is_nan, lt}
use lib.Ieee.Fits.{of_int-fits}
use lib.Ieee.Bits.{of_bits-fits}
use lib.Ieee.Back.{round_whole}
use lib.Ieee.Scale.{overflow, finite}
use Rattle.rounding.specs.Units.{Number, plus, minus, Parts, nought, exact_two}
use Rattle.rounding.proofs.Rounding.{value_parts}

pub zero_is : of_bits binary64 0 ≡ nought
unfolding of_bits
zero_is = refl

pub two_is : of_bits binary64 0x4000_0000_0000_0000 ≡ exact_two
unfolding of_bits
two_is = refl

-- 2 ^ 1000
abbrev limit : Float
limit = of_bits binary64 0x7e70_0000_0000_0000

pub limit_parts : Parts binary64 limit (2 ^ 2074) 0
unfolding of_bits is_nan plus minus
limit_parts = record { number = record { fit = of_bits-fits binary64 0x7e70_0000_0000_0000; real = tt }; plus_is = refl; minus_is = refl }

pub limit_room : 2 ^ 2074 + 2 ^ 2074 < overflow binary64
limit_room = lit< tt

-- the f64 nearest to 1e-10
abbrev floor : Float
floor = of_bits binary64 0x3ddb_7cdf_d9d7_bdbb

pub floor_above : Number binary64 floor × T (finite floor) × T (lt nought floor)
unfolding of_bits is_nan lt
floor_above = (record { fit = of_bits-fits binary64 0x3ddb_7cdf_d9d7_bdbb; real = tt }, tt, tt)

-- a whole number
pub whole_parts : (f : Format) (n : ℕ) → n ≤ 2 ^ prec f → Parts f (of_int f (pos n)) (n * 2 ^ low f) 0
unfolding of_int
whole_parts f n h =
    let u = n * 2 ^ low f in
    value_parts f (of_int f (pos n)) false n 1 u (of_int-fits f (pos n)) (round_whole f false n h) (zero-lt-suc 0) (sym (mul-one u))
