-- What the two constants are. Assumes nothing.
use mathlib.Core.Bool.{false}
use mathlib.Core.Path.{◌≡◌, refl}
use lib.IntN.{pos}
use lib.Ieee.{fin, binary64, of_bits, div, of_int}
use Rattle.alpha.specs.Weight.{floor, limit}

-- 1 / 10^10, rounded once
pub floor_is : floor ≡ div binary64 (of_int binary64 (pos 1)) (of_int binary64 (pos 10000000000))
unfolding of_bits div of_int
floor_is = refl

-- 2^1000, exactly
pub limit_is : limit ≡ fin false 1 (pos 1000)
unfolding of_bits
limit_is = refl
