-- An f64 as eight bytes, the lowest first (the rule, section 'Bytes').
use Rattle.std.specs.Prelude.{ℕ, zero, suc, ◌+◌, ◌*◌, ◌/◌, ◌%◌, ◌^◌, List, get_or, set, Float}
use Rattle.std.specs.Float.{binary64}
use Rattle.std.specs.Float.Ieee.{of_bits, to_bits}

-- the number in the k bytes from at on
unfoldable pub digits : List ℕ → ℕ → ℕ → ℕ
digits b at zero = 0
digits b at (suc k) = digits b at k + get_or b (at + k) 0 * 256 ^ k

-- b with the k lowest digits of w from at on
unfoldable pub with_digits : List ℕ → ℕ → ℕ → ℕ → List ℕ
with_digits b at w zero = b
with_digits b at w (suc k) = set (with_digits b at w k) (at + k) (w / 256 ^ k % 256)

-- the float in the eight bytes from at on: every pattern of a NaN is the NaN
abbrev pub float_at : List ℕ → ℕ → Float
float_at b at = of_bits binary64 (digits b at 8)

-- b with x in the eight bytes from at on: the NaN is written 0x7ff8000000000000
abbrev pub with_float : List ℕ → ℕ → Float → List ℕ
with_float b at x = with_digits b at (to_bits binary64 x) 8
