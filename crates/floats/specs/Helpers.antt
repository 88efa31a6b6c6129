-- The helpers that the Rust takes from its float type (the rule, section 'Helpers').
use Rattle.std.specs.Prelude.{ℕ, false, cond, pos, is_nan, Float}
use Rattle.std.specs.Float.{nan, inf, fin, binary64}
use Rattle.std.specs.Float.Ieee.{lt, mul, of_int, to_unsigned}

-- the larger: a NaN operand is passed over, and of equals the first is kept
abbrev pub max_of : Float → Float → Float
max_of x y = cond (is_nan x) y (cond (lt x y) y x)

-- the smaller, likewise
abbrev pub min_of : Float → Float → Float
min_of x y = cond (is_nan x) y (cond (lt y x) y x)

-- the magnitude: the sign is cleared, of −0 too
unfoldable pub abs_of : Float → Float
abs_of nan = nan
abs_of (inf s) = inf false
abs_of (fin s m e) = fin false m e

-- a whole number as a float
abbrev pub whole_as_float : ℕ → Float
whole_as_float n = of_int binary64 (pos n)

-- the whole part: toward zero, 0 for a NaN, and the nearest end of 0..2^64 − 1 outside it
abbrev pub whole_part : Float → ℕ
whole_part x = to_unsigned 64 x

-- the whole part of the product nu·n, rounded once
abbrev pub whole_product : Float → ℕ → ℕ
whole_product nu n = whole_part (mul binary64 nu (whole_as_float n))
