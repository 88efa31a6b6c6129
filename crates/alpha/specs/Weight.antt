-- One weight with its ceiling, and what is asked of it (the rule, section 'Alpha').
use Rattle.std.specs.Prelude.{Bool, ◌&&◌, cond, Float}
use Rattle.std.specs.Float.{binary64}
use Rattle.std.specs.Float.Ieee.{of_bits, neg, lt, le, eq}
use Rattle.alpha.specs.declared.Alpha.{Alpha}

-- +0
abbrev pub zero : Float
zero = of_bits binary64 0

abbrev pub one : Float
one = of_bits binary64 0x3ff0_0000_0000_0000

abbrev pub minus_one : Float
minus_one = neg one

abbrev pub two : Float
two = of_bits binary64 0x4000_0000_0000_0000

-- the f64 nearest to 1e-10: stands for a curvature that isn't above 0
abbrev pub floor : Float
floor = of_bits binary64 0x3ddb_7cdf_d9d7_bdbb

-- 2^1000: the largest magnitude of a kernel entry, and the largest ceiling
abbrev pub limit : Float
limit = of_bits binary64 0x7e70_0000_0000_0000

abbrev pub weight : Float → Float → Alpha
weight v b = record { value = v; upper = b }

abbrev pub at_upper : Alpha → Bool
at_upper w = le w.upper w.value

-- −0 is at lower too
abbrev pub at_lower : Alpha → Bool
at_lower w = eq w.value zero

abbrev pub is_free : Alpha → Bool
is_free w = lt w.value w.upper && lt zero w.value

-- above its ceiling it becomes the ceiling, below 0 it becomes +0; all else stays, −0 and a NaN too
abbrev pub clip : Alpha → Alpha
clip w =
    cond (lt w.upper w.value)
    (weight w.upper w.upper)
    (cond (lt w.value zero) (weight zero w.upper) w)
