-- The curvature of a pair, before the floor (the rule, sections 'Pair choice' and 'Update').
use Rattle.std.specs.Prelude.{Bool, cond, Float}
use Rattle.std.specs.Float.{binary64}
use Rattle.std.specs.Float.Ieee.{add, sub, mul}
use Rattle.alpha.specs.Weight.{two}

-- the sum of two diagonals, minus twice the row entry r where the labels agree, plus where they don't
unfoldable pub curved : Bool → Float → Float → Float → Float
curved agree di dj r =
    let twice = mul binary64 two r in
    cond agree (sub binary64 (add binary64 di dj) twice) (add binary64 (add binary64 di dj) twice)
