-- The clipped pair: what a step leaves of two weights (the rule, section 'Update'). Every operation is rounded once, in this order.
use Rattle.std.specs.Prelude.{Bool, cond, Float}
use Rattle.std.specs.Float.{binary64}
use Rattle.std.specs.Float.Ieee.{neg, add, sub, div, lt, le}
use Rattle.alpha.specs.Weight.{zero, weight}
use Rattle.alpha.specs.declared.Alpha.{Alpha}
use Rattle.kernel.specs.Curvature.{curved}
use Rattle.update.specs.declared.Pair.{Pair}

abbrev pub pair : Alpha → Alpha → Pair
pair wi wj = record { i = wi; j = wj }

-- the values x and y under the pair's ceilings
abbrev pub holding : Pair → Float → Float → Pair
holding p x y = pair (weight x p.i.upper) (weight y p.j.upper)

-- ---- the step

-- a NaN stays
unfoldable pub floored : Float → Float → Float
floored floor q = cond (le q zero) floor q

unfoldable pub step_of : Bool → Float → Float → Float → Float
step_of agree gi gj q = div binary64 (cond agree (sub binary64 gi gj) (neg (add binary64 gi gj))) q

-- ---- one weight at an end of its range, and what the other becomes then

unfoldable pub i_capped : Pair → Float → Pair
i_capped p y = cond (lt p.i.upper p.i.value) (holding p p.i.upper y) p

unfoldable pub j_capped : Pair → Float → Pair
j_capped p x = cond (lt p.j.upper p.j.value) (holding p x p.j.upper) p

unfoldable pub i_raised : Pair → Float → Pair
i_raised p y = cond (lt p.i.value zero) (holding p zero y) p

unfoldable pub j_raised : Pair → Float → Pair
j_raised p x = cond (lt p.j.value zero) (holding p x zero) p

-- ---- the labels differ: both weights move by delta, and their difference is kept

unfoldable pub differ_low : Pair → Float → Pair
differ_low p diff = cond (lt zero diff) (j_raised p diff) (i_raised p (neg diff))

unfoldable pub differ_high : Pair → Float → Pair
differ_high p diff =
    let bi = p.i.upper in
    let bj = p.j.upper in
    cond (lt (sub binary64 bi bj) diff) (i_capped p (sub binary64 bi diff)) (j_capped p (add binary64 bj diff))

unfoldable pub differed : Pair → Float → Pair
differed p delta =
    let diff = sub binary64 p.i.value p.j.value in
    differ_high (differ_low (holding p (add binary64 p.i.value delta) (add binary64 p.j.value delta)) diff) diff

-- ---- the labels agree: what the one loses the other gains, and their sum is kept

unfoldable pub agree_first : Pair → Float → Pair
agree_first p sum = let bi = p.i.upper in cond (lt bi sum) (i_capped p (sub binary64 sum bi)) (j_raised p sum)

unfoldable pub agree_second : Pair → Float → Pair
agree_second p sum = let bj = p.j.upper in cond (lt bj sum) (j_capped p (sub binary64 sum bj)) (i_raised p sum)

unfoldable pub agreed : Pair → Float → Pair
agreed p delta =
    let sum = add binary64 p.i.value p.j.value in
    agree_second (agree_first (holding p (sub binary64 p.i.value delta) (add binary64 p.j.value delta)) sum) sum

-- ---- the whole

unfoldable pub clipped_step : Bool → Pair → Float → Pair
clipped_step agree p delta = cond agree (agreed p delta) (differed p delta)

unfoldable pub pair_of : Alpha → Alpha → Float → Float → Float → Float → Float → Bool → Float → Pair
pair_of wi wj gi gj di dj r agree floor =
    clipped_step agree (pair wi wj) (step_of agree gi gj (floored floor (curved agree di dj r)))
