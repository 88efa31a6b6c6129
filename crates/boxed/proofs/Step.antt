-- The step of a chosen pair is no NaN. Assumes nothing.
use mathlib.Core.Logic.{inl, inr}
use mathlib.Core.Bool.{Bool, true, false, not, cond}
use lib.Dec.{T, lit<}
use lib.Ieee.{Float, binary64, neg, add, sub, mul, lt, le}
use lib.Ieee.Fits.{add-fits}
use Rattle.alpha.specs.Weight.{zero, two, limit}
use Rattle.rounding.specs.Units.{NotNan, Within}
use Rattle.rounding.proofs.Order.{neg_neg, le_real, lt_real, not_le}
use Rattle.rounding.proofs.Units.{neg_parts, zero_parts}
use Rattle.rounding.proofs.NoNan.{within_of, within_add, within_sub, within_twice, within_finite, div_real, sub_real}
use Rattle.rounding.proofs.Binary64.{limit_parts, zero_is, two_is}
use Rattle.kernel.specs.Curvature.{curved}
use Rattle.update.specs.Pair.{floored, step_of}
use Rattle.boxed.specs.Range.{Entry, Divides, Chosen}

-- ---- the divisor

entry_within : (x : Float) → Entry x → Within binary64 2074 x
entry_within x e = within_of binary64 2074 limit x limit_parts (record { fit = e.fit; real = (le_real x limit e.high).0 }) e.low e.high

twice_within : (r : Float) → Entry r → Within binary64 2075 (mul binary64 two r)
twice_within r e = rw two_is (within_twice binary64 2074 r (lit< tt) (entry_within r e))

pub curvature_within : (agree : Bool) (di dj r : Float) → Entry di → Entry dj → Entry r → Within binary64 2076 (curved agree di dj r)
unfolding curved
curvature_within agree di dj r ei ej e = go agree
  where
    sum : Within binary64 2075 (add binary64 di dj)
    sum = within_add binary64 2074 di dj (lit< tt) (entry_within di ei) (entry_within dj ej)

    go : (t : Bool) → Within binary64 2076 (cond t (sub binary64 (add binary64 di dj) (mul binary64 two r)) (add binary64 (add binary64 di dj) (mul binary64 two r)))
    go true = within_sub binary64 2075 (add binary64 di dj) (mul binary64 two r) (lit< tt) sum (twice_within r e)
    go false = within_add binary64 2075 (add binary64 di dj) (mul binary64 two r) (lit< tt) sum (twice_within r e)

zero_real : NotNan zero
zero_real = rw zero_is (zero_parts binary64 false).number.real

floored_divides : (floor q : Float) → Divides floor → Within binary64 2076 q → Divides (floored floor q)
unfolding floored
floored_divides floor q d w = go (le q zero) (λ n. (not_le q zero w.number.real zero_real).0 n)
  where
    go : (t : Bool) → (T (not t) → T (lt zero q)) → Divides (cond t floor q)
    go true h = d
    go false h = record { finite = within_finite binary64 2076 q (lit< tt) w; above = h tt }

-- entries of magnitude 2^1000 at the most have a curvature that is finite and, floored, above 0
pub curvature_divides : (agree : Bool) (di dj r floor : Float) → Entry di → Entry dj → Entry r → Divides floor → Divides (floored floor (curved agree di dj r))
curvature_divides agree di dj r floor ei ej e d = floored_divides floor (curved agree di dj r) d (curvature_within agree di dj r ei ej e)

-- ---- the step

add_real : (x y : Float) → NotNan (sub binary64 (neg x) y) → NotNan (add binary64 x y)
unfolding sub
add_real x y h = rw (neg_neg y) at (sub_real binary64 x (neg y) h)

neg_real : (x y : Float) → NotNan (add binary64 x y) → NotNan (neg (add binary64 x y))
neg_real x y h = (neg_parts binary64 (add binary64 x y) (record { fit = add-fits binary64 x y; real = h })).number.real

dividend_real : (agree : Bool) (gi gj : Float) → Chosen agree gi gj → NotNan (cond agree (sub binary64 gi gj) (neg (add binary64 gi gj)))
dividend_real true gi gj (inl h) = sub_real binary64 gi gj (lt_real zero (add binary64 (neg gi) gj) h).1
dividend_real true gi gj (inr h) = (lt_real zero (sub binary64 gi gj) h).1
dividend_real false gi gj (inl h) = neg_real gi gj (add_real gi gj (lt_real zero (sub binary64 (neg gi) gj) h).1)
dividend_real false gi gj (inr h) = neg_real gi gj (lt_real zero (add binary64 gi gj) h).1

pub step_real : (agree : Bool) (gi gj q : Float) → Chosen agree gi gj → Divides q → NotNan (step_of agree gi gj q)
unfolding step_of
step_real agree gi gj q h d = div_real binary64 _ q (dividend_real agree gi gj h) d.finite (rw zero_is at d.above)
