-- Where ceilings and weights are f64s, so is what a step leaves of them. Assumes nothing.
use mathlib.Core.Bool.{Bool, true, false, cond}
use lib.Dec.{T}
use lib.Ieee.{Float, binary64, neg, sub, lt, fits}
use lib.Ieee.Bits.{of_bits-fits}
use lib.Ieee.Fits.{neg-fits, add-fits, sub-fits}
use Rattle.alpha.specs.Weight as Weight
use Rattle.alpha.specs.declared.Alpha.{Alpha}
use Rattle.update.specs.Pair.{pair, holding, i_capped, j_capped, i_raised, j_raised, differ_low, differ_high, differed, agree_first, agree_second, agreed, clipped_step, pair_of}
use Rattle.update.specs.declared.Pair.{Pair}
use Rattle.finder.specs.Found.{found_pair}

abbrev pub Double : Float → Type 0
Double x = T (fits binary64 x)

pub record Doubled (q : Pair) : Type 0 where
  pub value_i : Double q.i.value
  pub value_j : Double q.j.value
  pub upper_i : Double q.i.upper
  pub upper_j : Double q.j.upper

either : (b : Bool) (p q : Pair) → Doubled p → Doubled q → Doubled (cond b p q)
either true p q x y = x
either false p q x y = y

module _ (p : Pair) (d : Doubled p) where
  holds : (x y : Float) → Double x → Double y → Doubled (holding p x y)
  holds x y hx hy = record { value_i = hx; value_j = hy; upper_i = d.upper_i; upper_j = d.upper_j }

  i_capped_law : (y : Float) → Double y → Doubled (i_capped p y)
  unfolding i_capped
  i_capped_law y h = either (lt p.i.upper p.i.value) _ p (holds p.i.upper y d.upper_i h) d

  j_capped_law : (x : Float) → Double x → Doubled (j_capped p x)
  unfolding j_capped
  j_capped_law x h = either (lt p.j.upper p.j.value) _ p (holds x p.j.upper h d.upper_j) d

  i_raised_law : (y : Float) → Double y → Doubled (i_raised p y)
  unfolding i_raised
  i_raised_law y h = either (lt p.i.value Weight.zero) _ p (holds Weight.zero y (of_bits-fits binary64 0) h) d

  j_raised_law : (x : Float) → Double x → Doubled (j_raised p x)
  unfolding j_raised
  j_raised_law x h = either (lt p.j.value Weight.zero) _ p (holds x Weight.zero h (of_bits-fits binary64 0)) d

  differ_low_law : (x : Float) → Double x → Doubled (differ_low p x)
  unfolding differ_low
  differ_low_law x h = either (lt Weight.zero x) _ _ (j_raised_law x h) (i_raised_law (neg x) (neg-fits binary64 x h))

  differ_high_law : (x : Float) → Doubled (differ_high p x)
  unfolding differ_high
  differ_high_law x = either (lt (sub binary64 p.i.upper p.j.upper) x) _ _ (i_capped_law _ (sub-fits binary64 p.i.upper x)) (j_capped_law _ (add-fits binary64 p.j.upper x))

  agree_first_law : (x : Float) → Double x → Doubled (agree_first p x)
  unfolding agree_first
  agree_first_law x h = either (lt p.i.upper x) _ _ (i_capped_law _ (sub-fits binary64 x p.i.upper)) (j_raised_law x h)

  agree_second_law : (x : Float) → Double x → Doubled (agree_second p x)
  unfolding agree_second
  agree_second_law x h = either (lt p.j.upper x) _ _ (j_capped_law _ (sub-fits binary64 x p.j.upper)) (i_raised_law x h)

pub step_doubled : (p : Pair) → Doubled p → (agree : Bool) (delta : Float) → Doubled (clipped_step agree p delta)
unfolding clipped_step agreed differed
step_doubled p d agree delta =
    let x = p.i.value in
    let y = p.j.value in
    let a = holds p d _ _ (sub-fits binary64 x delta) (add-fits binary64 y delta) in
    let b = holds p d _ _ (add-fits binary64 x delta) (add-fits binary64 y delta) in
    either agree _ _
    (agree_second_law _ (agree_first_law _ a _ (add-fits binary64 x y)) _ (add-fits binary64 x y))
    (differ_high_law _ (differ_low_law _ b _ (sub-fits binary64 x y)) _)

pub found_doubled : (wi wj : Alpha) → Doubled (pair wi wj) → (gi gj di dj r : Float) (agree : Bool) → Doubled (found_pair wi wj gi gj di dj r agree)
unfolding found_pair pair_of
found_doubled wi wj d gi gj di dj r agree = step_doubled (pair wi wj) d agree _
