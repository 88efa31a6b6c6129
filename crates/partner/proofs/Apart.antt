-- A position never follows itself: its d would be a sum of opposites. Assumes nothing.
use Prim.Native.Nat.{ℕ, ◌-◌, ◌*◌, ◌^◌, ◌<◌}
use mathlib.Core.Bool.{Bool, true, false, cond}
use mathlib.Core.Path.{◌≡◌, refl}
use native.Mathlib.Nat.{mul-pos}
use native.Mathlib.Omega.{arith}
use lib.Dec.{T, ltb}
use lib.IntN.{ℤ}
use lib.Pow.{pow_pos}
use lib.Ieee.{Float, nan, inf, fin, Format, binary64, low, up, down, round, sum, neg, add, sub, lt}
use lib.Ieee.Fits.{down_pos}
use lib.Ieee.Scale.{round_same}
use Rattle.alpha.specs.Weight.{zero}
use Rattle.rounding.specs.Units.{nought}
use Rattle.rounding.proofs.Order.{neg_neg}
use Rattle.rounding.proofs.Binary64.{zero_is}
use Rattle.rounding.proofs.Rounding.{round_number, round_parts, rounded_zero}
use Rattle.rounding.proofs.Units.{compare, zero_parts}
use Rattle.state.specs.Lists.{Problem, State}
use Rattle.state.specs.Fields.{gradient, positive}
use Rattle.partner.specs.Second.{gap}
use Rattle.partner.specs.Curvature.{gap_of}
use Rattle.partner.specs.Sides.{rise, rise_of}

module _ (f : Format) where
  rounded_none : (s : Bool) → T (lt nought (round f s 0 (2 ^ low f))) → ⊥
  rounded_none false t = omega (arith, (compare f nought (round f false 0 (2 ^ low f)) (zero_parts f false).number (round_number f false 0 (2 ^ low f))).less.0 t, round_parts f false 0, rounded_zero f 0 refl, zero_parts f false)
  rounded_none true t = omega (arith, (compare f nought (round f true 0 (2 ^ low f)) (zero_parts f false).number (round_number f true 0 (2 ^ low f))).less.0 t, round_parts f true 0, rounded_zero f 0 refl, zero_parts f false)

  -- nothing, rounded
  none : (s : Bool) (a c : ℕ) → 0 < c → T (lt nought (round f s (a - a) c)) → ⊥
  none s a c h t =
      let z : a - a ≡ 0 = omega arith in
      rounded_none s (rw (z, round_same f s 0 c 0 (2 ^ low f) h (pow_pos (low f)) (omega arith)) at t)

  none_of_two : (b s u : Bool) (m : ℕ) (e : ℤ)
      → T (lt nought (cond b (round f s (m * up e * down e - m * up e * down e) (down e * down e)) (round f u (m * up e * down e - m * up e * down e) (down e * down e)))) → ⊥
  none_of_two true s u m e t = none s (m * up e * down e) (down e * down e) (mul-pos (down_pos e) (down_pos e)) t
  none_of_two false s u m e t = none u (m * up e * down e) (down e * down e) (mul-pos (down_pos e) (down_pos e)) t

  opposites : (x : Float) → T (lt nought (add f x (neg x))) → ⊥
  unfolding add sum neg lt
  opposites nan t = t
  opposites (inf true) t = t
  opposites (inf false) t = t
  opposites (fin true m e) t = none_of_two (ltb (m * up e * down e) (m * up e * down e)) false (ltb (m * up e * down e) (m * up e * down e)) m e t
  opposites (fin false m e) t = none_of_two (ltb (m * up e * down e) (m * up e * down e)) true false m e t

own_gap : (pos : Bool) (g : Float) → T (lt zero (gap_of pos (rise_of pos g) g)) → ⊥
unfolding sub
own_gap true g t = opposites binary64 (neg g) (rw (neg_neg g) (rw zero_is at t))
own_gap false g t = opposites binary64 g (rw zero_is at t)

-- the two of a pair are different positions
pub apart : (p : Problem) (s : State) (i j : ℕ) → T (lt zero (gap p s (rise p s i) j)) → i ≡ j → ⊥
apart p s i j t e = own_gap (positive s j) (gradient p s j) (rw e at t)
