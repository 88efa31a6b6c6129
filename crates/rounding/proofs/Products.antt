-- A product and a quotient in units, the sign that goes through both, and twice a value, which is its sum with itself. Assumes nothing.
--
-- Main theorems:
--   mul_units: a product of finite numbers is the exact one of their units, rounded once
--   div_units: so is a quotient of finite numbers, by one that isn't 0
--   mul_comm: a product is the same whichever factor comes first
--   mul_neg: a negated factor negates the product; `mul_neg_right` for the second
--   div_neg: a negated dividend negates the quotient; `div_neg_right` for the divisor
--   twice: twice a float is its sum with itself
--   twice_parts: below the overflow the double is exact
use mathlib.Core.Path.{◌≡◌, refl, ap, ap₂, ◌∙◌}
use mathlib.Core.Logic.{inl, inr}
use mathlib.Core.Bool.{Bool, true, false, not, cond}
use Prim.Native.Nat.{ℕ, ◌+◌, ◌*◌, ◌^◌, ◌<◌}
use native.Mathlib.Nat.{eq-zero-or-pos, mul-pos, mul_comm as times-comm, eq_of_mul-eq-mul_right}
use native.Mathlib.Omega.{arith}
use lib.IntN.{pos}
use lib.Dec.{T, eqb, eqb→eq, not_T}
use lib.Pow.{pow_pos}
use lib.Ieee.{Float, nan, inf, fin, Format, low, up, down, unlike, round, sum, neg, add, mul, div}
use lib.Ieee.Fits.{up_pos, down_pos}
use lib.Ieee.Bits.{cond_no}
use lib.Ieee.Scale.{overflow, finite, round_same}
use Rattle.rounding.specs.Units.{Number, negative, magnitude, plus, minus, Parts, rounded, exact_two}
use Rattle.rounding.proofs.Units.{value, one_part, finite_parts}
use Rattle.rounding.proofs.Rounding.{round_neg, rounded_twice}
use Rattle.rounding.proofs.Sums.{add_rounds, add_number}

-- ---- the sign of a product

unlike_not : (s t : Bool) → unlike (not s) t ≡ not (unlike s t)
unlike_not true true = refl
unlike_not true false = refl
unlike_not false true = refl
unlike_not false false = refl

unlike_swap : (s t : Bool) → unlike s t ≡ unlike t s
unlike_swap true true = refl
unlike_swap true false = refl
unlike_swap false true = refl
unlike_swap false false = refl

unlike_not_right : (s t : Bool) → unlike s (not t) ≡ not (unlike s t)
unlike_not_right s t = cc (unlike_swap s (not t), unlike_not t s, unlike_swap t s)

some_inf : (b r : Bool) → cond b nan (inf (not r)) ≡ neg (cond b nan (inf r))
unfolding neg
some_inf true r = refl
some_inf false r = refl

module _ (f : Format) where
  -- ---- in units

  pub mul_units : (x y : Float) → Number f x → Number f y → T (finite x) → T (finite y)
      → mul f x y ≡ round f (unlike (negative x) (negative y)) (magnitude f x * magnitude f y) (2 ^ low f * 2 ^ low f)
  unfolding mul
  mul_units (fin s m e) (fin t n d) p q h k =
      let l = 2 ^ low f in
      let u = magnitude f (fin s m e) in
      let v = magnitude f (fin t n d) in
      let i = pow_pos (low f) in
      round_same f (unlike s t) (m * up e * (n * up d)) (down e * down d) (u * v) (l * l) (mul-pos (down_pos e) (down_pos d)) (mul-pos i i)
      (omega (arith, ap₂ (λ (a b : ℕ). a * b) (value f s m e p).cross (value f t n d q).cross))
  mul_units nan y p q h k = elim h [ ]
  mul_units (inf _) y p q h k = elim h [ ]
  mul_units (fin s m e) nan p q h k = elim k [ ]
  mul_units (fin s m e) (inf _) p q h k = elim k [ ]

  pub div_units : (x y : Float) → Number f x → Number f y → T (finite x) → T (finite y) → 0 < magnitude f y
      → div f x y ≡ round f (unlike (negative x) (negative y)) (magnitude f x) (magnitude f y)
  unfolding div
  div_units (fin s m e) (fin t n d) p q h k some =
      let l = 2 ^ low f in
      let u = magnitude f (fin s m e) in
      let v = magnitude f (fin t n d) in
      let g : u * down e ≡ m * up e * l = (value f s m e p).cross in
      let i : v * down d ≡ n * up d * l = (value f t n d q).cross in
      let z : 0 < n = elim (eq-zero-or-pos n) [ inl j ↦ omega (arith, mul-pos some (down_pos d), ap (λ (a : ℕ). a * up d * l) j) | inr j ↦ j ] in
      cond_no (eqb n 0) _ _ (not_T (eqb n 0) (λ t. omega (arith, eqb→eq n 0 t)))
      ∙ round_same f (unlike s t) (m * up e * down d) (n * up d * down e) u v (mul-pos (mul-pos z (up_pos d)) (down_pos e)) some
      (eq_of_mul-eq-mul_right l (pow_pos (low f)) (m * up e * down d * v) (u * (n * up d * down e))
      (omega (arith, ap (λ (a : ℕ). a * (down d * v)) g, ap (λ (a : ℕ). a * (u * down e)) i)))
  div_units nan y p q h k some = elim h [ ]
  div_units (inf _) y p q h k some = elim h [ ]
  div_units (fin s m e) nan p q h k some = elim k [ ]
  div_units (fin s m e) (inf _) p q h k some = elim k [ ]

  -- ---- the sign goes through, for all floats

  pub mul_comm : (x y : Float) → mul f x y ≡ mul f y x
  unfolding mul
  mul_comm nan nan = refl
  mul_comm nan (inf t) = refl
  mul_comm nan (fin t n d) = refl
  mul_comm (inf s) nan = refl
  mul_comm (inf s) (inf t) = ap inf (unlike_swap s t)
  mul_comm (inf s) (fin t n d) = ap (λ (r : Bool). cond (eqb n 0) nan (inf r)) (unlike_swap s t)
  mul_comm (fin s m e) nan = refl
  mul_comm (fin s m e) (inf t) = ap (λ (r : Bool). cond (eqb m 0) nan (inf r)) (unlike_swap s t)
  mul_comm (fin s m e) (fin t n d) = cc (unlike_swap s t, times-comm (m * up e) (n * up d), times-comm (down e) (down d))

  pub mul_neg : (x y : Float) → mul f (neg x) y ≡ neg (mul f x y)
  unfolding mul neg
  mul_neg nan y = refl
  mul_neg (inf s) nan = refl
  mul_neg (inf s) (inf t) = ap inf (unlike_not s t)
  mul_neg (inf s) (fin t n d) = rw (unlike_not s t) (some_inf (eqb n 0) (unlike s t))
  mul_neg (fin s m e) nan = refl
  mul_neg (fin s m e) (inf t) = rw (unlike_not s t) (some_inf (eqb m 0) (unlike s t))
  mul_neg (fin s m e) (fin t n d) = rw (unlike_not s t) (round_neg f (unlike s t) (m * up e * (n * up d)) (down e * down d))

  pub mul_neg_right : (x y : Float) → mul f x (neg y) ≡ neg (mul f x y)
  mul_neg_right x y = mul_comm x (neg y) ∙ mul_neg y x ∙ ap neg (mul_comm y x)

  some_quotient : (b c r : Bool) (a d : ℕ) → cond b (cond c nan (inf (not r))) (round f (not r) a d) ≡ neg (cond b (cond c nan (inf r)) (round f r a d))
  some_quotient true c r a d = some_inf c r
  some_quotient false c r a d = round_neg f r a d

  pub div_neg : (x y : Float) → div f (neg x) y ≡ neg (div f x y)
  unfolding div neg
  div_neg nan y = refl
  div_neg (inf s) nan = refl
  div_neg (inf s) (inf t) = refl
  div_neg (inf s) (fin t n d) = ap inf (unlike_not s t)
  div_neg (fin s m e) nan = refl
  div_neg (fin s m e) (inf t) = ap (λ (r : Bool). fin r 0 (pos 0)) (unlike_not s t)
  div_neg (fin s m e) (fin t n d) = rw (unlike_not s t) (some_quotient (eqb n 0) (eqb m 0) (unlike s t) (m * up e * down d) (n * up d * down e))

  pub div_neg_right : (x y : Float) → div f x (neg y) ≡ neg (div f x y)
  unfolding div neg
  div_neg_right nan y = refl
  div_neg_right (inf s) nan = refl
  div_neg_right (inf s) (inf t) = refl
  div_neg_right (inf s) (fin t n d) = ap inf (unlike_not_right s t)
  div_neg_right (fin s m e) nan = refl
  div_neg_right (fin s m e) (inf t) = ap (λ (r : Bool). fin r 0 (pos 0)) (unlike_not_right s t)
  div_neg_right (fin s m e) (fin t n d) = rw (unlike_not_right s t) (some_quotient (eqb n 0) (eqb m 0) (unlike s t) (m * up e * down d) (n * up d * down e))

  -- ---- twice a value

  double : (s : Bool) (a d : ℕ) → 0 < d → round f s (2 * a) (1 * d) ≡ round f s (a * d + a * d) (d * d)
  double s a d h = round_same f s (2 * a) (1 * d) (a * d + a * d) (d * d) (omega arith) (mul-pos h h) (omega arith)

  pub twice : (x : Float) → mul f exact_two x ≡ add f x x
  unfolding mul add sum
  twice nan = refl
  twice (inf false) = refl
  twice (inf true) = refl
  twice (fin false m e) = double false (m * up e) (down e) (down_pos e)
  twice (fin true m e) = double true (m * up e) (down e) (down_pos e)

  pub twice_parts : (x : Float) → Number f x → plus f x + plus f x < overflow f → minus f x + minus f x < overflow f
      → Parts f (mul f exact_two x) (plus f x + plus f x) (minus f x + minus f x)
  twice_parts x p h k =
      let n = add_number f x x p p (inl ((finite_parts f x p).1 (omega arith))) in
      let g = add_rounds f x x p p n.real in
      let r = rounded_twice f x p h k in
      let o = one_part f x in
      rw (twice x) (record {
        number = n;
        plus_is = g.plus_is ∙ ap (rounded f) (omega arith) ∙ r.0;
        minus_is = g.minus_is ∙ ap (rounded f) (omega arith) ∙ r.1;
      })
