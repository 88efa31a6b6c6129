-- What the helpers mean, for callers. Assumes nothing.
use Rattle.std.proofs.Common.{◌≡◌, ℕ, zero, suc, ◌+◌, ◌-◌, ◌*◌, ◌/◌, ◌^◌, ◌<◌, ◌≤◌, min, Bool, true, false, cond, not, T, ◌⊎◌, sym, refl, subst, inl, inr, lt_of_le_of_lt, mul-le-mul_right, lt_of_mul-lt-mul_right, mul-lt-mul_of_pos_right, div-mul-le_self, le_of_mul-le-mul_right, arith, T_not, pow_pos}
use native.Mathlib.Nat.{lt-div-mul-add, min-eq_left}
use lib.Ieee.{Float, nan, inf, fin, Format, low, up, down, lt, le, is_nan, fits, to_unsigned}
use lib.Ieee.Fits.{down_pos}
use lib.Ieee.Scale.{finite}
use Rattle.rounding.specs.Units.{NotNan, Number, Parts, plus, minus, magnitude}
use Rattle.rounding.proofs.Nan.{lt_nan, nan_lt}
use Rattle.rounding.proofs.Order.{le_refl, lt→le, lt_real, not_lt}
use Rattle.rounding.proofs.Units.{value}
use Rattle.floats.specs.Helpers.{max_of, min_of, abs_of}

-- ---- max and min: z is x or y, a NaN is passed over, no number of the two is R-beyond z, and of equals z is the first
pub record Picks (R : Float → Float → Bool) (x y z : Float) : Type 0 where
  pub one_of : (z ≡ x) ⊎ (z ≡ y)
  pub number : NotNan x ⊎ NotNan y → NotNan z
  pub first : NotNan x → T (R x z)
  pub second : NotNan y → T (R y z)
  pub tie : NotNan x → T (not (lt x y)) → T (not (lt y x)) → z ≡ x

module _ (R : Float → Float → Bool) (itself : (x : Float) → NotNan x → T (R x x)) (x y : Float) where
  -- by the two tests: x is a NaN, and y is to be taken
  picks : (a b : Bool) → is_nan x ≡ a → (T b → NotNan y × T (R x y)) → (T (not b) → NotNan x → NotNan y → T (R y x)) → (T b → T (not (lt x y)) → T (not (lt y x)) → ⊥)
      → Picks R x y (cond a y (cond b y x))
  picks true b e s k d =
      let no : NotNan x → ⊥ = λ p. subst (λ (c : Bool). T (not c)) e p in
      record {
        one_of = inr refl;
        number = λ h. elim h [ inl p ↦ absurd (no p) | inr q ↦ q ];
        first = λ p. absurd (no p);
        second = itself y;
        tie = λ p t u. absurd (no p);
      }
  picks false true e s k d =
      record { one_of = inr refl; number = λ h. (s tt).0; first = λ p. (s tt).1; second = itself y; tie = λ p t u. absurd (d tt t u) }
  picks false false e s k d =
      let p : NotNan x = subst (λ (c : Bool). T (not c)) (sym e) tt in
      record { one_of = inl refl; number = λ h. p; first = itself x; second = k tt p; tie = λ q t u. refl }

pub max_picks : (x y : Float) → Picks le x y (max_of x y)
max_picks x y =
    picks le le_refl x y (is_nan x) (lt x y) refl (λ t. ((lt_real x y t).1, lt→le x y t)) (λ t p q. (not_lt x y p q).0 t) (λ t a b. T_not (lt x y) a t)

pub min_picks : (x y : Float) → Picks (λ a b. le b a) x y (min_of x y)
min_picks x y =
    picks (λ a b. le b a) le_refl x y (is_nan x) (lt y x) refl (λ t. ((lt_real y x t).0, lt→le y x t)) (λ t p q. (not_lt y x q p).0 t) (λ t a b. T_not (lt y x) b t)

-- a NaN is passed over
pub max_nan : (x : Float) → max_of x nan ≡ x
unfolding is_nan
max_nan nan = refl
max_nan (inf s) = rw (lt_nan (inf s))
max_nan (fin s m e) = rw (lt_nan (fin s m e))

pub min_nan : (x : Float) → min_of x nan ≡ x
unfolding is_nan
min_nan nan = refl
min_nan (inf s) = rw (nan_lt (inf s))
min_nan (fin s m e) = rw (nan_lt (fin s m e))

-- ---- abs: as far above zero as x is from it
abs_number : (f : Format) (x : Float) → Number f x → Number f (abs_of x)
unfolding abs_of fits is_nan
abs_number f nan p = p
abs_number f (inf s) p = record { fit = tt; real = tt }
abs_number f (fin s zero e) p = record { fit = p.fit; real = tt }
abs_number f (fin s (suc m) e) p = record { fit = p.fit; real = tt }

pub abs_parts : (f : Format) (x : Float) → Number f x → Parts f (abs_of x) (plus f x + minus f x) 0
unfolding abs_of plus minus
abs_parts f nan p = record { number = abs_number f nan p; plus_is = refl; minus_is = refl }
abs_parts f (inf true) p = record { number = abs_number f (inf true) p; plus_is = omega arith; minus_is = refl }
abs_parts f (inf false) p = record { number = abs_number f (inf false) p; plus_is = omega arith; minus_is = refl }
abs_parts f (fin true m e) p = record { number = abs_number f (fin true m e) p; plus_is = omega arith; minus_is = refl }
abs_parts f (fin false m e) p = record { number = abs_number f (fin false m e) p; plus_is = omega arith; minus_is = refl }

-- ---- the whole part: the largest whole number not above x, for an x from 0 up to 2^64
pub record Largest (u r x : ℕ) : Type 0 where
  pub not_above : r * u ≤ x
  pub next_above : x < r * u + u

largest : (w d l m : ℕ) → 0 < d → 0 < l → w * d ≡ m * l → Largest l (m / d) w
largest w d l m D L h =
    let a = mul-le-mul_right l (div-mul-le_self m d) in
    let b = mul-lt-mul_of_pos_right (lt-div-mul-add {a = m} {b = d} D) L in
    record {
      not_above = le_of_mul-le-mul_right {k = d} (omega arith) D;
      next_above = lt_of_mul-lt-mul_right d (omega arith);
    }

pub whole_largest : (f : Format) (x : Float) → Number f x → T (finite x) → minus f x ≡ 0 → plus f x < 2 ^ 64 * 2 ^ low f → Largest (2 ^ low f) (to_unsigned 64 x) (plus f x)
unfolding plus minus to_unsigned
whole_largest f nan p t z h = absurd t
whole_largest f (inf s) p t z h = absurd t
whole_largest f (fin true m e) p t z h = let q = pow_pos (low f) in record { not_above = omega arith; next_above = omega arith }
whole_largest f (fin false m e) p t z h =
    let v = value f false m e p in
    let g = largest (magnitude f (fin false m e)) (down e) (2 ^ low f) (m * up e) (down_pos e) (pow_pos (low f)) v.cross in
    let r : m * up e / down e < 2 ^ 64 = lt_of_mul-lt-mul_right (2 ^ low f) (lt_of_le_of_lt g.not_above h) in
    let s : min (m * up e / down e) (2 ^ 64 - 1) ≡ m * up e / down e = min-eq_left (omega arith) in
    rw s g
