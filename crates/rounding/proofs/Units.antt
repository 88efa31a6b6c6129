-- A number's parts: its order, its negation, where it is finite, and that they tell what number it is, but for a zero's sign. Assumes nothing.
--
-- Main theorems:
--   value: the magnitude of a finite number m · 2^e is m with zeros behind it, below the overflow
--   exact_value: a finite number is its magnitude in units, exactly
--   compare: two numbers compare as the sums of their parts do, crosswise: nothing is taken off
--   by_sign: what holds of (0, magnitude) and of (magnitude, 0) holds of the parts; `one_part`: one of them is 0
--   eq_parts: two numbers are equal exactly where both parts are
--   zero_parts: a zero has no parts; `neg_parts`: a negation has them exchanged
--   finite_parts: a number is finite exactly where both parts are below the overflow
--   same_number: a number is known by its sign and its magnitude
--   same_parts: and by its parts, where it is no zero
use mathlib.Core.Path.{◌≡◌, refl, sym, ap, ap₂, ◌∙◌}
use mathlib.Core.Logic.{◌↔◌}
use mathlib.Core.Bool.{Bool, true, false, ◌&&◌, cond}
use Prim.Native.Nat.{ℕ, zero, suc, ◌+◌, ◌-◌, ◌*◌, ◌/◌, ◌%◌, ◌^◌, ◌≤◌, ◌<◌, min}
use native.Mathlib.Nat.{le_trans, not-le_of_lt, zero-mul, zero-min, min-zero, mul-pos, mul-le-mul_right, mul-lt-mul_of_pos_right, lt_of_mul-lt-mul_right}
use native.Mathlib.Omega.{arith}
use lib.IntN.{ℤ, pos}
use lib.Dec.{T, leb, ltb, eqb, ltb→lt, leb→le, eqb→eq}
use lib.Pow.{pow-add, pow_pos}
use lib.Ieee.{Float, nan, inf, fin, Format, prec, emax, low, up, down, size, neg, eq, fits, is_nan, hid, top, to_bits, of_bits}
use lib.Ieee.Fits.{up_pos, down_pos, neg-fits}
use lib.Ieee.Bits.{of_bits-to_bits}
use lib.Ieee.Exact.{HasValue}
use lib.Ieee.Scale.{overflow, finite}
use Rattle.rounding.specs.Units.{NotNan, Number, negative, infinite, magnitude, plus, minus, Parts, Compared}
use Rattle.rounding.proofs.Compare.{Measured, compared, whole}

-- ---- what `fits` says of a finite value

last_three : (a b c d : Bool) → T (a && b && c && d) → T b × T c × T d
last_three true true true d t = (tt, tt, t)
last_three false b c d t = elim t [ ]
last_three true false c d t = elim t [ ]
last_three true true false d t = elim t [ ]

record Held (f : Format) (m : ℕ) (e : ℤ) : Type 0 where
  digits : m < 2 ^ prec f
  places : down e ≤ 2 ^ low f
  under : m * up e < 2 ^ suc (emax f) * down e

held : (f : Format) (s : Bool) (m : ℕ) (e : ℤ) → T (fits f (fin s m e)) → Held f m e
unfolding fits
held f s zero e t = record {
  digits = pow_pos (prec f);
  places = le_trans {m = 1} (omega (arith, eqb→eq (up e * down e) 1 t, mul-le-mul_right (down e) (up_pos e))) (pow_pos (low f));
  under = omega (arith, mul-pos (pow_pos (suc (emax f))) (down_pos e));
}
held f s (suc m) e t =
    let a = suc m in
    let b = 2 ^ suc (emax f) * down e in
    let h = last_three (eqb (a % 2) 1) (ltb a (2 ^ prec f)) (leb (down e) (2 ^ low f)) (ltb (a * up e) b) t in
    record { digits = ltb→lt a (2 ^ prec f) h.0; places = leb→le (down e) (2 ^ low f) h.1; under = ltb→lt (a * up e) b h.2 }

-- so its magnitude w is m with zeros behind it, and below the overflow
pub record Value (f : Format) (m : ℕ) (e : ℤ) (w : ℕ) : Type 0 where
  pub digits : m < 2 ^ prec f
  pub behind : ℕ
  pub shown : w ≡ m * 2 ^ behind
  pub cross : w * down e ≡ m * up e * 2 ^ low f
  pub small : w < overflow f

pub value : (f : Format) (s : Bool) (m : ℕ) (e : ℤ) → Number f (fin s m e) → Value f m e (magnitude f (fin s m e))
value f s m e p =
    let h = held f s m e p.fit in
    let w = whole (low f) m e h.places in
    let k = mul-lt-mul_of_pos_right h.under (pow_pos (low f)) in
    let o = ap (λ (n : ℕ). n * down e) (pow-add 2 (low f) (suc (emax f))) in
    record {
      digits = h.digits;
      behind = w.behind;
      shown = w.shown;
      cross = w.cross;
      small = lt_of_mul-lt-mul_right (down e) (omega (arith, w.cross));
    }

module _ (f : Format) where
  -- x is its magnitude over 2 ^ low, exactly
  pub exact_value : (x : Float) → Number f x → T (finite x) → HasValue x (negative x) (magnitude f x) (2 ^ low f)
  exact_value (fin s m e) p t = (refl, sym (value f s m e p).cross)
  exact_value nan p t = elim t [ ]
  exact_value (inf _) p t = elim t [ ]

  pub overflow_pos : 0 < overflow f
  overflow_pos = pow_pos (low f + suc (emax f))

  -- ---- the order

  measured : (x : Float) → Number f x → Measured (low f) (infinite f) x (magnitude f x)
  unfolding is_nan
  measured nan p = p.real
  measured (inf s) p = refl
  measured (fin s m e) p = let v = value f s m e p in (v.cross, omega (arith, v.small))

  pub compare : (x y : Float) → Number f x → Number f y → Compared x y (plus f x + minus f y) (plus f y + minus f x)
  unfolding plus minus
  compare x y p q = compared (low f) (infinite f) (omega (arith, overflow_pos)) x y (magnitude f x) (magnitude f y) (measured x p) (measured y q)

  -- ---- one of the parts is 0: what holds both ways holds of them, and the same as `omega` reads it

  pub by_sign : (P : ℕ → ℕ → Type 0) (x : Float) → P 0 (magnitude f x) → P (magnitude f x) 0 → P (plus f x) (minus f x)
  unfolding plus minus
  by_sign P x h k = go (negative x)
    where
      go : (s : Bool) → P (cond s 0 (magnitude f x)) (cond s (magnitude f x) 0)
      go true = h
      go false = k

  pub one_part : (x : Float) → min (plus f x) (minus f x) ≡ 0
  one_part x = by_sign (λ a b. min a b ≡ 0) x (zero-min (magnitude f x)) (min-zero (magnitude f x))

  pub magnitude_is : (x : Float) → magnitude f x ≡ plus f x + minus f x
  magnitude_is x = by_sign (λ a b. magnitude f x ≡ a + b) x (omega arith) (omega arith)

  pub eq_parts : (x y : Float) → Number f x → Number f y → T (eq x y) ↔ ((plus f x ≡ plus f y) × (minus f x ≡ minus f y))
  eq_parts x y p q =
      let c = compare x y p q in
      let a = one_part x in
      let b = one_part y in
      (λ t. let e = c.same.0 t in (omega arith, omega arith), λ e. c.same.1 (omega arith))

  -- ---- zeros, and negations

  none : 0 * 2 ^ low f / 1 ≡ 0
  none = ap (λ (n : ℕ). n / 1) (zero-mul (2 ^ low f))

  pub zero_parts : (s : Bool) → Parts f (fin s 0 (pos 0)) 0 0
  unfolding plus minus fits is_nan
  zero_parts true = record { number = record { fit = tt; real = tt }; plus_is = refl; minus_is = none }
  zero_parts false = record { number = record { fit = tt; real = tt }; plus_is = none; minus_is = refl }

  neg_real : (x : Float) → NotNan x → NotNan (neg x)
  unfolding neg is_nan
  neg_real nan p = p
  neg_real (inf s) p = p
  neg_real (fin s m e) p = p

  swapped : (x : Float) → (plus f (neg x) ≡ minus f x) × (minus f (neg x) ≡ plus f x)
  unfolding plus minus neg
  swapped nan = (refl, refl)
  swapped (inf false) = (refl, refl)
  swapped (inf true) = (refl, refl)
  swapped (fin false m e) = (refl, refl)
  swapped (fin true m e) = (refl, refl)

  pub neg_parts : (x : Float) → Number f x → Parts f (neg x) (minus f x) (plus f x)
  neg_parts x p = record {
    number = record { fit = neg-fits f x p.fit; real = neg_real x p.real };
    plus_is = (swapped x).0;
    minus_is = (swapped x).1;
  }

  -- ---- finite

  pub finite_parts : (x : Float) → Number f x → T (finite x) ↔ ((plus f x < overflow f) × (minus f x < overflow f))
  unfolding plus minus is_nan
  finite_parts nan p = absurd p.real
  finite_parts (inf false) p = (λ t. absurd t, λ h. omega arith)
  finite_parts (inf true) p = (λ t. absurd t, λ h. omega arith)
  finite_parts (fin s m e) p =
      let v = (value f s m e p).small in
      (λ t. by_sign (λ a b. (a < overflow f) × (b < overflow f)) (fin s m e) (overflow_pos, v) (v, overflow_pos), λ h. tt)

  -- ---- a number is known by its sign and its magnitude, since its bits are

  bits : Bool → ℕ → ℕ
  bits s n = let k = size n - prec f in cond s (top f) 0 + k * hid f + n / 2 ^ k

  of_bits_law : (s : Bool) (m : ℕ) (e : ℤ) → Number f (fin s m e) → of_bits f (bits s (magnitude f (fin s m e))) ≡ fin s m e
  unfolding to_bits bits
  of_bits_law s m e p = of_bits-to_bits f (fin s m e) p.fit

  far : (w : ℕ) → w < overflow f → infinite f ≡ w → ⊥
  far w h e = omega arith

  pub same_number : (x y : Float) → Number f x → Number f y → negative x ≡ negative y → magnitude f x ≡ magnitude f y → x ≡ y
  unfolding is_nan
  same_number nan y p q h k = absurd p.real
  same_number (inf s) nan p q h k = absurd q.real
  same_number (inf s) (inf t) p q h k = ap inf h
  same_number (inf s) (fin t n d) p q h k = absurd (far (magnitude f (fin t n d)) (value f t n d q).small k)
  same_number (fin s m e) nan p q h k = absurd q.real
  same_number (fin s m e) (inf t) p q h k = absurd (far (magnitude f (fin s m e)) (value f s m e p).small (sym k))
  same_number (fin s m e) (fin t n d) p q h k = sym (of_bits_law s m e p) ∙ ap₂ (λ (b : Bool) (w : ℕ). of_bits f (bits b w)) h k ∙ of_bits_law t n d q

  -- and by its parts, where it is no zero
  pub same_parts : (x y : Float) → Number f y → Parts f x (plus f y) (minus f y) → 0 < plus f x + minus f x → x ≡ y
  unfolding plus minus
  same_parts x y q h k =
      let g = go (negative x) (negative y) (magnitude f x) (magnitude f y) h.plus_is h.minus_is k in
      same_number x y h.number q g.0 g.1
    where
      go : (s t : Bool) (a b : ℕ) → cond s 0 a ≡ cond t 0 b → cond s a 0 ≡ cond t b 0 → 0 < cond s 0 a + cond s a 0 → (s ≡ t) × (a ≡ b)
      go true true a b u v k = (refl, v)
      go true false a b u v k = absurd (not-le_of_lt k (omega arith))
      go false true a b u v k = absurd (not-le_of_lt k (omega arith))
      go false false a b u v k = (refl, u)
