-- Rounding to a format, in units: it keeps the order, each value of the format and its double, and a power of two as a bound. Assumes nothing.
--
-- Main theorems:
--   round_number: what is rounded is a number of the format
--   round_neg: rounding with the other sign negates
--   round_parts: n units that are rounded have the parts n rounded and 0, or the other way round where the sign is minus
--   value_parts: a value of the format that is u units has the parts u and 0, or the other way round
--   rounded_mono: rounding keeps the order
--   rounded_zero: 0 stays 0; `rounded_pos`: what is above 0 stays above
--   rounded_power: what is at most 2^k stays at most 2^k, below the overflow
--   rounded_top: from the overflow on it is the infinity's number
--   rounded_parts: a number of the format stays; `rounded_twice`: so does its double, below the overflow
use mathlib.Core.Path.{◌≡◌, refl, sym, ap, ap₂, ◌∙◌, subst}
use mathlib.Core.Logic.{◌⊎◌, inl, inr}
use mathlib.Core.Bool.{Bool, true, false, not, cond}
use Prim.Native.Nat.{ℕ, zero, suc, ◌+◌, ◌*◌, ◌/◌, ◌^◌, ◌≤◌, ◌<◌}
use native.Mathlib.Nat.{le_trans, le_of_eq, lt_of_le_of_lt, one-mul, two-pow-succ, mul-div_cancel, mul-le-mul_right, eq_of_mul-eq-mul_right}
use native.Mathlib.Omega.{arith}
use lib.Dec.{T, ltb}
use lib.Pow.{pow-add, pow_pos, pow-lt, pow_mono}
use lib.Ieee.{Float, nan, inf, fin, Format, prec, emax, low, up, down, odd, units, round, neg, fits, is_nan}
use lib.Ieee.Fits.{two, two-le_pos, reach, down_pos, round_is, round-fits}
use lib.Ieee.Exact.{HasValue, odd_sign, round_exact}
use lib.Ieee.Order.{kept, drop, round_mono}
use lib.Ieee.Scale.{overflow, grid, round_val, round_under, grid_scale, normal_of_fraction}
use Rattle.rounding.specs.Units.{NotNan, Number, negative, infinite, magnitude, plus, minus, Parts, rounded}
use Rattle.rounding.proofs.Units.{value, overflow_pos, by_sign, compare, neg_parts, finite_parts}

-- ---- the sign of what `round` returns

abbrev Signed : Bool → Float → Type 0
Signed s x = NotNan x × (negative x ≡ s)

value_signed : (x : Float) (s : Bool) (a c : ℕ) → HasValue x s a c → Signed s x
unfolding is_nan
value_signed (fin t m e) s a c v = (tt, v.0)
value_signed nan s a c v = elim v [ ]
value_signed (inf _) s a c v = elim v [ ]

units_signed : (f : Format) (s : Bool) (q k : ℕ) → Signed s (units f s q k)
unfolding units
units_signed f s q k = go (ltb (q * 2 ^ k) (overflow f))
  where
    go : (b : Bool) → Signed s (cond b (odd (suc (prec f)) s q k (low f)) (inf s))
    go true = value_signed (odd (suc (prec f)) s q k (low f)) s (q * 2 ^ k) (2 ^ low f) (odd_sign (suc (prec f)) s q k (low f))
    go false = unfold is_nan in (tt, refl)

odd_neg : (d : ℕ) (s : Bool) (q k l : ℕ) → odd d (not s) q k l ≡ neg (odd d s q k l)
unfolding odd neg
odd_neg d s zero k l = refl
odd_neg d s (suc q) k l = refl

units_neg : (f : Format) (s : Bool) (q k : ℕ) → units f (not s) q k ≡ neg (units f s q k)
unfolding units
units_neg f s q k = go (ltb (q * 2 ^ k) (overflow f))
  where
    go : (b : Bool) → cond b (odd (suc (prec f)) (not s) q k (low f)) (inf (not s)) ≡ neg (cond b (odd (suc (prec f)) s q k (low f)) (inf s))
    go true = odd_neg (suc (prec f)) s q k (low f)
    go false = unfold neg in refl

module _ (f : Format) where
  signed : (s : Bool) (a c : ℕ) → Signed s (round f s a c)
  signed s a c = subst (Signed s) (sym (round_is f s a c)) (units_signed f s (kept (prec f) (a * 2 ^ low f) c) (drop (prec f) (a * 2 ^ low f) c))

  pub round_number : (s : Bool) (a c : ℕ) → Number f (round f s a c)
  round_number s a c = record { fit = round-fits f s a c; real = (signed s a c).0 }

  pub round_neg : (s : Bool) (a c : ℕ) → round f (not s) a c ≡ neg (round f s a c)
  round_neg s a c = rw (round_is f (not s) a c, round_is f s a c) (units_neg f s (kept (prec f) (a * 2 ^ low f) c) (drop (prec f) (a * 2 ^ low f) c))

  -- ---- the parts of what `round` returns, and of what has a value

  upward : (n : ℕ) → Parts f (round f false n (2 ^ low f)) (rounded f n) 0
  unfolding minus rounded
  upward n =
      let x = round f false n (2 ^ low f) in
      record { number = round_number false n (2 ^ low f); plus_is = refl; minus_is = ap (λ (b : Bool). cond b (magnitude f x) 0) (signed false n (2 ^ low f)).1 }

  pub round_parts : (s : Bool) (n : ℕ) → Parts f (round f s n (2 ^ low f)) (cond s 0 (rounded f n)) (cond s (rounded f n) 0)
  round_parts false n = upward n
  round_parts true n =
      let h = upward n in
      let g = neg_parts f (round f false n (2 ^ low f)) h.number in
      rw (round_neg false n (2 ^ low f)) (record { number = g.number; plus_is = g.plus_is ∙ h.minus_is; minus_is = g.minus_is ∙ h.plus_is })

  -- a / c is u units
  pub value_parts : (x : Float) (s : Bool) (a c u : ℕ) → T (fits f x) → HasValue x s a c → 0 < c → a * 2 ^ low f ≡ u * c
      → Parts f x (cond s 0 u) (cond s u 0)
  unfolding plus minus
  value_parts (fin t m e) s a c u p v k h =
      let l = 2 ^ low f in
      let w : m * up e * l ≡ u * down e =
      eq_of_mul-eq-mul_right c k (m * up e * l) (u * down e) (omega (arith, ap (λ (n : ℕ). n * l) v.1, ap (λ (n : ℕ). n * down e) h)) in
      let g : magnitude f (fin t m e) ≡ u = ap (λ (n : ℕ). n / down e) w ∙ mul-div_cancel u (down_pos e) in
      record {
        number = record { fit = p; real = (value_signed (fin t m e) s a c v).0 };
        plus_is = ap₂ (λ (b : Bool) (n : ℕ). cond b 0 n) v.0 g;
        minus_is = ap₂ (λ (b : Bool) (n : ℕ). cond b n 0) v.0 g;
      }
  value_parts nan s a c u p v k h = elim v [ ]
  value_parts (inf _) s a c u p v k h = elim v [ ]

  -- ---- the order, and what m with j zeros behind it becomes

  pub rounded_mono : (a b : ℕ) → a ≤ b → rounded f a ≤ rounded f b
  rounded_mono a b h =
      let l = 2 ^ low f in
      let c = compare f (round f false a l) (round f false b l) (round_number false a l) (round_number false b l) in
      omega (arith, c.most.0 (round_mono f a l b l (pow_pos (low f)) (pow_pos (low f)) (mul-le-mul_right l h)), upward a, upward b)

  exact : (n m j : ℕ) → n ≡ m * 2 ^ j → m < 2 ^ prec f → n < overflow f → rounded f n ≡ n
  exact n m j e h k =
      let l = 2 ^ low f in
      let v = round_exact f false n l m j (pow_pos (low f)) h (lt_of_le_of_lt (le_of_eq (sym e)) k) (ap (λ (i : ℕ). i * l) e) in
      sym (upward n).plus_is ∙ (value_parts (round f false n l) false n l n (round-fits f false n l) v (pow_pos (low f)) refl).plus_is

  pub rounded_zero : (n : ℕ) → n ≡ 0 → rounded f n ≡ 0
  rounded_zero n h = ap (rounded f) h ∙ exact 0 0 0 refl (pow_pos (prec f)) (overflow_pos f)

  power : (k : ℕ) → k < low f + suc (emax f) → rounded f (2 ^ k) ≡ 2 ^ k
  power k h = exact (2 ^ k) 1 k (sym (one-mul (2 ^ k))) (pow-lt (two-le_pos (prec f) (two f))) (pow-lt h)

  pub rounded_pos : (n : ℕ) → 0 < n → 0 < rounded f n
  rounded_pos n h = omega (arith, power 0 (omega arith), rounded_mono 1 n h)

  pub rounded_power : (k n : ℕ) → k < low f + suc (emax f) → n ≤ 2 ^ k → rounded f n ≤ 2 ^ k
  rounded_power k n h l = le_trans (rounded_mono n (2 ^ k) l) (le_of_eq (power k h))

  -- ---- from the overflow on

  gap : (x : Float) → Number f x → (plus f x < overflow f) ⊎ (plus f x ≡ infinite f)
  unfolding plus is_nan
  gap nan p = absurd p.real
  gap (inf false) p = inr refl
  gap (inf true) p = inl (overflow_pos f)
  gap (fin s m e) p = inl ((finite_parts f (fin s m e) p).0 tt).0

  grid_is : (n : ℕ) → rounded f n < overflow f → grid f n (2 ^ low f) ≡ rounded f n
  grid_is n h =
      let l = 2 ^ low f in
      let x = round f false n l in
      let g = upward n in
      let t = (finite_parts f x g.number).1 (omega (arith, overflow_pos f)) in
      sym (value_parts x false (grid f n l) l (grid f n l) g.number.fit (round_val f n l (round_under f n l t)) (pow_pos (low f)) refl).plus_is ∙ g.plus_is

  -- half of it is kept, and doubling goes through
  at_top : rounded f (overflow f) ≡ infinite f
  at_top =
      let l = 2 ^ low f in
      let k = low f + emax f in
      let g = upward (overflow f) in
      let e : overflow f ≡ 2 ^ k * 2 ^ 1 = ap (λ (i : ℕ). 2 ^ i) (omega arith) ∙ pow-add 2 k 1 in
      let p : rounded f (2 ^ k) ≡ 2 ^ k = power k (omega arith) in
      let n = normal_of_fraction f (2 ^ k) l (pow_pos (low f)) (mul-le-mul_right l (pow_mono (omega (arith, reach f)))) in
      let s = grid_scale f (2 ^ k) l 1 (pow_pos (low f)) n in
      elim (gap (round f false (overflow f) l) g.number) [
        | inl h ↦ omega (arith, grid_is (overflow f) (omega arith), ap (λ (i : ℕ). grid f i l) e, s, grid_is (2 ^ k) (omega (arith, pow_pos k)))
        | inr h ↦ sym g.plus_is ∙ h
      ]

  pub rounded_top : (n : ℕ) → overflow f ≤ n → rounded f n ≡ infinite f
  rounded_top n h =
      let g = upward n in
      elim (gap (round f false n (2 ^ low f)) g.number) [
        | inl k ↦ omega (arith, at_top, rounded_mono (overflow f) n h)
        | inr k ↦ sym g.plus_is ∙ k
      ]

  -- ---- a value of the format, and its double

  fixed : (x : Float) → Number f x → rounded f (magnitude f x) ≡ magnitude f x
  unfolding is_nan
  fixed nan p = absurd p.real
  fixed (inf s) p = rounded_top (infinite f) (omega arith)
  fixed (fin s m e) p = let v = value f s m e p in exact (magnitude f (fin s m e)) m v.behind v.shown v.digits v.small

  doubled : (x : Float) → Number f x → magnitude f x + magnitude f x < overflow f → rounded f (magnitude f x + magnitude f x) ≡ magnitude f x + magnitude f x
  unfolding is_nan
  doubled nan p h = absurd p.real
  doubled (inf s) p h = omega arith
  doubled (fin s m e) p h =
      let v = value f s m e p in
      let w = magnitude f (fin s m e) in
      exact (w + w) m (suc v.behind) (omega (arith, v.shown, ap (λ (i : ℕ). m * i) (two-pow-succ v.behind))) v.digits h

  pub rounded_parts : (x : Float) → Number f x → (rounded f (plus f x) ≡ plus f x) × (rounded f (minus f x) ≡ minus f x)
  rounded_parts x p = by_sign f (λ a b. (rounded f a ≡ a) × (rounded f b ≡ b)) x (rounded_zero 0 refl, fixed x p) (fixed x p, rounded_zero 0 refl)

  pub rounded_twice : (x : Float) → Number f x → plus f x + plus f x < overflow f → minus f x + minus f x < overflow f
      → (rounded f (plus f x + plus f x) ≡ plus f x + plus f x) × (rounded f (minus f x + minus f x) ≡ minus f x + minus f x)
  rounded_twice x p =
      by_sign f (λ a b. a + a < overflow f → b + b < overflow f → (rounded f (a + a) ≡ a + a) × (rounded f (b + b) ≡ b + b)) x
      (λ h k. (rounded_zero 0 refl, doubled x p k))
      (λ h k. (doubled x p h, rounded_zero 0 refl))
