-- What stays the same where a zero's sign is let go. Assumes nothing, and asks nothing of the floats.
use Prim.Native.Nat.{ℕ, zero, suc, ◌+◌, ◌-◌, ◌*◌, ◌^◌, ◌<◌, ◌≤◌}
use mathlib.Core.Bool.{Bool, true, false, not, ◌&&◌, ◌||◌, beq, cond, true≢false}
use mathlib.Core.Logic.{◌⊎◌, inl, inr}
use mathlib.Core.Path.{◌≡◌, refl, sym, ap, ap₂, ◌∙◌}
use native.Mathlib.Nat.{zero-add, add-zero, mul-pos, mul-sub, mul_comm as times-comm, add_comm as plus_comm}
use native.Mathlib.Omega.{arith}
use lib.Dec.{T, ltb, eqb, ltb→lt, nltb→le}
use lib.Pow.{pow_pos}
use lib.IntN.{ℤ, pos}
use lib.Ieee.{Float, nan, inf, fin, binary64, low, fits, is_nan, of_bits, up, down, round, sum, neg, add, lt, eq, le, below, level}
use lib.Ieee.Fits.{up_pos, down_pos, add-fits}
use lib.Ieee.Scale.{round_same}
use borrow.Author.Tests.{lt-ltb, le-ltb, eq-eqb}
use Rattle.alpha.specs.Weight as Weight
use Rattle.rounding.proofs.Order.{eq_le}
use Rattle.rounding.proofs.Rounding.{round_neg, round_parts, rounded_pos}
use Rattle.rounding.proofs.Units.{value, magnitude_is}
use Rattle.rounding.specs.Units.{Number, magnitude, plus, minus, rounded}
use Rattle.orderless.specs.Plain.{plain}

-- ---- sums

one : (s : Bool) → round binary64 s 0 1 ≡ fin s 0 (pos 0)
unfolding round
one s = refl

-- nothing, rounded
round_none : (s : Bool) (c : ℕ) → 0 < c → round binary64 s 0 c ≡ fin s 0 (pos 0)
round_none s c h = round_same binary64 s 0 c 0 1 h (omega arith) (omega arith) ∙ one s

plain_none : (s : Bool) (c : ℕ) → 0 < c → plain (round binary64 s 0 c) ≡ fin false 0 (pos 0)
unfolding plain
plain_none s c h = rw (round_none s c h)

-- nothing and b
sum_none : (s t : Bool) (b c : ℕ) → 0 < c → plain (sum binary64 s 0 t b c) ≡ plain (round binary64 t b c)
unfolding sum
sum_none false false b c h = simp zero-add
sum_none true true b c h = simp zero-add
sum_none false true zero c h = plain_none false c h ∙ sym (plain_none true c h)
sum_none true false zero c h = refl
sum_none false true (suc b) c h = rw (lt-ltb 0 (suc b) (omega arith)) (ap (λ (z : ℕ). plain (round binary64 true z c)) (omega arith))
sum_none true false (suc b) c h = rw (lt-ltb 0 (suc b) (omega arith)) (ap (λ (z : ℕ). plain (round binary64 false z c)) (omega arith))

lost : (s t : Bool) (a b c : ℕ) → a ≡ 0 → 0 < c → plain (sum binary64 s a t b c) ≡ plain (sum binary64 false a t b c)
lost s t a b c e h = rw e (sum_none s t b c h ∙ sym (sum_none false t b c h))

pub plain_left : (x y : Float) → plain (add binary64 x y) ≡ plain (add binary64 (plain x) y)
unfolding plain add
plain_left nan y = refl
plain_left (inf s) y = refl
plain_left (fin s (suc m) e) y = refl
plain_left (fin s zero e) nan = refl
plain_left (fin s zero e) (inf t) = refl
plain_left (fin s zero e) (fin t n d) = lost s t (0 * up e * down d) (n * up d * down e) (down e * down d) (omega arith) (mul-pos (down_pos e) (down_pos d))

-- what two tests of a and b say
record Apart (a b : ℕ) (x y : Bool) : Type 0 where
  under : T x → a < b
  over : T y → b < a
  not_under : T (not x) → b ≤ a
  not_over : T (not y) → a ≤ b

apart : (a b : ℕ) → Apart a b (ltb a b) (ltb b a)
apart a b = record { under = ltb→lt a b; over = ltb→lt b a; not_under = nltb→le a b; not_over = nltb→le b a }

sum_comm : (s t : Bool) (a b c : ℕ) → sum binary64 s a t b c ≡ sum binary64 t b s a c
unfolding sum
sum_comm false false a b c = ap (λ (z : ℕ). round binary64 false z c) (plus_comm a b)
sum_comm true true a b c = ap (λ (z : ℕ). round binary64 true z c) (plus_comm a b)
sum_comm false true a b c = go (ltb a b) (ltb b a) (apart a b)
  where
    go : (x y : Bool) → Apart a b x y
        → cond x (round binary64 true (b - a) c) (round binary64 false (a - b) c) ≡ cond y (round binary64 false (a - b) c) (round binary64 x (b - a) c)
    go true true f = let z : ⊥ = omega (arith, f.under tt, f.over tt) in absurd z
    go true false f = refl
    go false true f = refl
    go false false f = ap (λ (z : ℕ). round binary64 false z c) (omega (arith, f.not_under tt, f.not_over tt))
sum_comm true false a b c = go (ltb a b) (ltb b a) (apart a b)
  where
    go : (x y : Bool) → Apart a b x y
        → cond x (round binary64 false (b - a) c) (round binary64 y (a - b) c) ≡ cond y (round binary64 true (a - b) c) (round binary64 false (b - a) c)
    go true true f = let z : ⊥ = omega (arith, f.under tt, f.over tt) in absurd z
    go true false f = refl
    go false true f = refl
    go false false f = ap (λ (z : ℕ). round binary64 false z c) (omega (arith, f.not_under tt, f.not_over tt))

pub add_comm : (x y : Float) → add binary64 x y ≡ add binary64 y x
unfolding add
add_comm nan nan = refl
add_comm nan (inf t) = refl
add_comm nan (fin t n d) = refl
add_comm (inf s) nan = refl
add_comm (inf false) (inf false) = refl
add_comm (inf false) (inf true) = refl
add_comm (inf true) (inf false) = refl
add_comm (inf true) (inf true) = refl
add_comm (inf s) (fin t n d) = refl
add_comm (fin s m e) nan = refl
add_comm (fin s m e) (inf t) = refl
add_comm (fin s m e) (fin t n d) =
    sum_comm s t (m * up e * down d) (n * up d * down e) (down e * down d)
    ∙ ap (sum binary64 t (n * up d * down e) s (m * up e * down d)) (times-comm (down e) (down d))

-- the sum of opposites is the opposite of the sum, but for the sign of zero
none_neg : (a c : ℕ) → a ≡ 0 → 0 < c → plain (neg (round binary64 false a c)) ≡ plain (round binary64 false a c)
unfolding plain neg
none_neg a c e h = rw (e, round_none false c h)

sum_neg : (s t : Bool) (a b c : ℕ) → 0 < c → plain (neg (sum binary64 s a t b c)) ≡ plain (sum binary64 (not s) a (not t) b c)
unfolding sum
sum_neg false false a b c h = ap plain (sym (round_neg binary64 false (a + b) c))
sum_neg true true a b c h = ap plain (sym (round_neg binary64 true (a + b) c))
sum_neg false true a b c h = go (ltb a b) (ltb b a) (apart a b)
  where
    go : (x y : Bool) → Apart a b x y
        → plain (neg (cond x (round binary64 true (b - a) c) (round binary64 false (a - b) c))) ≡ plain (cond x (round binary64 false (b - a) c) (round binary64 y (a - b) c))
    go true y f = ap plain (sym (round_neg binary64 true (b - a) c))
    go false true f = ap plain (sym (round_neg binary64 false (a - b) c))
    go false false f = none_neg (a - b) c (omega (arith, f.not_under tt, f.not_over tt)) h
sum_neg true false a b c h = go (ltb a b) (ltb b a) (apart a b)
  where
    go : (x y : Bool) → Apart a b x y
        → plain (neg (cond x (round binary64 false (b - a) c) (round binary64 y (a - b) c))) ≡ plain (cond x (round binary64 true (b - a) c) (round binary64 false (a - b) c))
    go true y f = ap plain (sym (round_neg binary64 false (b - a) c))
    go false true f = ap plain (sym (round_neg binary64 true (a - b) c))
    go false false f = none_neg (a - b) c (omega (arith, f.not_under tt, f.not_over tt)) h

pub add_neg : (x y : Float) → plain (neg (add binary64 x y)) ≡ plain (add binary64 (neg x) (neg y))
unfolding add neg
add_neg nan y = refl
add_neg (inf s) nan = refl
add_neg (inf false) (inf false) = refl
add_neg (inf false) (inf true) = refl
add_neg (inf true) (inf false) = refl
add_neg (inf true) (inf true) = refl
add_neg (inf s) (fin t n d) = refl
add_neg (fin s m e) nan = refl
add_neg (fin s m e) (inf t) = refl
add_neg (fin s m e) (fin t n d) = sum_neg s t (m * up e * down d) (n * up d * down e) (down e * down d) (mul-pos (down_pos e) (down_pos d))

plain_neg : (x : Float) → plain (neg x) ≡ plain (neg (plain x))
unfolding plain neg
plain_neg nan = refl
plain_neg (inf s) = refl
plain_neg (fin s zero e) = refl
plain_neg (fin s (suc m) e) = refl

-- ---- what is level stays so

pub neg_level : (x y : Float) → plain x ≡ plain y → plain (neg x) ≡ plain (neg y)
neg_level x y h = plain_neg x ∙ ap (λ (z : Float). plain (neg z)) h ∙ sym (plain_neg y)

plain_both : (x y : Float) → plain (add binary64 x y) ≡ plain (add binary64 (plain y) (plain x))
plain_both x y = plain_left x y ∙ ap plain (add_comm (plain x) y) ∙ plain_left y (plain x)

pub add_level : (x x' y y' : Float) → plain x ≡ plain x' → plain y ≡ plain y' → plain (add binary64 x y) ≡ plain (add binary64 x' y')
add_level x x' y y' h k = plain_both x y ∙ ap₂ (λ (v w : Float). plain (add binary64 v w)) k h ∙ sym (plain_both x' y')

-- ---- comparisons

below_left : (s t : Bool) (a b : ℕ) → a ≡ 0 → below s a t b ≡ below false a t b
below_left false t a b e = refl
below_left true false a b e = rw (e, zero-add)
below_left true true a b e = rw e (le-ltb b 0 (omega arith))

below_right : (s t : Bool) (a b : ℕ) → b ≡ 0 → below s a t b ≡ below s a false b
below_right s false a b e = refl
below_right false true a b e = sym (rw e (le-ltb a 0 (omega arith)))
below_right true true a b e = rw (e, add-zero)

or_true : (x : Bool) → (x || true) ≡ true
or_true true = refl
or_true false = refl

level_left : (s t : Bool) (a b : ℕ) → a ≡ 0 → level s a t b ≡ level false a t b
level_left s t a b e = rw (e, or_true (beq s t), or_true (beq false t))

level_right : (s t : Bool) (a b : ℕ) → b ≡ 0 → level s a t b ≡ level s a false b
level_right s t a b e = rw e (go (eqb a 0) (beq s t) (beq s false))
  where
    go : (z u v : Bool) → (z && (u || z)) ≡ (z && (v || z))
    go true u v = or_true u ∙ sym (or_true v)
    go false u v = refl

lt_left : (x y : Float) → lt x y ≡ lt (plain x) y
unfolding lt plain
lt_left nan y = refl
lt_left (inf s) y = refl
lt_left (fin s (suc m) e) y = refl
lt_left (fin s zero e) nan = refl
lt_left (fin s zero e) (inf t) = refl
lt_left (fin s zero e) (fin t n d) = below_left s t (0 * up e * down d) (n * up d * down e) (omega arith)

lt_right : (x y : Float) → lt x y ≡ lt x (plain y)
unfolding lt plain
lt_right x nan = refl
lt_right x (inf s) = refl
lt_right x (fin s (suc m) e) = refl
lt_right nan (fin t zero d) = refl
lt_right (inf s) (fin t zero d) = refl
lt_right (fin s m e) (fin t zero d) = below_right s t (m * up e * down d) (0 * up d * down e) (omega arith)

eq_left : (x y : Float) → eq x y ≡ eq (plain x) y
unfolding eq plain
eq_left nan y = refl
eq_left (inf s) y = refl
eq_left (fin s (suc m) e) y = refl
eq_left (fin s zero e) nan = refl
eq_left (fin s zero e) (inf t) = refl
eq_left (fin s zero e) (fin t n d) = level_left s t (0 * up e * down d) (n * up d * down e) (omega arith)

eq_right : (x y : Float) → eq x y ≡ eq x (plain y)
unfolding eq plain
eq_right x nan = refl
eq_right x (inf s) = refl
eq_right x (fin s (suc m) e) = refl
eq_right nan (fin t zero d) = refl
eq_right (inf s) (fin t zero d) = refl
eq_right (fin s m e) (fin t zero d) = level_right s t (m * up e * down d) (0 * up d * down e) (omega arith)

pub zero_even : (s : Bool) (e : ℤ) → eq (fin s 0 e) Weight.zero ≡ true
unfolding eq of_bits
zero_even s e =
    level_left s false (0 * up e * down (pos 0)) (0 * up (pos 0) * down e) (omega arith)
    ∙ rw (eq-eqb (0 * up e * down (pos 0)) (0 * up (pos 0) * down e) (omega arith))

module _ (x x' y y' : Float) (h : plain x ≡ plain x') (k : plain y ≡ plain y') where
  pub lt_level : lt x y ≡ lt x' y'
  lt_level = lt_left x y ∙ lt_right (plain x) y ∙ ap₂ lt h k ∙ sym (lt_left x' y' ∙ lt_right (plain x') y')

  eq_level : eq x y ≡ eq x' y'
  eq_level = eq_left x y ∙ eq_right (plain x) y ∙ ap₂ eq h k ∙ sym (eq_left x' y' ∙ eq_right (plain x') y')

  pub le_level : le x y ≡ le x' y'
  unfolding le
  le_level = ap₂ ◌||◌ lt_level eq_level

-- ---- opposites compare the other way round

pub lt_neg : (x y : Float) → lt (neg x) (neg y) ≡ lt y x
unfolding lt neg
lt_neg nan nan = refl
lt_neg nan (inf t) = refl
lt_neg nan (fin t n d) = refl
lt_neg (inf s) nan = refl
lt_neg (inf false) (inf false) = refl
lt_neg (inf false) (inf true) = refl
lt_neg (inf true) (inf false) = refl
lt_neg (inf true) (inf true) = refl
lt_neg (inf false) (fin t n d) = refl
lt_neg (inf true) (fin t n d) = refl
lt_neg (fin s m e) nan = refl
lt_neg (fin s m e) (inf false) = refl
lt_neg (fin s m e) (inf true) = refl
lt_neg (fin false m e) (fin false n d) = refl
lt_neg (fin false m e) (fin true n d) = ap (ltb 0) (plus_comm (m * up e * down d) (n * up d * down e))
lt_neg (fin true m e) (fin false n d) = refl
lt_neg (fin true m e) (fin true n d) = refl

eq_neg : (x y : Float) → eq (neg x) (neg y) ≡ eq x y
unfolding eq neg
eq_neg nan y = refl
eq_neg (inf s) nan = refl
eq_neg (inf false) (inf false) = refl
eq_neg (inf false) (inf true) = refl
eq_neg (inf true) (inf false) = refl
eq_neg (inf true) (inf true) = refl
eq_neg (inf s) (fin t n d) = refl
eq_neg (fin s m e) nan = refl
eq_neg (fin s m e) (inf t) = refl
eq_neg (fin false m e) (fin false n d) = refl
eq_neg (fin false m e) (fin true n d) = refl
eq_neg (fin true m e) (fin false n d) = refl
eq_neg (fin true m e) (fin true n d) = refl

same_truth : (a b : Bool) → (T a → T b) → (T b → T a) → a ≡ b
same_truth true true h k = refl
same_truth true false h k = absurd (h tt)
same_truth false true h k = absurd (k tt)
same_truth false false h k = refl

eq_sym : (x y : Float) → eq x y ≡ eq y x
eq_sym x y = same_truth (eq x y) (eq y x) (λ t. let w = (eq_le x y).0 t in (eq_le y x).1 (w.1, w.0)) (λ t. let w = (eq_le y x).0 t in (eq_le x y).1 (w.1, w.0))

pub le_neg : (x y : Float) → le (neg x) (neg y) ≡ le y x
unfolding le
le_neg x y = ap₂ ◌||◌ (lt_neg x y) (eq_neg x y ∙ eq_sym x y)

-- ---- a number above 0 is the same to the bit

zero_not_above : (s : Bool) (e : ℤ) → lt Weight.zero (fin s 0 e) ≡ false
unfolding lt of_bits
zero_not_above false e = le-ltb (0 * up (pos 0) * down e) (0 * up e * down (pos 0)) (omega arith)
zero_not_above true e = refl

no_nan : (s : Bool) (m : ℕ) (e : ℤ) → nan ≡ fin s m e → ⊥
no_nan s m e k = let z : ◌≡◌ {A = ℕ} 0 1 = cc in omega arith

no_inf : (r s : Bool) (m : ℕ) (e : ℤ) → inf r ≡ fin s m e → ⊥
no_inf r s m e k = let z : ◌≡◌ {A = ℕ} 0 1 = cc in omega arith

no_zero : (r s : Bool) (m : ℕ) (d e : ℤ) → fin r (suc m) d ≡ fin s 0 e → ⊥
no_zero r s m d e k = let z : suc m ≡ 0 = cc in omega arith

pub above_same : (x y : Float) → lt Weight.zero x ≡ true → plain x ≡ plain y → x ≡ y
unfolding plain
above_same (fin s zero e) y h k = absurd (true≢false (sym h ∙ zero_not_above s e))
above_same nan nan h k = refl
above_same nan (inf t) h k = k
above_same nan (fin t zero d) h k = absurd (no_nan false 0 d k)
above_same nan (fin t (suc n) d) h k = k
above_same (inf s) nan h k = k
above_same (inf s) (inf t) h k = k
above_same (inf s) (fin t zero d) h k = absurd (no_inf s false 0 d k)
above_same (inf s) (fin t (suc n) d) h k = k
above_same (fin s (suc m) e) nan h k = k
above_same (fin s (suc m) e) (inf t) h k = k
above_same (fin s (suc m) e) (fin t zero d) h k = absurd (no_zero s false m e d k)
above_same (fin s (suc m) e) (fin t (suc n) d) h k = k

-- so is an infinity
pub inf_same : (s : Bool) (x : Float) → plain x ≡ inf s → x ≡ inf s
unfolding plain
inf_same s nan h = h
inf_same s (inf t) h = h
inf_same s (fin t zero e) h = absurd (no_inf s false 0 e (sym h))
inf_same s (fin t (suc m) e) h = h

-- ---- a sum is -0 only where both are: so what began otherwise never becomes it

some_plain : (x : Float) → Number binary64 x → 0 < magnitude binary64 x → plain x ≡ x
unfolding plain
some_plain nan p h = refl
some_plain (inf s) p h = refl
some_plain (fin s zero e) p h = let z : ⊥ = omega (arith, (value binary64 s 0 e p).shown) in absurd z
some_plain (fin s (suc m) e) p h = refl

some_units : (n l u c : ℕ) → 0 < l → suc n * l ≡ u * c → 0 < u
some_units n l zero c L h = let i : 0 < suc n * l = mul-pos (omega arith) L in let z : ⊥ = omega arith in absurd z
some_units n l (suc u) c L h = omega arith

in_parts : (s : Bool) (r a b : ℕ) → a ≡ cond s 0 r → b ≡ cond s r 0 → 0 < r → 0 < a + b
in_parts true r a b h k l = omega arith
in_parts false r a b h k l = omega arith

-- the smallest values are 1 / l: a number of that size, which omega is kept from
module _ (l : ℕ) (E : l ≡ 2 ^ low binary64) where
  l_pos : 0 < l
  l_pos = rw E (pow_pos (low binary64))

  -- n / c, which is u of the smallest values: above 0, or with the sign +
  round_plain : (s : Bool) (n c u : ℕ) → 0 < c → n * l ≡ u * c → (s ≡ false) ⊎ (0 < n) → plain (round binary64 s n c) ≡ round binary64 s n c
  unfolding plain
  round_plain s zero c u C h (inl e) = rw (e, round_none false c C)
  round_plain s zero c u C h (inr k) = let z : ⊥ = omega arith in absurd z
  round_plain s (suc n) c u C h k =
      let g = round_parts binary64 s u in
      let x = round binary64 s u (2 ^ low binary64) in
      let q : round binary64 s (suc n) c ≡ x = round_same binary64 s (suc n) c u l C l_pos h ∙ ap (round binary64 s u) E in
      rw q (some_plain x g.number (rw (magnitude_is binary64 x)
      (in_parts s (rounded binary64 u) (plus binary64 x) (minus binary64 x) g.plus_is g.minus_is (rounded_pos binary64 u (some_units n l u c l_pos h)))))

  module _ (a b c u w : ℕ) (C : 0 < c) (A : a * l ≡ u * c) (B : b * l ≡ w * c) where
    more : (b - a) * l ≡ (w - u) * c
    more = omega (arith, mul-sub l b a, mul-sub c w u)

    less : (a - b) * l ≡ (u - w) * c
    less = omega (arith, mul-sub l a b, mul-sub c u w)

    sum_plain : (s t : Bool) → (s ≡ false) ⊎ (0 < a) → plain (sum binary64 s a t b c) ≡ sum binary64 s a t b c
    unfolding sum
    sum_plain false false h = round_plain false (a + b) c (u + w) C (omega arith) (inl refl)
    sum_plain true true (inl e) = absurd (true≢false e)
    sum_plain true true (inr k) = round_plain true (a + b) c (u + w) C (omega arith) (inr (omega arith))
    sum_plain false true h = go (ltb a b) (ltb→lt a b)
      where
        go : (x : Bool) → (T x → a < b) → plain (cond x (round binary64 true (b - a) c) (round binary64 false (a - b) c)) ≡ cond x (round binary64 true (b - a) c) (round binary64 false (a - b) c)
        go true f = round_plain true (b - a) c (w - u) C more (inr (omega (arith, f tt)))
        go false f = round_plain false (a - b) c (u - w) C less (inl refl)
    sum_plain true false h = go (ltb a b) (ltb b a) (ltb→lt b a)
      where
        go : (x y : Bool) → (T y → b < a) → plain (cond x (round binary64 false (b - a) c) (round binary64 y (a - b) c)) ≡ cond x (round binary64 false (b - a) c) (round binary64 y (a - b) c)
        go true y f = round_plain false (b - a) c (w - u) C more (inl refl)
        go false true f = round_plain true (a - b) c (u - w) C less (inr (omega (arith, f tt)))
        go false false f = round_plain false (a - b) c (u - w) C less (inl refl)

-- a value of the format that isn't -0
pub record Steady (x : Float) : Type 0 where
  pub fit : T (fits binary64 x)
  pub same : plain x ≡ x

not_minus : (s : Bool) (m : ℕ) (e : ℤ) (d : ℤ) → plain (fin s m e) ≡ fin s m e → (s ≡ false) ⊎ (0 < m * up e * down d)
unfolding plain
not_minus s zero e d h = inl (sign h)
  where
    sign : fin false 0 e ≡ fin s 0 e → s ≡ false
    sign h = cc
not_minus s (suc m) e d h = inr (mul-pos (mul-pos (omega arith) (up_pos e)) (down_pos d))

steady_sum : (x y : Float) → Steady x → T (fits binary64 y) → plain (add binary64 x y) ≡ add binary64 x y
unfolding add plain is_nan
steady_sum nan y h k = refl
steady_sum (inf s) nan h k = refl
steady_sum (inf false) (inf false) h k = refl
steady_sum (inf false) (inf true) h k = refl
steady_sum (inf true) (inf false) h k = refl
steady_sum (inf true) (inf true) h k = refl
steady_sum (inf s) (fin t n d) h k = refl
steady_sum (fin s m e) nan h k = refl
steady_sum (fin s m e) (inf t) h k = refl
steady_sum (fin s m e) (fin t n d) h k =
    fractions (2 ^ low binary64) refl _ _ (value binary64 s m e (record { fit = h.fit; real = tt })).cross (value binary64 t n d (record { fit = k; real = tt })).cross
  where
    fractions : (l : ℕ) → l ≡ 2 ^ low binary64 → (u w : ℕ) → u * down e ≡ m * up e * l → w * down d ≡ n * up d * l
        → plain (sum binary64 s (m * up e * down d) t (n * up d * down e) (down e * down d)) ≡ sum binary64 s (m * up e * down d) t (n * up d * down e) (down e * down d)
    fractions l E u w g j =
        sum_plain l E (m * up e * down d) (n * up d * down e) (down e * down d) u w (mul-pos (down_pos e) (down_pos d))
        (omega (arith, ap (λ (i : ℕ). i * down d) g)) (omega (arith, ap (λ (i : ℕ). i * down e) j)) s t (not_minus s m e d h.same)

pub steady_add : (x y : Float) → Steady x → T (fits binary64 y) → Steady (add binary64 x y)
steady_add x y h k = record { fit = add-fits binary64 x y; same = steady_sum x y h k }

-- a steady value is known by its magnitude's words
pub steady_is : (x y : Float) → Steady x → plain x ≡ plain y → x ≡ plain y
steady_is x y h k = sym h.same ∙ k
