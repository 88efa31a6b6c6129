-- Two floats that are measured in one unit, with one number for an infinity, compare as their measures do. Assumes nothing.
use mathlib.Core.Path.{◌≡◌, sym, ap, ◌∙◌}
use mathlib.Core.Logic.{◌⊎◌, inl, inr, ◌↔◌}
use mathlib.Core.Bool.{Bool, true, false, not, ◌&&◌, ◌||◌, cond}
use Prim.Native.Nat.{ℕ, suc, suc-le-suc, ◌+◌, ◌-◌, ◌*◌, ◌/◌, ◌^◌, ◌≤◌, ◌<◌}
use native.Mathlib.Nat.{le_of_suc-le-suc, lt_of_not-le, not-le_of_lt, eq-or-lt_of_le, mul-pos, mul-one, one-mul, mul-div_cancel, sub-add_cancel}
use native.Mathlib.Nat.{mul-lt-mul_of_pos_right, lt_of_mul-lt-mul_right, eq_of_mul-eq-mul_right}
use native.Mathlib.Omega.{arith}
use lib.IntN.{ℤ, pos, negsuc}
use lib.Dec.{T, eqb, ltb→lt, lt→ltb, eqb→eq, T_not, not_T}
use lib.Pow.{pow-add, pow_pos, pow-lt}
use lib.Ieee.{Float, nan, inf, fin, up, down, lt, le, eq, below, level}
use lib.Ieee.Fits.{and_i, and_l, and_r, eq→eqb, down_pos}
use Rattle.rounding.specs.Units.{negative, Compared}

-- ---- all five tests follow from `lt` and `eq`

or_split : (p q : Bool) → T (p || q) → T p ⊎ T q
or_split true q t = inl t
or_split false q t = inr t

pub or_left : (p q : Bool) → T p → T (p || q)
or_left true q t = t
or_left false q t = elim t [ ]

pub or_right : (p q : Bool) → T q → T (p || q)
or_right true q t = tt
or_right false q t = t

negated : (p : Bool) (a b : ℕ) → (T p ↔ (a ≤ b)) → T (not p) ↔ (b < a)
negated p a b h = (λ n. lt_of_not-le (λ k. T_not p n (h.1 k)), λ k. not_T p (λ t. not-le_of_lt k (h.0 t)))

-- l tells whether a < b, and e whether a is b
abbrev pub Ordered : Bool → Bool → ℕ → ℕ → Type 0
Ordered l e a b = (T l ↔ (a < b)) × (T e ↔ (a ≡ b))

pub all_tests : (x y : Float) (a b : ℕ) → Ordered (lt x y) (eq x y) a b → Compared x y a b
unfolding le
all_tests x y a b o =
    let m : T (lt x y || eq x y) ↔ (a ≤ b) = (
      λ t. elim (or_split (lt x y) (eq x y) t) [ inl u ↦ omega (arith, o.0.0 u) | inr u ↦ omega (arith, o.1.0 u) ],
      λ h. elim (eq-or-lt_of_le h) [ inl k ↦ or_right (lt x y) (eq x y) (o.1.1 k) | inr k ↦ or_left (lt x y) (eq x y) (o.0.1 k) ],
    ) in
    let n = negated (lt x y) (suc a) b o.0 in
    record {
      less = o.0;
      most = m;
      same = o.1;
      not_less = (λ t. le_of_suc-le-suc (n.0 t), λ h. n.1 (suc-le-suc h));
      not_most = negated (le x y) a b m;
    }

-- ---- two signed numbers: what lies above zero of the one and below zero of the other is added, so that nothing is taken off

abbrev side : Bool → ℕ → Bool → ℕ → ℕ
side s a t b = cond s 0 a + cond t b 0

alike→ : (a b : ℕ) → T (eqb a b && true) → a ≡ b
alike→ a b t = eqb→eq a b (and_l (eqb a b) true t)

→alike : (a b : ℕ) → a ≡ b → T (eqb a b && true)
→alike a b h = and_i (eqb a b) true (eq→eqb h) tt

zeros→ : (a b : ℕ) → T (eqb a b && eqb a 0) → a + b ≡ 0
zeros→ a b t = omega (arith, eqb→eq a b (and_l (eqb a b) (eqb a 0) t), eqb→eq a 0 (and_r (eqb a b) (eqb a 0) t))

→zeros : (a b : ℕ) → a + b ≡ 0 → T (eqb a b && eqb a 0)
→zeros a b h = and_i (eqb a b) (eqb a 0) (eq→eqb {a = a} {b = b} (omega arith)) (eq→eqb {a = a} {b = 0} (omega arith))

signed : (s t : Bool) (a b : ℕ) → Ordered (below s a t b) (level s a t b) (side s a t b) (side t b s a)
signed false false a b = omega (arith, ltb→lt, lt→ltb, alike→, →alike)
signed false true a b = omega (arith, zeros→, →zeros)
signed true false a b = omega (arith, ltb→lt, lt→ltb, zeros→, →zeros)
signed true true a b = omega (arith, ltb→lt, lt→ltb, alike→, →alike)

-- ---- fractions in another unit: A / c is U / L, and B / c is W / L

module _ (A B U W L c : ℕ) (p : A * L ≡ U * c) (q : B * L ≡ W * c) where
  pub scale_lt : 0 < L → A < B → U < W
  scale_lt l h = lt_of_mul-lt-mul_right c {m = U} {n = W} (omega (arith, mul-lt-mul_of_pos_right h l))

  scale_eq : 0 < c → A ≡ B → U ≡ W
  scale_eq k h = eq_of_mul-eq-mul_right c k U W (sym p ∙ ap (λ (n : ℕ). n * L) h ∙ q)

  scale_side : (s t : Bool) → side s A t B * L ≡ side s U t W * c
  scale_side false false = omega arith
  scale_side false true = omega arith
  scale_side true false = omega arith
  scale_side true true = omega arith

scaled : (l e : Bool) (A B U W L c : ℕ) → A * L ≡ U * c → B * L ≡ W * c → 0 < L → 0 < c → Ordered l e A B → Ordered l e U W
scaled l e A B U W L c p q i k o = (
  (λ t. scale_lt A B U W L c p q i (o.0.0 t), λ h. o.0.1 (scale_lt U W A B c L (sym p) (sym q) k h)),
  (λ t. scale_eq A B U W L c p q k (o.1.0 t), λ h. o.1.1 (scale_eq U W A B c L (sym p) (sym q) i h)),
)

-- ---- floats

-- w is the magnitude of x in units of 2 ^ -l, where an infinity counts as `top`
abbrev pub Measured : ℕ → ℕ → Float → ℕ → Type 0
Measured l top nan w = ⊥
Measured l top (inf s) w = w ≡ top
Measured l top (fin s m e) w = (w * down e ≡ m * up e * 2 ^ l) × (w < top)

less : {a b : ℕ} → a < b → Ordered true false a b
less h = ((λ t. h, λ k. tt), (λ t. absurd t, λ k. omega arith))

same : {a b : ℕ} → a ≡ b → Ordered false true a b
same h = ((λ t. absurd t, λ k. omega arith), (λ t. h, λ k. tt))

more : {a b : ℕ} → b < a → Ordered false false a b
more h = ((λ t. absurd t, λ k. omega arith), (λ t. absurd t, λ k. omega arith))

module _ (l top : ℕ) (some : 0 < top) where
  ordered : (x y : Float) (w v : ℕ) → Measured l top x w → Measured l top y v
      → Ordered (lt x y) (eq x y) (side (negative x) w (negative y) v) (side (negative y) v (negative x) w)
  unfolding lt eq
  ordered nan y w v h k = absurd h
  ordered (inf s) nan w v h k = absurd k
  ordered (inf false) (inf false) w v h k = same (omega arith)
  ordered (inf false) (inf true) w v h k = more (omega arith)
  ordered (inf true) (inf false) w v h k = less (omega arith)
  ordered (inf true) (inf true) w v h k = same (omega arith)
  ordered (inf false) (fin false n d) w v h k = more (omega arith)
  ordered (inf false) (fin true n d) w v h k = more (omega arith)
  ordered (inf true) (fin false n d) w v h k = less (omega arith)
  ordered (inf true) (fin true n d) w v h k = less (omega arith)
  ordered (fin s m e) nan w v h k = absurd k
  ordered (fin false m e) (inf false) w v h k = less (omega arith)
  ordered (fin false m e) (inf true) w v h k = more (omega arith)
  ordered (fin true m e) (inf false) w v h k = less (omega arith)
  ordered (fin true m e) (inf true) w v h k = more (omega arith)
  ordered (fin s m e) (fin t n d) w v h k =
      let A = m * up e * down d in
      let B = n * up d * down e in
      let c = down e * down d in
      let p : A * 2 ^ l ≡ w * c = omega (arith, ap (λ (i : ℕ). i * down d) h.0) in
      let q : B * 2 ^ l ≡ v * c = omega (arith, ap (λ (i : ℕ). i * down e) k.0) in
      scaled (below s A t B) (level s A t B) (side s A t B) (side t B s A) (side s w t v) (side t v s w) (2 ^ l) c
      (scale_side A B w v (2 ^ l) c p q s t) (scale_side B A v w (2 ^ l) c q p t s) (pow_pos l) (mul-pos (down_pos e) (down_pos d)) (signed s t A B)

  pub compared : (x y : Float) (w v : ℕ) → Measured l top x w → Measured l top y v
      → Compared x y (side (negative x) w (negative y) v) (side (negative y) v (negative x) w)
  compared x y w v h k = all_tests x y (side (negative x) w (negative y) v) (side (negative y) v (negative x) w) (ordered x y w v h k)

-- ---- where the unit divides a finite value, its magnitude w is m with zeros behind it

fewer : (k l : ℕ) → 2 ^ k ≤ 2 ^ l → k ≤ l
fewer k l h = le_of_suc-le-suc (lt_of_not-le (λ g. not-le_of_lt (pow-lt g) h))

shift : (l : ℕ) (e : ℤ) → down e ≤ 2 ^ l → (j : ℕ) × (up e * 2 ^ l ≡ 2 ^ j * down e)
shift l (pos k) h = (k + l, sym (pow-add 2 k l) ∙ sym (mul-one (2 ^ (k + l))))
shift l (negsuc k) h =
    let e : l - suc k + suc k ≡ l = sub-add_cancel (fewer (suc k) l h) in
    (l - suc k, one-mul (2 ^ l) ∙ ap (λ (n : ℕ). 2 ^ n) (sym e) ∙ pow-add 2 (l - suc k) (suc k))

pub record Whole (l m : ℕ) (e : ℤ) (w : ℕ) : Type 0 where
  pub behind : ℕ
  pub shown : w ≡ m * 2 ^ behind
  pub cross : w * down e ≡ m * up e * 2 ^ l

pub whole : (l m : ℕ) (e : ℤ) → down e ≤ 2 ^ l → Whole l m e (m * up e * 2 ^ l / down e)
whole l m e h =
    let (j, g) = shift l e h in
    let q : m * up e * 2 ^ l ≡ m * 2 ^ j * down e = omega (arith, ap (λ (i : ℕ). m * i) g) in
    let w : m * up e * 2 ^ l / down e ≡ m * 2 ^ j = ap (λ (i : ℕ). i / down e) q ∙ mul-div_cancel (m * 2 ^ j) (down_pos e) in
    record { behind = j; shown = w; cross = ap (λ (i : ℕ). i * down e) w ∙ sym q }
