-- A sum and a difference are the exact ones, rounded once: they keep the order, and the sign of a difference is the exact one's. Assumes nothing.
--
-- Main theorems:
--   add_rounds: a sum of numbers that is no NaN is the exact one, rounded once; `sub_rounds` for a difference
--   add_number: where one operand is finite, the sum of two numbers is a number; `sub_number` for a difference
--   rounds_mono: rounded values keep the order of the exact ones
--   add_mono: sums of numbers that are no NaN keep the order in both operands; `sub_mono` for differences
--   sign: a rounded value compares with zero as the exact one
--   sub_above: a difference of numbers that is no NaN is above zero exactly where its first operand is above the second
--   sub_self: x less x, where it is no NaN, is a zero
use mathlib.Core.Path.{◌≡◌, refl, sym, ap, ◌∙◌}
use mathlib.Core.Logic.{◌⊎◌, inl, inr, ◌↔◌}
use mathlib.Core.Bool.{Bool, true, false, not, ◌&&◌, beq, cond}
use Prim.Native.Nat.{ℕ, ◌+◌, ◌-◌, ◌*◌, ◌^◌, ◌≤◌, ◌<◌, min}
use native.Mathlib.Nat.{eq-zero-or-pos, mul-pos, mul-sub, add_comm}
use native.Mathlib.Omega.{arith}
use lib.Dec.{T, ltb, ltb→lt, lt→ltb, nltb→le}
use lib.Pow.{pow_pos}
use lib.Ieee.{Float, nan, inf, fin, Format, low, up, down, round, sum, neg, add, sub, lt, le, is_nan}
use lib.Ieee.Fits.{down_pos, inf-fits, add-fits}
use lib.Ieee.Scale.{overflow, finite, round_same}
use Rattle.rounding.specs.Units.{NotNan, Number, infinite, magnitude, plus, minus, Parts, rounded, Rounds, Compared}
use Rattle.rounding.proofs.Compare.{all_tests, scale_lt}
use Rattle.rounding.proofs.Units.{value, overflow_pos, compare, neg_parts, finite_parts}
use Rattle.rounding.proofs.Rounding.{round_number, round_parts, rounded_mono, rounded_zero, rounded_pos, rounded_top}

-- ---- `sum` in another unit: A / c is U / L, and B / c is W / L

same_test : (p q : Bool) → (T p → T q) → (T q → T p) → p ≡ q
same_test true true h k = refl
same_test true false h k = absurd (h tt)
same_test false true h k = absurd (k tt)
same_test false false h k = refl

module _ (A B U W L c : ℕ) (p : A * L ≡ U * c) (q : B * L ≡ W * c) (i : 0 < L) (k : 0 < c) where
  same_order : ltb A B ≡ ltb U W
  same_order =
      same_test (ltb A B) (ltb U W) (λ t. lt→ltb U W (scale_lt A B U W L c p q i (ltb→lt A B t)))
      (λ t. lt→ltb A B (scale_lt U W A B c L (sym p) (sym q) k (ltb→lt U W t)))

  same_gap : (A - B) * L ≡ (U - W) * c
  same_gap = omega (arith, mul-sub L A B, mul-sub c U W)

same_sum : (f : Format) (s t : Bool) (A B U W L c : ℕ) → A * L ≡ U * c → B * L ≡ W * c → 0 < L → 0 < c → sum f s A t B c ≡ sum f s U t W L
unfolding sum
same_sum f s t A B U W L c p q i k =
    cc (
      same_order A B U W L c p q i k,
      same_order B A W U L c q p i k,
      round_same f s (A + B) c (U + W) L k i (omega arith),
      round_same f t (B - A) c (W - U) L k i (same_gap B A W U L c q p i k),
      round_same f (s && ltb B A) (A - B) c (U - W) L k i (same_gap A B U W L c p q i k),
    )

module _ (f : Format) where
  -- ---- a sum of finite values

  -- a − b is u with the sign s
  of_sign : (s : Bool) (u a b : ℕ) → a - b ≡ cond s 0 u → b - a ≡ cond s u 0 → Rounds f (round f s u (2 ^ low f)) a b
  of_sign false u a b p q =
      let g = round_parts f false u in
      record { number = g.number; plus_is = g.plus_is ∙ ap (rounded f) (sym p); minus_is = g.minus_is ∙ sym (rounded_zero f (b - a) q) }
  of_sign true u a b p q =
      let g = round_parts f true u in
      record { number = g.number; plus_is = g.plus_is ∙ sym (rounded_zero f (a - b) p); minus_is = g.minus_is ∙ ap (rounded f) (sym q) }

  sum_rounds : (s t : Bool) (u w : ℕ) → Rounds f (sum f s u t w (2 ^ low f)) (cond s 0 u + cond t 0 w) (cond s u 0 + cond t w 0)
  unfolding sum
  sum_rounds false false u w = of_sign false (u + w) (u + w) (0 + 0) (omega arith) (omega arith)
  sum_rounds true true u w = of_sign true (u + w) (0 + 0) (u + w) (omega arith) (omega arith)
  sum_rounds false true u w = go (ltb u w) (ltb→lt u w) (nltb→le u w)
    where
      go : (b : Bool) → (T b → u < w) → (T (not b) → w ≤ u)
          → Rounds f (cond b (round f true (w - u) (2 ^ low f)) (round f false (u - w) (2 ^ low f))) (u + 0) (0 + w)
      go true h k = of_sign true (w - u) (u + 0) (0 + w) (omega (arith, h tt)) (omega arith)
      go false h k = of_sign false (u - w) (u + 0) (0 + w) (omega arith) (omega (arith, k tt))
  sum_rounds true false u w = go (ltb u w) (ltb→lt u w) (nltb→le u w) (ltb w u) (nltb→le w u)
    where
      go : (b : Bool) → (T b → u < w) → (T (not b) → w ≤ u) → (d : Bool) → (T (not d) → u ≤ w)
          → Rounds f (cond b (round f false (w - u) (2 ^ low f)) (round f d (u - w) (2 ^ low f))) (0 + w) (u + 0)
      go true h k d i = of_sign false (w - u) (0 + w) (u + 0) (omega arith) (omega (arith, h tt))
      go false h k true i = of_sign true (u - w) (0 + w) (u + 0) (omega (arith, k tt)) (omega arith)
      go false h k false i = of_sign false (u - w) (0 + w) (u + 0) (omega (arith, k tt, i tt)) (omega (arith, i tt))

  -- ---- a sum with an infinity: the other operand is no infinity of the other sign

  inf_number : (s : Bool) → Number f (inf s)
  inf_number s = record { fit = inf-fits f s; real = unfold is_nan in tt }

  inf_rounds : (s : Bool) (a b : ℕ) → cond s a b < overflow f → Rounds f (inf s) (cond s 0 (infinite f) + a) (cond s (infinite f) 0 + b)
  unfolding plus minus
  inf_rounds false a b h = record {
    number = inf_number false;
    plus_is = sym (rounded_top f (infinite f + a - (0 + b)) (omega arith));
    minus_is = sym (rounded_zero f (0 + b - (infinite f + a)) (omega arith));
  }
  inf_rounds true a b h = record {
    number = inf_number true;
    plus_is = sym (rounded_zero f (0 + a - (infinite f + b)) (omega arith));
    minus_is = sym (rounded_top f (infinite f + b - (0 + a)) (omega arith));
  }

  either : (s : Bool) (a b : ℕ) → (a < overflow f) × (b < overflow f) → cond s a b < overflow f
  either true a b h = h.0
  either false a b h = h.1

  swap : (x : Float) (a b c d : ℕ) → Rounds f x (a + b) (c + d) → Rounds f x (b + a) (d + c)
  swap x a b c d h = rw (add_comm b a, add_comm d c) h

  -- ---- every sum, and every difference

  pub add_rounds : (x y : Float) → Number f x → Number f y → NotNan (add f x y) → Rounds f (add f x y) (plus f x + plus f y) (minus f x + minus f y)
  unfolding add plus minus is_nan
  add_rounds nan y p q r = absurd r
  add_rounds (inf s) nan p q r = absurd r
  add_rounds (inf false) (inf false) p q r = inf_rounds false (infinite f) 0 (overflow_pos f)
  add_rounds (inf false) (inf true) p q r = absurd r
  add_rounds (inf true) (inf false) p q r = absurd r
  add_rounds (inf true) (inf true) p q r = inf_rounds true 0 (infinite f) (overflow_pos f)
  add_rounds (inf s) (fin t n d) p q r = inf_rounds s _ _ (either s _ _ ((finite_parts f (fin t n d) q).0 tt))
  add_rounds (fin s m e) nan p q r = absurd r
  add_rounds (fin s m e) (inf t) p q r = swap (inf t) _ _ _ _ (inf_rounds t _ _ (either t _ _ ((finite_parts f (fin s m e) p).0 tt)))
  add_rounds (fin s m e) (fin t n d) p q r =
      let u = magnitude f (fin s m e) in
      let w = magnitude f (fin t n d) in
      let c = down e * down d in
      let g = ap (λ (i : ℕ). i * down d) (value f s m e p).cross in
      let h = ap (λ (i : ℕ). i * down e) (value f t n d q).cross in
      rw (same_sum f s t (m * up e * down d) (n * up d * down e) u w (2 ^ low f) c (omega arith) (omega arith) (pow_pos (low f)) (mul-pos (down_pos e) (down_pos d)))
      (sum_rounds s t u w)

  pub sub_rounds : (x y : Float) → Number f x → Number f y → NotNan (sub f x y) → Rounds f (sub f x y) (plus f x + minus f y) (minus f x + plus f y)
  unfolding sub
  sub_rounds x y p q r = let g = neg_parts f y q in rw (g.plus_is, g.minus_is) at (add_rounds x (neg y) p g.number r)

  -- ---- where they are no NaN: one operand is finite

  cond_real : (b : Bool) (x y : Float) → NotNan x → NotNan y → NotNan (cond b x y)
  cond_real true x y h k = h
  cond_real false x y h k = k

  pub sum_real : (s t : Bool) (a b c : ℕ) → NotNan (sum f s a t b c)
  unfolding sum
  sum_real s t a b c =
      cond_real (beq s t) _ _ (round_number f s (a + b) c).real
      (cond_real (ltb a b) _ _ (round_number f t (b - a) c).real (round_number f (s && ltb b a) (a - b) c).real)

  add_real : (x y : Float) → NotNan x → NotNan y → T (finite x) ⊎ T (finite y) → NotNan (add f x y)
  unfolding add is_nan
  add_real nan y p q h = p
  add_real (inf s) nan p q h = q
  add_real (inf s) (inf t) p q (inl h) = absurd h
  add_real (inf s) (inf t) p q (inr h) = absurd h
  add_real (inf s) (fin t n d) p q h = tt
  add_real (fin s m e) nan p q h = q
  add_real (fin s m e) (inf t) p q h = tt
  add_real (fin s m e) (fin t n d) p q h = sum_real s t (m * up e * down d) (n * up d * down e) (down e * down d)

  pub add_number : (x y : Float) → Number f x → Number f y → T (finite x) ⊎ T (finite y) → Number f (add f x y)
  add_number x y p q h = record { fit = add-fits f x y; real = add_real x y p.real q.real h }

  pub sub_number : (x y : Float) → Number f x → Number f y → T (finite x) ⊎ T (finite y) → Number f (sub f x y)
  unfolding sub
  sub_number x y p q h =
      let g = neg_parts f y q in
      add_number x (neg y) p g.number
      (elim h [ inl t ↦ inl t | inr t ↦ inr ((finite_parts f (neg y) g.number).1 (omega (arith, (finite_parts f y q).0 t))) ])

  -- ---- rounded values keep the order of the exact ones

  pub rounds_mono : (x y : Float) (a b c d : ℕ) → Rounds f x a b → Rounds f y c d → a + d ≤ c + b → T (le x y)
  rounds_mono x y a b c d g h k =
      let m = rounded_mono f (a - b) (c - d) (omega arith) in
      let n = rounded_mono f (d - c) (b - a) (omega arith) in
      (compare f x y g.number h.number).most.1 (omega arith)

  module _ (x y z w : Float) (X : Number f x) (Y : Number f y) (Z : Number f z) (W : Number f w) where
    pub add_mono : NotNan (add f x y) → NotNan (add f z w) → T (le x z) → T (le y w) → T (le (add f x y) (add f z w))
    add_mono p q h k =
        rounds_mono (add f x y) (add f z w) _ _ _ _ (add_rounds x y X Y p) (add_rounds z w Z W q)
        (omega (arith, (compare f x z X Z).most.0 h, (compare f y w Y W).most.0 k))

    pub sub_mono : NotNan (sub f x y) → NotNan (sub f z w) → T (le x z) → T (le w y) → T (le (sub f x y) (sub f z w))
    sub_mono p q h k =
        rounds_mono (sub f x y) (sub f z w) _ _ _ _ (sub_rounds x y X Y p) (sub_rounds z w Z W q)
        (omega (arith, (compare f x z X Z).most.0 h, (compare f w y W Y).most.0 k))

  -- ---- and their signs: x against a zero z

  none_at_none : (n : ℕ) → min 1 (rounded f n) ≡ min 1 n
  none_at_none n = elim (eq-zero-or-pos n) [ inl h ↦ omega (arith, rounded_zero f n h) | inr h ↦ omega (arith, rounded_pos f n h) ]

  pub sign : (x z : Float) (a b : ℕ) → Rounds f x a b → Parts f z 0 0 → Compared x z a b × Compared z x b a
  sign x z a b g h =
      let k = none_at_none (a - b) in
      let l = none_at_none (b - a) in
      let c = compare f x z g.number h.number in
      let d = compare f z x h.number g.number in (
        all_tests x z a b
            ((λ t. omega (arith, c.less.0 t), λ i. c.less.1 (omega arith)), (λ t. omega (arith, c.same.0 t), λ i. c.same.1 (omega arith))),
        all_tests z x b a
            ((λ t. omega (arith, d.less.0 t), λ i. d.less.1 (omega arith)), (λ t. omega (arith, d.same.0 t), λ i. d.same.1 (omega arith))),
      )

  pub sub_above : (x y z : Float) → Number f x → Number f y → NotNan (sub f x y) → Parts f z 0 0 → T (lt z (sub f x y)) ↔ T (lt y x)
  sub_above x y z p q r h =
      let g = (sign (sub f x y) z _ _ (sub_rounds x y p q r) h).1 in
      let c = compare f y x q p in
      (λ t. c.less.1 (omega (arith, g.less.0 t)), λ t. g.less.1 (omega (arith, c.less.0 t)))

  pub sub_self : (x : Float) → Number f x → NotNan (sub f x x) → Parts f (sub f x x) 0 0
  sub_self x p r =
      let g = sub_rounds x x p p r in
      record { number = g.number; plus_is = g.plus_is ∙ rounded_zero f _ (omega arith); minus_is = g.minus_is ∙ rounded_zero f _ (omega arith) }
