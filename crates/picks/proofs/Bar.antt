-- Who stays below the bar isn't taken: no quotient need be formed to see it. Assumes nothing.
--
-- Main theorems:
--   below_best: a quotient t / q is below b where t is below the product q·p, both as rounded, and p is below b
--   passed: a sample that doesn't reach the bar leaves the race as it is
use Prim.Native.Nat.{ℕ, zero, suc, ◌+◌, ◌-◌, ◌*◌, ◌^◌, ◌≤◌, ◌<◌}
use mathlib.Core.Bool.{Bool, true, false, not, ◌&&◌, cond, true≢false}
use mathlib.Core.List.{List}
use mathlib.Core.Logic.{◌⊎◌, inl, inr}
use mathlib.Core.Path.{◌≡◌, refl, sym, ap, ◌∙◌}
use native.Mathlib.Nat.{zero-mul, mul-pos, mul-le-mul_right, le_of_lt, eq-zero-or-pos, mul_comm as times-comm}
use native.Mathlib.Omega.{arith}
use lib.IntN.{ℤ, pos}
use lib.Dec.{T, ltb, eqb}
use lib.Ieee.{Float, nan, inf, fin, Format, prec, emax, low, binary64, of_bits, fits, is_nan, up, down, unlike, odd, units, round, neg, add, sub, mul, div, lt, le}
use lib.Ieee.Fits.{add-fits, mul-fits, round_is}
use lib.Ieee.Order.{kept, drop, round_mono}
use lib.Ieee.Scale.{finite, round_same}
use lib.Pow.{pow_pos}
use Rattle.alpha.specs.Weight as Weight
use Rattle.extreme.specs.Best.{at_most}
use Rattle.extreme.specs.declared.Race.{Race}
use Rattle.kernel.specs.Curvature.{curved}
use Rattle.orderless.specs.Sheet.{entry}
use Rattle.orderless.proofs.Plain.{lt_neg}
use Rattle.partner.specs.Curvature.{curvature, gain}
use Rattle.rounding.specs.Units.{NotNan, Number, negative, magnitude, plus, minus, rounded}
use Rattle.rounding.proofs.Nan.{lt_nan}
use Rattle.rounding.proofs.Order.{holds, both, lt→le, lt_real, le_trans, lt_le_trans, le_lt_trans, lt_irrefl, neg_neg}
use Rattle.rounding.proofs.Products.{mul_units, div_units, div_neg}
use Rattle.rounding.proofs.Rounding.{round_number, round_parts, rounded_parts, rounded_zero}
use Rattle.rounding.proofs.Units.{compare, zero_parts}
use Rattle.solver.specs.declared.Given.{Given}
use Rattle.picks.specs.Follow.{raced_by, nearly, bar_of, reaches_of}
use Rattle.picks.specs.declared.First.{First}

side : (a b : ℕ) → (a ≤ b) ⊎ (b < a)
side a b = elim (eq-zero-or-pos (a - b)) [ inl e ↦ inl (omega arith) | inr e ↦ inr (omega arith) ]

-- ---- signs

odd_sign : (f : Format) (s b : Bool) (q k : ℕ) → negative (cond b (odd (suc (prec f)) s q k (low f)) (inf s)) ≡ s
unfolding odd
odd_sign f s true zero k = refl
odd_sign f s true (suc q) k = refl
odd_sign f s false q k = refl

units_sign : (f : Format) (s : Bool) (q k : ℕ) → negative (units f s q k) ≡ s
unfolding units
units_sign f s q k = odd_sign f s (ltb (q * 2 ^ k) (2 ^ (low f + suc (emax f)))) q k

round_sign : (f : Format) (s : Bool) (a c : ℕ) → negative (round f s a c) ≡ s
round_sign f s a c = ap negative (round_is f s a c) ∙ units_sign f s (kept (prec f) (a * 2 ^ low f) c) (drop (prec f) (a * 2 ^ low f) c)

square_sign : (x : Float) → negative (mul binary64 x x) ≡ false
unfolding mul
square_sign nan = refl
square_sign (inf true) = refl
square_sign (inf false) = refl
square_sign (fin true m e) = round_sign binary64 false (m * up e * (m * up e)) (down e * down e)
square_sign (fin false m e) = round_sign binary64 false (m * up e * (m * up e)) (down e * down e)

finite_below : (x y : Float) → T (lt x y) → negative x ≡ false → T (finite x)
unfolding lt
finite_below nan y h s = absurd h
finite_below (inf true) y h s = absurd (true≢false s)
finite_below (inf false) nan h s = absurd h
finite_below (inf false) (inf u) h s = absurd h
finite_below (inf false) (fin u n d) h s = absurd h
finite_below (fin u m e) y h s = tt

module _ (f : Format) where
  no_minus : (x : Float) → negative x ≡ false → (plus f x ≡ magnitude f x) × (minus f x ≡ 0)
  unfolding plus minus
  no_minus x h = rw h (refl, refl)

  no_plus : (x : Float) → negative x ≡ true → plus f x ≡ 0
  unfolding plus
  no_plus x h = rw h

  above_zero : (x : Float) → Number f x → T (lt (fin false 0 (pos 0)) x) → (negative x ≡ false) × (0 < magnitude f x)
  above_zero x p h = go (negative x) refl
    where
      less : minus f x < plus f x
      less = let z = zero_parts f false in omega (arith, (compare f (fin false 0 (pos 0)) x z.number p).less.0 h, z.plus_is, z.minus_is)

      go : (s : Bool) → negative x ≡ s → (negative x ≡ false) × (0 < magnitude f x)
      go true e = absurd (omega (arith, less, no_plus x e))
      go false e = (e, omega (arith, less, (no_minus x e).0, (no_minus x e).1))

  -- a number that isn't negative, and its magnitude rounded, are each at most the other
  level : (x : Float) → Number f x → negative x ≡ false
      → T (le (round f false (magnitude f x) (2 ^ low f)) x) × T (le x (round f false (magnitude f x) (2 ^ low f)))
  level x p h =
      let r = round f false (magnitude f x) (2 ^ low f) in
      let n = round_number f false (magnitude f x) (2 ^ low f) in
      let z = no_minus x h in
      let w : rounded f (magnitude f x) ≡ magnitude f x = rw z.0 at (rounded_parts f x p).0 in
      let q = round_parts f false (magnitude f x) in
      ((compare f r x n p).most.1 (omega (arith, q.plus_is, q.minus_is, w, z.0, z.1)), (compare f x r p n).most.1 (omega (arith, q.plus_is, q.minus_is, w, z.0, z.1)))

  module _ (t q p : Float) (T# : Number f t) (Q# : Number f q) (P# : Number f p) (tf : T (finite t)) (qf : T (finite q)) (pf : T (finite p))
      (ts : negative t ≡ false) (qs : negative q ≡ false) (ps : negative p ≡ false) (qq : 0 < magnitude f q) where
    product : mul f q p ≡ round f false (magnitude f q * magnitude f p) (2 ^ low f * 2 ^ low f)
    product = rw (qs, ps) at (mul_units f q p Q# P# qf pf)

    quotient : div f t q ≡ round f false (magnitude f t) (magnitude f q)
    quotient = rw (ts, qs) at (div_units f t q T# Q# tf qf qq)

    -- were the quotient above p, the product would be exactly at most t
    over : magnitude f q * magnitude f p < magnitude f t * 2 ^ low f → T (le (mul f q p) t)
    over g =
        let l = 2 ^ low f in
        let i = pow_pos (low f) in
        le_trans (mul f q p) (round f false (magnitude f t) l) t
        (rw product (round_mono f (magnitude f q * magnitude f p) (l * l) (magnitude f t) l (mul-pos i i) i (omega (arith, mul-le-mul_right l (le_of_lt g)))))
        (level t T# ts).0

    -- where it is exactly at most p, rounding keeps that
    under : magnitude f t * 2 ^ low f ≤ magnitude f p * magnitude f q → T (le (div f t q) p)
    under g = le_trans (div f t q) (round f false (magnitude f p) (2 ^ low f)) p (rw quotient (round_mono f (magnitude f t) (magnitude f q) (magnitude f p) (2 ^ low f) qq (pow_pos (low f)) g)) (level p P# ps).0

    below_bar : T (lt t (mul f q p)) → T (le (div f t q) p)
    below_bar h = elim (side (magnitude f t * 2 ^ low f) (magnitude f p * magnitude f q)) [
      | inl g ↦ under g
      | inr g ↦ absurd (lt_irrefl t (lt_le_trans t (mul f q p) t h (over (omega (arith, times-comm (magnitude f q) (magnitude f p))))))
    ]

    pub below_best : (b : Float) → T (lt t (mul f q p)) → T (lt p b) → T (lt (div f t q) b)
    below_best b h g = le_lt_trans (div f t q) p b (below_bar h) g

  -- ---- products that aren't above 0

  nought_product : (q p : Float) → Number f q → Number f p → T (finite q) → T (finite p) → magnitude f q * magnitude f p ≡ 0 → plus f (mul f q p) ≡ 0
  nought_product q p Q# P# qf pf h =
      let l = 2 ^ low f in
      let s = unlike (negative q) (negative p) in
      let i = pow_pos (low f) in
      let e : mul f q p ≡ round f s 0 l = mul_units f q p Q# P# qf pf ∙ round_same f s (magnitude f q * magnitude f p) (l * l) 0 l (mul-pos i i) i (omega (arith, ap (λ (z : ℕ). z * l) h)) in
      let r = round_parts f s 0 in
      ap (plus f) e ∙ r.plus_is ∙ go s (rounded_zero f 0 refl)
    where
      go : (s : Bool) → rounded f 0 ≡ 0 → cond s 0 (rounded f 0) ≡ 0
      go true h = refl
      go false h = h

  negative_product : (q p : Float) → Number f q → Number f p → T (finite q) → T (finite p) → negative q ≡ true → negative p ≡ false → plus f (mul f q p) ≡ 0
  negative_product q p Q# P# qf pf h k =
      let e = mul_units f q p Q# P# qf pf in
      no_plus (mul f q p) (ap negative e ∙ round_sign f (unlike (negative q) (negative p)) _ _ ∙ rw (h, k) (unlike_is))
    where
      unlike_is : unlike true false ≡ true
      unlike_is = refl

  -- what isn't negative isn't below such a product
  not_under : (t x : Float) → Number f t → Number f x → negative t ≡ false → plus f x ≡ 0 → T (lt t x) → ⊥
  not_under t x p q s h k = omega (arith, (compare f t x p q).less.0 k, (no_minus t s).1, h)

-- ---- who stays below the bar

below_top : (t : Float) → T (lt t (inf true)) → ⊥
unfolding lt
below_top nan h = h
below_top (inf true) h = h
below_top (inf false) h = h
below_top (fin s m e) h = h

-- an infinite factor below 0, or none
infinite_product : (t p : Float) → T (finite p) → T (lt t (mul binary64 (inf true) p)) → negative p ≡ false → ⊥
unfolding mul
infinite_product t (fin true n d) pf h s = true≢false s
infinite_product t (fin false n d) pf h s = go (eqb n 0) h
  where
    go : (b : Bool) → T (lt t (cond b nan (inf true))) → ⊥
    go true k = true≢false (sym ((holds _).0 k) ∙ lt_nan t)
    go false k = below_top t k
infinite_product t nan pf h s = elim pf [ ]
infinite_product t (inf _) pf h s = elim pf [ ]

infinite_zero : (s : Bool) (t : Float) → T (lt t (mul binary64 (inf s) Weight.zero)) → ⊥
unfolding mul of_bits
infinite_zero s t h = true≢false (sym ((holds _).0 h) ∙ lt_nan t)

nan_product : (t p : Float) → T (lt t (mul binary64 nan p)) → ⊥
unfolding mul
nan_product t p h = true≢false (sym ((holds _).0 h) ∙ lt_nan t)

zero_is : Weight.zero ≡ fin false 0 (pos 0)
unfolding of_bits
zero_is = refl

-- a quotient by infinity
by_infinity : (t : Float) → T (finite t) → negative t ≡ false → div binary64 (neg t) (inf false) ≡ neg Weight.zero
unfolding div neg of_bits
by_infinity (fin true m e) h s = absurd (true≢false s)
by_infinity (fin false m e) h s = refl
by_infinity nan h s = elim h [ ]
by_infinity (inf _) h s = elim h [ ]

top_above : lt Weight.zero (inf false) ≡ true
unfolding lt of_bits
top_above = refl

fin_real : (s : Bool) (m : ℕ) (e : ℤ) → NotNan (fin s m e)
unfolding is_nan
fin_real s m e = tt

-- what lies below the opposite
turned : (x r : Float) → T (lt x (neg r)) → T (lt r (neg x))
turned x r h = (holds _).1 (sym (lt_neg (neg x) r) ∙ rw (neg_neg x) ((holds _).0 h))

-- d is the gap, q the curvature before the floor, r what the second so far gains
module _ (d r floor : Float) where
  abbrev t : Float
  t = mul binary64 d d

  abbrev gains : Float → Float
  gains q = div binary64 (neg t) (cond (lt Weight.zero q) q floor)

  module _ (p : Float) (P# : Number binary64 p) (pf : T (finite p)) (ps : negative p ≡ false) (some : T (lt Weight.zero p)) (under : T (lt p (neg r))) where
    -- q is finite
    finite_less : (q : Float) → Number binary64 q → T (finite q) → T (lt t (mul binary64 q p)) → T (lt r (gains q))
    finite_less q Q# qf h = go (negative q) refl
      where
        M# : Number binary64 (mul binary64 q p)
        M# = record { fit = mul-fits binary64 q p; real = (lt_real t (mul binary64 q p) h).1 }

        T# : Number binary64 t
        T# = record { fit = mul-fits binary64 d d; real = (lt_real t (mul binary64 q p) h).0 }

        tf : T (finite t)
        tf = finite_below t (mul binary64 q p) h (square_sign d)

        above : negative q ≡ false → 0 < magnitude binary64 q → T (lt Weight.zero q)
        above s k =
            let z = zero_parts binary64 false in
            let n = no_minus binary64 q s in
            rw zero_is ((compare binary64 (fin false 0 (pos 0)) q z.number Q#).less.1 (omega (arith, z.plus_is, z.minus_is, n.0, n.1)))

        quotient_less : negative q ≡ false → 0 < magnitude binary64 q → T (lt r (gains q))
        quotient_less s k =
            let w = below_best binary64 t q p T# Q# P# tf qf pf (square_sign d) s ps k (neg r) h under in
            let e : lt Weight.zero q ≡ true = (holds _).0 (above s k) in
            rw (e, div_neg binary64 t q) (turned (div binary64 t q) r w)

        go : (s : Bool) → negative q ≡ s → T (lt r (gains q))
        go true s = absurd (not_under binary64 t (mul binary64 q p) T# M# (square_sign d) (negative_product binary64 q p Q# P# qf pf s ps) h)
        go false s = elim (eq-zero-or-pos (magnitude binary64 q)) [
          | inl k ↦ absurd (not_under binary64 t (mul binary64 q p) T# M# (square_sign d) (nought_product binary64 q p Q# P# qf pf (rw (k) (zero-mul (magnitude binary64 p)))) h)
          | inr k ↦ quotient_less s k
        ]

    infinite_less : T (lt t (mul binary64 (inf false) p)) → T (lt r (gains (inf false)))
    infinite_less h =
        let tf = finite_below t (mul binary64 (inf false) p) h (square_sign d) in
        rw (top_above, by_infinity t tf (square_sign d)) (turned Weight.zero r (lt_le_trans Weight.zero p (neg r) some (lt→le p (neg r) under)))

    any_less : (q : Float) → T (fits binary64 q) → T (lt t (mul binary64 q p)) → T (lt r (gains q))
    any_less nan Q h = absurd (nan_product t p h)
    any_less (inf true) Q h = absurd (infinite_product t p pf h ps)
    any_less (inf false) Q h = infinite_less h
    any_less (fin s m e) Q h = finite_less (fin s m e) (record { fit = Q; real = fin_real s m e }) tt h

  nought_less : (q : Float) → T (fits binary64 q) → T (lt t (mul binary64 q Weight.zero)) → ⊥
  nought_less nan Q h = nan_product t Weight.zero h
  nought_less (inf s) Q h = infinite_zero s t h
  nought_less (fin s m e) Q h =
      let q = fin s m e in
      let z = zero_parts binary64 false in
      let Q# : Number binary64 q = record { fit = Q; real = fin_real s m e } in
      let M# : Number binary64 (mul binary64 q Weight.zero) = record { fit = mul-fits binary64 q Weight.zero; real = (lt_real t (mul binary64 q Weight.zero) h).1 } in
      let T# : Number binary64 t = record { fit = mul-fits binary64 d d; real = (lt_real t (mul binary64 q Weight.zero) h).0 } in
      not_under binary64 t (mul binary64 q Weight.zero) T# M# (square_sign d) (rw zero_is (nought_product binary64 q (fin false 0 (pos 0)) Q# z.number tt tt (omega arith))) h

  -- .. by any bar
  bar_less : (q : Float) → T (fits binary64 q) → T (lt t (mul binary64 q (bar_of r))) → T (lt r (gains q))
  unfolding bar_of
  bar_less q Q h = go (lt Weight.zero x && lt x (neg r)) refl h
    where
      x : Float
      x = mul binary64 r nearly

      go : (b : Bool) → (lt Weight.zero x && lt x (neg r)) ≡ b → T (lt t (mul binary64 q (cond b x Weight.zero))) → T (lt r (gains q))
      go true e k =
          let w = both (lt Weight.zero x) (lt x (neg r)) e in
          let some = (holds _).1 w.0 in
          let P# : Number binary64 x = record { fit = mul-fits binary64 r nearly; real = (lt_real Weight.zero x some).1 } in
          let s = above_zero binary64 x P# (rw zero_is at some) in
          any_less x P# (finite_below x (neg r) ((holds _).1 w.1) s.0) s.0 some ((holds _).1 w.1) q Q k
      go false e k = absurd (nought_less q Q k)

no_more : (a b : Float) → T (lt b a) → le a b ≡ false
no_more a b h = go (le a b) refl
  where
    go : (x : Bool) → le a b ≡ x → le a b ≡ false
    go true e = absurd (lt_irrefl b (lt_le_trans b a b h ((holds _).1 e)))
    go false e = e

curved_fits : (a b e : Float) → T (fits binary64 (curved true a b e))
unfolding curved sub
curved_fits a b e = add-fits binary64 (add binary64 a b) (neg (mul binary64 Weight.two e))

-- x is the copy, v and a the first's value and diagonal, b the sample's diagonal and e their entry
pub lost : (x v a b e floor r : Float) → reaches_of x v a b e (bar_of r) ≡ false
    → (lt Weight.zero (sub binary64 x v) && at_most r (gain (sub binary64 x v) (curvature floor a b e true))) ≡ false
unfolding reaches_of curvature
lost x v a b e floor r = go (lt Weight.zero d)
  where
    d : Float
    d = sub binary64 x v

    q : Float
    q = curved true a b e

    far : (z : Bool) → lt (mul binary64 d d) (mul binary64 q (bar_of r)) ≡ z → not z ≡ false → at_most r (gain d (cond (lt Weight.zero q) q floor)) ≡ false
    far true h k = no_more _ r (bar_less d r floor q (curved_fits a b e) ((holds _).1 h))
    far false h k = absurd (true≢false k)

    go : (s : Bool) → (s && not (lt (mul binary64 d d) (mul binary64 q (bar_of r)))) ≡ false → (s && at_most r (gain d (cond (lt Weight.zero q) q floor))) ≡ false
    go true h = far (lt (mul binary64 d d) (mul binary64 q (bar_of r))) refl h
    go false h = refl

pub passed : (g : Given) (m : List ℕ) (l : First) (x : Float) (j : ℕ) (r : Race) → reaches_of x l.value l.diagonal (entry g m j j) (entry g m l.at j) (bar_of r.value) ≡ false
    → raced_by g m l x j r ≡ r
unfolding raced_by
passed g m l x j r h = rw (lost x l.value l.diagonal (entry g m j j) (entry g m l.at j) g.floor r.value h)
