-- The start weights of nu and one-class lie in 0..1. Assumes nothing.
use Prim.Native.Nat.{ℕ, zero, suc, ◌+◌, ◌-◌, ◌*◌, ◌^◌, ◌≤◌, ◌<◌}
use mathlib.Core.Bool.{Bool, true, false, cond}
use mathlib.Core.List.{List}
use mathlib.Core.Logic.{inl, inr}
use mathlib.Core.Path.{◌≡◌, refl, sym, ap₂, ◌∙◌, subst}
use native.Mathlib.Nat.{mul-le-mul, mul-le-mul_right, mul-pos, mul-one, one-mul, le_of_eq, le_trans, le_of_mul-le-mul_right}
use native.Mathlib.Omega.{arith}
use lib.Dec.{T, eqb, ltb, eqb→eq, lit<}
use lib.IntN.{pos}
use lib.Pow.{pow_pos}
use lib.Ieee.{Float, nan, inf, fin, Format, binary64, low, prec, unlike, round, of_int, of_bits, fits, is_nan, sub, mul, div, lt, le, to_unsigned}
use lib.Ieee.Bits.{of_bits-fits}
use lib.Ieee.Order.{round_mono}
use lib.Ieee.Scale.{finite, overflow}
use lib.ListN.{get_or, length-replicate}
use Rattle.alpha.specs.Weight as Weight
use Rattle.alpha.specs.Weight.{one, two}
use Rattle.boxed.specs.Range.{Ceiling, In}
use Rattle.fits.specs.Starts.{nothing, half, given_from, rest_after, rest_to, shared_to, one_class_at, one_class_to}
use Rattle.fits.specs.declared.Rest.{Rest}
use Rattle.floats.specs.Helpers.{min_of, whole_as_float, whole_product}
use Rattle.floats.proofs.Laws.{min_picks, whole_largest}
use Rattle.lists.proofs.Prefix.{prefix_at}
use Rattle.rounding.specs.Units.{Number, Parts, plus, minus, magnitude, negative, nought}
use Rattle.rounding.proofs.Binary64.{zero_is, whole_parts}
use Rattle.rounding.proofs.Order.{lt_real, le_refl}
use Rattle.rounding.proofs.Products.{mul_units, div_units}
use Rattle.rounding.proofs.Rounding.{round_number, rounded_power, rounded_pos, round_parts}
use Rattle.rounding.proofs.Sums.{sub_number, sub_rounds, sign}
use Rattle.rounding.proofs.Units.{compare, one_part, magnitude_is, finite_parts, zero_parts}

-- ---- over any format: what is not below zero

module _ (f : Format) where
  -- a number that is not below zero
  record Some (x : Float) : Type 0 where
    number : Number f x
    low : T (le nought x)

  some_of : (x : Float) → Number f x → minus f x ≤ plus f x → Some x
  some_of x n h = let z = zero_parts f false in record { number = n; low = (compare f nought x z.number n).most.1 (omega (arith, z)) }

  some_none : (x : Float) → Some x → minus f x ≡ 0
  some_none x s =
      let z = zero_parts f false in
      let c = (compare f nought x z.number s.number).most.0 s.low in
      let o = one_part f x in
      omega (arith, z)

  -- what is rounded from a quotient without a sign
  some_round : (a c : ℕ) → 0 < c → Some (round f false a c)
  unfolding of_int
  some_round a c h =
      let x = round f false a c in
      let z = whole_parts f 0 (omega arith) in
      let m = (compare f (of_int f (pos 0)) x z.number (round_number f false a c)).most.0 (round_mono f 0 1 a c (omega arith) h (omega arith)) in
      some_of x (round_number f false a c) (omega (arith, z))

  not_negative : (x : Float) → 0 < plus f x → negative x ≡ false
  unfolding plus
  not_negative x = go (negative x)
    where
      go : (s : Bool) → 0 < cond s 0 (magnitude f x) → s ≡ false
      go true h = absurd (omega arith)
      go false h = refl

  -- what is left of x when y, not above it, is taken
  some_left : (x y : Float) → Some x → Number f y → T (finite y) → T (le y x) → Some (sub f x y)
  some_left x y s n t h =
      let m = sub_number f x y s.number n (inr t) in
      let z = zero_parts f false in
      let c = (compare f y x n s.number).most.0 h in
      record { number = m; low = (sign f (sub f x y) nought _ _ (sub_rounds f x y s.number n m.real) z).1.most.1 (omega arith) }

  -- ---- nu·n, rounded once, for an nu above 0 and at most 1

  module _ (one : Float) (one_is : Parts f one (2 ^ low f) 0) (wide : 512 ≤ 2 ^ prec f) (roomy : 512 * 2 ^ low f < overflow f) (nu : Float) (nu_is : Number f nu) (above : T (lt nought nu))
      (below : T (le nu one)) (n : ℕ) (n_some : 0 < n) (n_few : n ≤ 512) where
    -- nu, and 1, in units
    abbrev u : ℕ
    u = plus f nu

    abbrev l : ℕ
    l = 2 ^ low f

    -- n as a float
    abbrev w : Float
    w = of_int f (pos n)

    u_some : 0 < u
    u_some = let z = zero_parts f false in let c = (compare f nought nu z.number nu_is).less.0 above in omega (arith, z)

    u_none : minus f nu ≡ 0
    u_none = let o = one_part f nu in let s = u_some in omega arith

    u_most : u ≤ l
    u_most = let c = (compare f nu one nu_is one_is.number).most.0 below in let z = u_none in omega (arith, one_is)

    w_is : Parts f w (n * l) 0
    w_is = whole_parts f n (omega arith)

    w_some : 0 < n * l
    w_some = mul-pos n_some (pow_pos (low f))

    w_most : n * l ≤ 512 * l
    w_most = mul-le-mul n_few (omega arith)

    abbrev product : Float
    product = mul f nu w

    product_is : product ≡ round f false (u * (n * l)) (l * l)
    product_is =
        let m = u_most in
        let k = w_most in
        let p = pow_pos (low f) in
        let z = u_none in
        let d = w_is in
        mul_units f nu w nu_is w_is.number ((finite_parts f nu nu_is).1 (omega arith)) ((finite_parts f w w_is.number).1 (omega arith))
        ∙ ap₂ (λ (s : Bool) (a : ℕ). round f s a (l * l)) (ap₂ unlike (not_negative nu u_some) (not_negative w (let e = w_some in omega (arith, w_is))))
        (ap₂ (λ (a b : ℕ). a * b) (magnitude_is f nu ∙ (omega arith)) (magnitude_is f w ∙ (omega arith)))

    -- above 0, at most 512, no sign
    record Product (x : Float) : Type 0 where
      number : Number f x
      some : 0 < plus f x
      none : minus f x ≡ 0
      most : plus f x ≤ 512 * l

    product_within : Product product
    product_within =
        let x = round f false (u * (n * l)) (l * l) in
        let p = pow_pos (low f) in
        let q = mul-pos p p in
        let s = some_round (u * (n * l)) (l * l) q in
        let top = whole_parts f 512 wide in
        let bottom = round_parts f false 1 in
        let a : 1 * (l * l) ≤ u * (n * l) * l = rw (one-mul (l * l)) (mul-le-mul_right l (le_trans (le_of_eq (sym (one-mul l))) (mul-le-mul u_some (le_trans (le_of_eq (sym (one-mul l))) (mul-le-mul n_some (le_of_eq refl)))))) in
        let b : u * (n * l) * 1 ≤ 512 * (l * l) = rw (mul-one (u * (n * l))) (le_trans (mul-le-mul u_most w_most) (omega arith)) in
        let low = (compare f (round f false 1 l) x bottom.number s.number).most.0 (round_mono f 1 l (u * (n * l)) (l * l) p q a) in
        let high = (compare f x (of_int f (pos 512)) s.number top.number).most.0 (unfold of_int in round_mono f (u * (n * l)) (l * l) 512 1 q (omega arith) b) in
        let z = some_none x s in
        let r = rounded_pos f 1 (omega arith) in
        rw product_is (record { number = s.number; some = omega (arith, bottom); none = z; most = omega (arith, top) })

    half_some : (two : Float) → Parts f two (2 * l) 0 → Some (div f product two)
    half_some two t =
        let x = product_within in
        let p = pow_pos (low f) in
        let m : 0 < magnitude f two = rw (magnitude_is f two) (omega (arith, t)) in
        rw (
          div_units f product two x.number t.number ((finite_parts f product x.number).1 (omega (arith, x))) ((finite_parts f two t.number).1 (omega (arith, t))) m,
          not_negative product x.some,
          not_negative two (omega (arith, t)),
        )
        (some_round (magnitude f product) (magnitude f two) m)

    -- what is left of it above its whole part k lies in 0..1
    rest_within : (k : ℕ) → k ≡ to_unsigned 64 product → Some (sub f product (of_int f (pos k))) × T (le (sub f product (of_int f (pos k))) one)
    rest_within k e =
        let x = product_within in
        let p = pow_pos (low f) in
        let t = (finite_parts f product x.number).1 (omega (arith, x)) in
        let g = rw (sym e) at (whole_largest f product x.number t x.none (omega (arith, x))) in
        let small : k ≤ 512 = le_of_mul-le-mul_right {k = l} (le_trans g.not_above x.most) p in
        let v = whole_parts f k (le_trans small wide) in
        let m = sub_number f product (of_int f (pos k)) x.number v.number (inl t) in
        let r = sub_rounds f product (of_int f (pos k)) x.number v.number m.real in
        let a = rounded_power f (low f) (plus f product + minus f (of_int f (pos k)) - (minus f product + plus f (of_int f (pos k)))) (omega arith) (omega (arith, g, v, x)) in (
          record { number = m; low = (sign f (sub f product (of_int f (pos k))) nought _ _ r (zero_parts f false)).1.most.1 (omega (arith, g, v, x)) },
          (compare f (sub f product (of_int f (pos k))) one m one_is.number).most.1 (omega (arith, r, one_is)),
        )

-- ---- the f64s

one_parts : Parts binary64 one (2 ^ low binary64) 0
unfolding of_bits is_nan plus minus
one_parts = record { number = record { fit = of_bits-fits binary64 0x3ff0_0000_0000_0000; real = tt }; plus_is = refl; minus_is = refl }

two_parts : Parts binary64 two (2 * 2 ^ low binary64) 0
unfolding of_bits is_nan plus minus
two_parts = record { number = record { fit = of_bits-fits binary64 0x4000_0000_0000_0000; real = tt }; plus_is = refl; minus_is = refl }

pub ceiling_one : Ceiling one
unfolding of_bits le
ceiling_one = record { number = one_parts.number; low = tt; high = tt }

one_finite : T (finite one)
unfolding of_bits
one_finite = tt

in_one : (x : Float) → Some binary64 x → T (le x one) → In one x
in_one x s h = record { number = s.number; low = rw zero_is s.low; high = h }

some_one : Some binary64 one
unfolding of_bits le
some_one = record { number = one_parts.number; low = tt }

-- ---- nu: what each sample is given

given_in : (x : Float) → Some binary64 x → In one (min_of one x)
given_in x s =
    let m = min_picks one x in
    elim m.one_of [
      | inl e ↦ rw e (in_one one some_one (le_refl one one_parts.number.real))
      | inr e ↦ in_one (min_of one x) (rw e s) (m.first one_parts.number.real)
    ]

in_finite : (x : Float) → T (le Weight.zero x) → T (le x one) → T (finite x)
unfolding of_bits le
in_finite nan a b = a
in_finite (inf true) a b = a
in_finite (inf false) a b = b
in_finite (fin s m e) a b = tt

left_some : (x : Float) → Some binary64 x → Some binary64 (sub binary64 x (min_of one x))
left_some x s =
    let m = min_picks one x in
    let w = given_in x s in
    some_left binary64 x (min_of one x) s w.number (in_finite (min_of one x) w.low w.high) (m.second s.number.real)

record Shares (r : Rest) : Type 0 where
  pos : Some binary64 r.pos
  neg : Some binary64 r.neg

shares_after : (r : Rest) (b : Bool) → Shares r → Shares (rest_after r b)
unfolding rest_after given_from
shares_after r true s = record { pos = left_some r.pos s.pos; neg = s.neg }
shares_after r false s = record { pos = s.pos; neg = left_some r.neg s.neg }

shares_to : (h : Float) (l : List ℕ) → Some binary64 h → (k : ℕ) → Shares (rest_to h l k)
unfolding rest_to
shares_to h l s zero = record { pos = s; neg = s }
shares_to h l s (suc k) = shares_after (rest_to h l k) (eqb (get_or l k 0) 1) (shares_to h l s k)

shared_in : (r : Rest) (b : Bool) → Shares r → In one (given_from r b)
unfolding given_from
shared_in r true s = given_in r.pos s.pos
shared_in r false s = given_in r.neg s.neg

module _ (nu : Float) (fit : T (fits binary64 nu)) (above : T (lt Weight.zero nu)) (below : T (le nu one)) (n : ℕ) (some : 0 < n) (few : n ≤ 512) where
  nu_number_law : Number binary64 nu
  nu_number_law = record { fit = fit; real = (lt_real Weight.zero nu above).1 }

  nu_above : T (lt nought nu)
  nu_above = rw (sym zero_is) above

  wide : 512 ≤ 2 ^ prec binary64
  wide = lit< tt

  roomy : 512 * 2 ^ low binary64 < overflow binary64
  roomy = lit< tt

  pub nu_start : (l : List ℕ) (k : ℕ) → k < n → In one (get_or (shared_to (half nu n) l nothing n) k nan)
  unfolding shared_to
  nu_start l k h =
      let s = half_some binary64 one one_parts wide roomy nu nu_number_law nu_above below n some few two two_parts in
      rw (prefix_at nan (shared_to (half nu n) l nothing) (λ k. given_from (rest_to (half nu n) l k) (eqb (get_or l k 0) 1)) (λ k. refl) n k (rw (length-replicate 512 Weight.zero) few) h)
      (shared_in (rest_to (half nu n) l k) (eqb (get_or l k 0) 1) (shares_to (half nu n) l s k))

  one_class_in : (k : ℕ) → In one (one_class_at nu n k)
  unfolding one_class_at
  one_class_in k = go (ltb k (whole_product nu n)) (eqb k (whole_product nu n)) refl
    where
      go : (a b : Bool) → eqb k (whole_product nu n) ≡ b → In one (cond a one (cond b (sub binary64 (mul binary64 nu (whole_as_float n)) (whole_as_float k)) Weight.zero))
      go true b e = in_one one some_one (le_refl one one_parts.number.real)
      go false true e =
          let r = rest_within binary64 one one_parts wide roomy nu nu_number_law nu_above below n some few k (eqb→eq k (whole_product nu n) (subst T (sym e) tt)) in
          in_one (sub binary64 (mul binary64 nu (whole_as_float n)) (whole_as_float k)) r.0 r.1
      go false false e = in_one Weight.zero (rw zero_is (some_of binary64 nought (zero_parts binary64 false).number (omega (arith, zero_parts binary64 false)))) ceiling_one.low

  pub one_class_start : (k : ℕ) → k < n → In one (get_or (one_class_to nu n nothing n) k nan)
  unfolding one_class_to
  one_class_start k h =
      rw (prefix_at nan (one_class_to nu n nothing) (one_class_at nu n) (λ k. refl) n k (rw (length-replicate 512 Weight.zero) few) h) (one_class_in k)
