-- Where a result is no NaN: magnitudes that stay bounded, a quotient by what is above zero, and the step of a chosen pair. Assumes nothing.
--
-- Main theorems:
--   within_finite: a magnitude of 2^k units at the most, where that is below the overflow, is finite
--   within_of: a number from -b to b, where b is 2^k units, is within 2^k
--   within_add: a sum of two within 2^k is within 2^(k+1), where that is below the overflow; `within_sub` and `within_twice` for a difference and the double
--   div_real: a quotient by what is finite and above zero is no NaN, where the dividend is none
--   neg_sub_real: where x + y is no NaN, -x - y is none
--   sub_real: where -x + y is no NaN, x - y is none
use mathlib.Core.Path.{ap}
use mathlib.Core.Logic.{inl}
use mathlib.Core.Bool.{Bool, true, false, not}
use Prim.Native.Nat.{ℕ, suc, ◌+◌, ◌-◌, ◌*◌, ◌^◌, ◌<◌}
use native.Mathlib.Omega.{arith}
use lib.IntN.{ℤ}
use lib.Dec.{T, eqb, ltb→lt, eqb→eq, not_T}
use lib.Pow.{pow-lt}
use lib.Ieee.{Float, nan, inf, fin, Format, emax, low, up, down, unlike, neg, add, sub, mul, div, lt, le, is_nan}
use lib.Ieee.Bits.{cond_no}
use lib.Ieee.Scale.{finite}
use Rattle.rounding.specs.Units.{NotNan, Number, plus, minus, Parts, Within, nought, exact_two}
use Rattle.rounding.proofs.Order.{neg_neg}
use Rattle.rounding.proofs.Units.{compare, one_part, neg_parts, finite_parts}
use Rattle.rounding.proofs.Rounding.{round_number, rounded_power}
use Rattle.rounding.proofs.Sums.{add_rounds, add_number, sum_real}
use Rattle.rounding.proofs.Products.{twice}

module _ (f : Format) where
  -- ---- magnitudes of 2 ^ k units at the most, where that is below the overflow

  pub within_finite : (k : ℕ) (x : Float) → k < low f + suc (emax f) → Within f k x → T (finite x)
  within_finite k x h p = (finite_parts f x p.number).1 (omega (arith, pow-lt h))

  pub within_of : (k : ℕ) (b x : Float) → Parts f b (2 ^ k) 0 → Number f x → T (le (neg b) x) → T (le x b) → Within f k x
  within_of k b x g p h i =
      let n = neg_parts f b g.number in
      let a = (compare f (neg b) x n.number p).most.0 h in
      let c = (compare f x b p g.number).most.0 i in
      let o = one_part f x in
      record { number = p; above = omega arith; below = omega arith }

  pub within_neg : (k : ℕ) (x : Float) → Within f k x → Within f k (neg x)
  within_neg k x p = let g = neg_parts f x p.number in record { number = g.number; above = omega arith; below = omega arith }

  pub within_add : (k : ℕ) (x y : Float) → suc k < low f + suc (emax f) → Within f k x → Within f k y → Within f (suc k) (add f x y)
  within_add k x y h p q =
      let n = add_number f x y p.number q.number (inl (within_finite k x (omega arith) p)) in
      let g = add_rounds f x y p.number q.number n.real in
      let a = rounded_power f (suc k) (plus f x + plus f y - (minus f x + minus f y)) h (omega arith) in
      let b = rounded_power f (suc k) (minus f x + minus f y - (plus f x + plus f y)) h (omega arith) in
      record { number = n; above = omega arith; below = omega arith }

  pub within_sub : (k : ℕ) (x y : Float) → suc k < low f + suc (emax f) → Within f k x → Within f k y → Within f (suc k) (sub f x y)
  unfolding sub
  within_sub k x y h p q = within_add k x (neg y) h p (within_neg k y q)

  pub within_twice : (k : ℕ) (x : Float) → suc k < low f + suc (emax f) → Within f k x → Within f (suc k) (mul f exact_two x)
  within_twice k x h p = rw (twice f x) (within_add k x x h p p)

  -- ---- a quotient by what is finite and above zero

  no_zero : (s : Bool) (n : ℕ) (d : ℤ) → T (lt nought (fin s n d)) → T (eqb n 0) → ⊥
  unfolding lt
  no_zero false n d h t = omega (arith, ltb→lt (0 * down d) (n * up d * 1) h, ap (λ (i : ℕ). i * up d * 1) (eqb→eq n 0 t))
  no_zero true n d h t = elim h [ ]

  pub div_real : (x y : Float) → NotNan x → T (finite y) → T (lt nought y) → NotNan (div f x y)
  unfolding div is_nan
  div_real nan y p h k = p
  div_real (inf s) (fin t n d) p h k = tt
  div_real (fin s m e) (fin t n d) p h k =
      rw (cond_no (eqb n 0) _ _ (not_T (eqb n 0) (no_zero t n d k)))
      (round_number f (unlike s t) (m * up e * down d) (n * up d * down e)).real
  div_real (inf s) nan p h k = elim h [ ]
  div_real (inf s) (inf _) p h k = elim h [ ]
  div_real (fin s m e) nan p h k = elim h [ ]
  div_real (fin s m e) (inf _) p h k = elim h [ ]

  -- ---- the step of a chosen pair: − x − y where the choice had x + y, and x − y where it had − x + y

  pub neg_sub_real : (x y : Float) → NotNan (add f x y) → NotNan (sub f (neg x) y)
  unfolding add sub neg is_nan
  neg_sub_real nan y h = h
  neg_sub_real (inf s) nan h = h
  neg_sub_real (inf false) (inf false) h = h
  neg_sub_real (inf false) (inf true) h = h
  neg_sub_real (inf true) (inf false) h = h
  neg_sub_real (inf true) (inf true) h = h
  neg_sub_real (inf s) (fin t n d) h = tt
  neg_sub_real (fin s m e) nan h = h
  neg_sub_real (fin s m e) (inf t) h = tt
  neg_sub_real (fin s m e) (fin t n d) h = sum_real f (not s) (not t) (m * up e * down d) (n * up d * down e) (down e * down d)

  pub sub_real : (x y : Float) → NotNan (add f (neg x) y) → NotNan (sub f x y)
  sub_real x y h = rw (neg_neg x) at (neg_sub_real (neg x) y h)
