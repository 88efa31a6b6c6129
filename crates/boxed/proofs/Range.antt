-- The box in units, at any format: b is its ceiling, z a zero. Assumes nothing.
use mathlib.Core.Path.{◌≡◌, ◌∙◌}
use mathlib.Core.Logic.{inl}
use Prim.Native.Nat.{ℕ, ◌+◌, ◌-◌, ◌≤◌, ◌<◌}
use native.Mathlib.Omega.{arith}
use lib.Dec.{T}
use lib.Ieee.{Float, Format, add, sub, le}
use lib.Ieee.Scale.{overflow, finite}
use Rattle.rounding.specs.Units.{Number, plus, minus, Parts}
use Rattle.rounding.proofs.Units.{compare, one_part, neg_parts, finite_parts}
use Rattle.rounding.proofs.Rounding.{rounded_mono, rounded_zero, rounded_parts}
use Rattle.rounding.proofs.Sums.{add_rounds, add_number}

-- the ceiling: twice it doesn't overflow
pub record Top (f : Format) (b : Float) : Type 0 where
  pub number : Number f b
  pub low : minus f b ≡ 0
  pub room : plus f b + plus f b < overflow f

pub record Inside (f : Format) (b w : Float) : Type 0 where
  pub number : Number f w
  pub low : minus f w ≡ 0
  pub high : plus f w ≤ plus f b

-- at least 0
pub no_minus : (f : Format) (x : Float) → minus f x ≤ plus f x → minus f x ≡ 0
no_minus f x h = omega (arith, one_part f x)

module _ {f : Format} {z b : Float} (Z : Parts f z 0 0) where
  -- l is a limit of a units
  pub top_of : {l : Float} {a : ℕ} → Parts f l a 0 → a + a < overflow f → Number f b → T (le z b) → T (le b l) → Top f b
  top_of {l} L r n h k =
      let g = (compare f z b Z.number n).most.0 h in
      let m = (compare f b l n L.number).most.0 k in
      let e = no_minus f b (omega (arith, Z)) in
      record { number = n; low = e; room = omega (arith, L) }

  pub inside_of : {w : Float} → Top f b → Number f w → T (le z w) → T (le w b) → Inside f b w
  inside_of {w} t n h k =
      let g = (compare f z w Z.number n).most.0 h in
      let m = (compare f w b n t.number).most.0 k in
      let e = no_minus f w (omega (arith, Z)) in
      record { number = n; low = e; high = omega (arith, t.low) }

  pub of_inside : {w : Float} → Top f b → Inside f b w → T (le z w) × T (le w b)
  of_inside {w} t i = (
    (compare f z w Z.number i.number).most.1 (omega (arith, Z, i.low)),
    (compare f w b i.number t.number).most.1 (omega (arith, i, t.low)),
  )

  pub inside_zero : Inside f b z
  inside_zero = record { number = Z.number; low = Z.minus_is; high = omega (arith, Z.plus_is) }

module _ {f : Format} {b : Float} (t : Top f b) where
  pub inside_top : Inside f b b
  inside_top = record { number = t.number; low = t.low; high = omega arith }

  pub inside_finite : {w : Float} → Inside f b w → T (finite w)
  inside_finite {w} i = (finite_parts f w i.number).1 (omega (arith, i, t.room))

  -- x + y for x ≥ 0 ≥ y with 0 ≤ x + y ≤ b
  pub add_inside : {x y : Float} → Number f x → Number f y → minus f x ≡ 0 → plus f y ≡ 0 → plus f x < overflow f
      → minus f y ≤ plus f x → plus f x ≤ plus f b + minus f y → Inside f b (add f x y)
  add_inside {x} {y} p q a e l h k =
      let n = add_number f x y p q (inl ((finite_parts f x p).1 (omega arith))) in
      let g = add_rounds f x y p q n.real in
      let m = rounded_mono f (plus f x + plus f y - (minus f x + minus f y)) (plus f b) (omega arith) in
      let o = rounded_zero f (minus f x + minus f y - (plus f x + plus f y)) (omega arith) in
      record { number = n; low = g.minus_is ∙ o; high = omega (arith, g.plus_is, rounded_parts f b t.number) }

  -- x - y for 0 ≤ y ≤ x ≤ y + b
  pub sub_inside : {x y : Float} → Number f x → Number f y → minus f x ≡ 0 → minus f y ≡ 0 → plus f x < overflow f
      → plus f y ≤ plus f x → plus f x ≤ plus f b + plus f y → Inside f b (sub f x y)
  unfolding sub
  sub_inside {x} {y} p q a e l h k =
      let g = neg_parts f y q in
      add_inside p g.number a (omega (arith, g)) l (omega (arith, g)) (omega (arith, g))
