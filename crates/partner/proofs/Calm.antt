-- Where a gradient doesn't stir, neither of the two extremes that it is weighed for changes. Assumes nothing.
use Prim.Native.Nat.{ℕ}
use mathlib.Core.Bool.{Bool, true, false, cond, not, ◌&&◌, ◌||◌, true≢false}
use mathlib.Core.Path.{◌≡◌, refl, ap}
use lib.Dec.{T, T_not}
use lib.Ieee.{Float, neg, le}
use Rattle.alpha.specs.Weight.{at_upper, at_lower}
use Rattle.alpha.specs.declared.Alpha.{Alpha}
use Rattle.extreme.specs.Best.{at_least, above, held, weighed}
use Rattle.extreme.specs.declared.Extreme.{Extreme}
use Rattle.rounding.proofs.Order.{fails, lt→le}
use Rattle.partner.specs.Stirred.{stirred}

no_growth : (l u a b : Bool) → cond l a (b || (a && not u)) ≡ false → T (not u) → a ≡ false
no_growth true u a b h t = h
no_growth false true a b h t = absurd t
no_growth false false true true h t = absurd (true≢false h)
no_growth false false true false h t = absurd (true≢false h)
no_growth false false false b h t = refl

no_fall : (l u a b : Bool) → cond l a (b || (a && not u)) ≡ false → T (not l) → b ≡ false
no_fall true u a b h t = absurd t
no_fall false u a true h t = absurd (true≢false h)
no_fall false u a false h t = refl

shut : (m t : Bool) → (T m → T t → ⊥) → (m && t) ≡ false
shut true true f = absurd (f tt tt)
shut true false f = refl
shut false t f = refl

-- a test that only what isn't below passes
abbrev pub Reaches : (Float → Float → Bool) → Type 0
Reaches takes = (b v : Float) → T (takes b v) → T (le b v)

pub at_least_reaches : Reaches at_least
at_least_reaches b v t = t

pub above_reaches : Reaches above
above_reaches b v t = lt→le b v t

module _ (takes : Float → Float → Bool) (reaches : Reaches takes) (k : ℕ) (g : Float) (w : Alpha) (b : Extreme) where
  -- what would take it by growing
  pub calm_up : (low : Float) → stirred g w b.value low ≡ false → weighed takes (not (at_upper w)) k (neg g) b ≡ b
  unfolding stirred
  calm_up low h =
      ap (λ (t : Bool). cond t (held (neg g) k) b)
      (shut (not (at_upper w)) (takes b.value (neg g))
      (λ m t. T_not (le b.value (neg g)) ((fails _).1 (no_growth (at_lower w) (at_upper w) (le b.value (neg g)) (le low g) h m)) (reaches _ _ t)))

  -- what would take it by shrinking
  pub calm_low : (up : Float) → stirred g w up b.value ≡ false → weighed takes (not (at_lower w)) k g b ≡ b
  unfolding stirred
  calm_low up h =
      ap (λ (t : Bool). cond t (held g k) b)
      (shut (not (at_lower w)) (takes b.value g)
      (λ m t. T_not (le b.value g) ((fails _).1 (no_fall (at_lower w) (at_upper w) (le up (neg g)) (le b.value g) h m)) (reaches _ _ t)))
