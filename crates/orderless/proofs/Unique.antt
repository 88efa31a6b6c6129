-- Who holds a best is the only one that could: a search that looks for the value first and for the place after finds the same. Assumes nothing.
use Prim.Native.Nat.{ℕ, ◌-◌, ◌≤◌, ◌<◌}
use mathlib.Core.Bool.{Bool, true, false, not}
use mathlib.Core.Logic.{◌⊎◌, inl, inr}
use mathlib.Core.Path.{◌≡◌, refl, ap, ◌∙◌}
use native.Mathlib.Nat.{eq-zero-or-pos}
use native.Mathlib.Omega.{arith}
use lib.Dec.{T, T_not}
use lib.Ieee.{Float, inf, lt, le}
use Rattle.std.specs.Prelude.{Option, Some, None}
use Rattle.extreme.specs.Best.{at_most, held, best}
use Rattle.extreme.specs.Racing.{below}
use Rattle.extreme.proofs.Rule.{Ranks, Holds, best_rule, extreme_is}
use Rattle.extreme.proofs.Tests.{at_most_ranks}
use Rattle.rounding.specs.Units.{NotNan}
use Rattle.rounding.proofs.Order.{le_real, lt_real, lt→le, lt_le_trans, le_lt_trans, lt_irrefl, not_lt, greatest}

-- the least, and the first of equals
pub below_ranks : Ranks below
below_ranks = record {
  through = λ x y z a b. lt_le_trans z y x b (lt→le y x a);
  past = λ s x y z a b c. lt_le_trans z x y c ((not_lt y x (lt_real y s a).0 (lt_real z x c).1).0 b);
}

side : (a b : ℕ) → (a ≤ b) ⊎ (b < a)
side a b = elim (eq-zero-or-pos (a - b)) [ inl e ↦ inl (omega arith) | inr e ↦ inr (omega arith) ]

not_taken : (x : Bool) → (T x → ⊥) → T (not x)
not_taken true h = h tt
not_taken false h = tt

module _ (takes : Float → Float → Bool) (ranks : Ranks takes) (start : Float) (may : ℕ → Bool) (value : ℕ → Float) (n : ℕ) where
  apart : (i k : ℕ) → i < k → Holds takes start may value n i → Holds takes start may value n k → ⊥
  apart i k l h w = T_not (takes (value i) (value k)) (h.later k l w.inside w.eligible) (w.earlier i l h.eligible h.enters)

  same_place : (i k : ℕ) → (i < k → ⊥) → (k < i → ⊥) → i ≡ k
  same_place i k x z = elim (side i k) [ inr l ↦ absurd (z l) | inl l ↦ elim (side k i) [ inr c ↦ absurd (x c) | inl c ↦ omega arith ] ]

  only : (i k : ℕ) → Holds takes start may value n i → Holds takes start may value n k → i ≡ k
  only i k h w = same_place i k (λ l. apart i k l h w) (λ l. apart k i l w h)

  pub best_at : (i : ℕ) → Holds takes start may value n i → best takes start may value n ≡ held (value i) i
  best_at i h = go (best takes start may value n).holder refl
    where
      go : (e : Option ℕ) → (best takes start may value n).holder ≡ e → best takes start may value n ≡ held (value i) i
      go (Some k) q =
          let r = best_rule takes ranks start may value n in
          let e : k ≡ i = only k i (r.holds k q) h in
          extreme_is (best takes start may value n) (value i) (Some i) (r.value_is k q ∙ ap value e) (q ∙ ap Some e)
      go None q = absurd (T_not (takes start (value i)) ((best_rule takes ranks start may value n).nobody.0 q i h.inside h.eligible) h.enters)

-- ---- the least of a list's copies, from its words

module _ (value : ℕ → Float) (n i : ℕ) (I : i < n) (real : NotNan (value i)) (least : (k : ℕ) → k < n → NotNan (value k) → T (le (value i) (value k))) where
  -- the last of equals
  pub last_at : ((k : ℕ) → i < k → k < n → NotNan (value k) → T (lt (value i) (value k))) → best at_most (inf false) (λ k. true) value n ≡ held (value i) i
  last_at last = best_at at_most at_most_ranks (inf false) (λ k. true) value n i (record {
    inside = I;
    eligible = tt;
    enters = greatest (value i) real;
    earlier = λ k l a c. least k (omega arith) (le_real (value k) (inf false) c).0;
    later = λ k l c a. not_taken (le (value k) (value i)) (λ w. let z = (le_real (value k) (value i) w).0 in lt_irrefl (value i) (lt_le_trans (value i) (value k) (value i) (last k l c z) w));
  })

  -- the first of equals, below infinity
  pub first_at : T (lt (value i) (inf false)) → ((k : ℕ) → k < i → NotNan (value k) → T (lt (value i) (value k))) → best below (inf false) (λ k. true) value n ≡ held (value i) i
  first_at some first = best_at below below_ranks (inf false) (λ k. true) value n i (record {
    inside = I;
    eligible = tt;
    enters = some;
    earlier = λ k l a c. first k l (lt_real (value k) (inf false) c).0;
    later = λ k l c a. not_taken (lt (value k) (value i)) (λ w. let z = (lt_real (value k) (value i) w).0 in lt_irrefl (value i) (le_lt_trans (value i) (value k) (value i) (least k c z) w));
  })
