-- The pairs of two to twelve languages: their sides are two of them, and each two meet once. By computing all of them. Assumes nothing.
use Prim.Native.Nat.{ℕ, zero, suc, ◌+◌, ◌-◌, ◌*◌, ◌/◌, ◌≤◌, ◌<◌}
use mathlib.Core.Bool.{Bool, true, ◌&&◌, cond}
use mathlib.Core.Logic.{inl, inr}
use mathlib.Core.Path.{◌≡◌, refl, sym, ap, ◌∙◌}
use native.Mathlib.Nat.{eq-or-lt_of_le}
use native.Mathlib.Omega.{arith}
use borrow.Author.Tests.{ltb-true, eqb-true}
use lib.Dec.{eqb, ltb}
use Rattle.rounding.proofs.Order.{both}
use Rattle.votes.specs.declared.Sides.{Sides}
use Rattle.votes.specs.Votes.{pairs_of, sides, sides_after, sides_of}

-- ---- a test at all numbers below n

all : (ℕ → Bool) → ℕ → Bool
all f zero = true
all f (suc n) = all f n && f n

all_at : (f : ℕ → Bool) (n : ℕ) → all f n ≡ true → (i : ℕ) → i < n → f i ≡ true
unfolding all
all_at f zero h i l = let z : ⊥ = omega arith in absurd z
all_at f (suc n) h i l =
    let p = both (all f n) (f n) h in
    elim (eq-or-lt_of_le l) [
      | inl e ↦ let q : i ≡ n = omega arith in rw q p.1
      | inr g ↦ all_at f n p.0 i (omega arith)
    ]

-- ---- both sides are languages, the first before the second

ordered : ℕ → ℕ → Bool
ordered k p = ltb (sides_of k p).first (sides_of k p).second && ltb (sides_of k p).second k

all_ordered : all (λ k. all (ordered k) (pairs_of k)) 13 ≡ true
unfolding all ordered sides_of sides_after
all_ordered = refl

pub sides_ordered : (k p : ℕ) → k ≤ 12 → p < pairs_of k → ((sides_of k p).first < (sides_of k p).second) × ((sides_of k p).second < k)
unfolding ordered
sides_ordered k p h l =
    let t = all_at (λ k. all (ordered k) (pairs_of k)) 13 all_ordered k (omega arith) in
    let g = both _ _ (all_at (ordered k) (pairs_of k) t p l) in
    (ltb-true _ _ g.0, ltb-true _ _ g.1)

-- twelve languages have 66 pairs, fewer have fewer
few : all (λ k. ltb (pairs_of k) 67) 13 ≡ true
unfolding all
few = refl

pub pairs_few : (k : ℕ) → k ≤ 12 → pairs_of k ≤ 66
pairs_few k h = let t : pairs_of k < 67 = ltb-true (pairs_of k) 67 (all_at (λ k. ltb (pairs_of k) 67) 13 few k (omega arith)) in omega arith

-- ---- each two meet once

-- where they meet: behind the pairs of the first languages before i
place : ℕ → ℕ → ℕ → ℕ
place k i j = i * (2 * k - i - 1) / 2 + (j - i - 1)

same_sides : Sides → ℕ → ℕ → Bool
same_sides s i j = eqb s.first i && eqb s.second j

same_sides_law : (s : Sides) (i j : ℕ) → same_sides s i j ≡ true → s ≡ sides i j
unfolding same_sides
same_sides_law s i j h = let p = both _ _ h in let a = eqb-true s.first i p.0 in let b = eqb-true s.second j p.1 in rw (← a, ← b)

there : ℕ → ℕ → ℕ → Bool
there k j i = ltb (place k i j) (pairs_of k) && same_sides (sides_of k (place k i j)) i j

all_there : all (λ k. all (λ j. all (there k j) j) k) 13 ≡ true
unfolding all there place same_sides sides_of sides_after
all_there = refl

back : ℕ → ℕ → Bool
back k p = eqb (place k (sides_of k p).first (sides_of k p).second) p

all_back : all (λ k. all (back k) (pairs_of k)) 13 ≡ true
unfolding all back place sides_of sides_after
all_back = refl

-- two languages of k, the lower number first: one pair has them for its sides, and no other
pub pairs_each : (k i j : ℕ) → k ≤ 12 → i < j → j < k
    → (p : ℕ) × (p < pairs_of k) × (sides_of k p ≡ sides i j) × ((q : ℕ) → q < pairs_of k → sides_of k q ≡ sides i j → q ≡ p)
unfolding there back
pairs_each k i j few l h =
    let a = all_at (λ k. all (λ j. all (there k j) j) k) 13 all_there k (omega arith) in
    let b = all_at (λ j. all (there k j) j) k a j h in
    let t = both _ _ (all_at (there k j) j b i l) in
    let u = all_at (λ k. all (back k) (pairs_of k)) 13 all_back k (omega arith) in (
      place k i j,
      ltb-true _ _ t.0,
      same_sides_law _ i j t.1,
      λ q g e. sym (eqb-true _ _ (all_at (back k) (pairs_of k) u q g)) ∙ ap (λ (s : Sides). place k s.first s.second) e,
    )

-- ---- each language meets each other one: in k - 1 of the pairs

-- in how many of the first p pairs language x is
unfoldable pub meetings_to : ℕ → ℕ → ℕ → ℕ
meetings_to k zero x = 0
meetings_to k (suc p) x = meetings_to k p x + cond (eqb (sides_of k p).first x) 1 (cond (eqb (sides_of k p).second x) 1 0)

all_met : all (λ k. all (λ x. eqb (meetings_to k (pairs_of k) x) (k - 1)) k) 13 ≡ true
unfolding all meetings_to sides_of sides_after
all_met = refl

pub meetings_all : (k x : ℕ) → k ≤ 12 → x < k → meetings_to k (pairs_of k) x ≡ k - 1
meetings_all k x h l =
    let a = all_at (λ k. all (λ x. eqb (meetings_to k (pairs_of k) x) (k - 1)) k) 13 all_met k (omega arith) in
    eqb-true _ _ (all_at (λ x. eqb (meetings_to k (pairs_of k) x) (k - 1)) k a x l)
