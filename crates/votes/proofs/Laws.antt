-- The votes: they total the pairs, none has more than its meetings, and who wins has the most, and more than each before it. Assumes nothing.
use Prim.Native.Nat.{ℕ, zero, suc, ◌+◌, ◌-◌, ◌≤◌, ◌<◌}
use mathlib.Core.Bool.{Bool, true, false, cond}
use mathlib.Core.Logic.{◌⊎◌, inl, inr}
use mathlib.Core.Path.{◌≡◌, refl, ◌∙◌}
use native.Mathlib.Nat.{eq-or-lt_of_le, le_trans, le_of_lt, lt_of_le_of_lt}
use native.Mathlib.Omega.{arith}
use borrow.Author.Tests.{ltb-true, ltb-false, eq-eqb, ne_eqb}
use lib.Dec.{eqb, ltb}
use lib.Ieee as Ieee
use lib.Ieee.{Float, nan, inf, fin, binary64, sub, le}
use Rattle.alpha.specs.Weight as Weight
use Rattle.votes.specs.declared.Sides.{Sides}
use Rattle.votes.specs.Votes.{Panel, pairs_of, sides_of, float_in, pair_sum, chosen_by, vote_of, votes_to, votes_for, total_to, winner_to, Wins}
use Rattle.votes.proofs.Pairs.{sides_ordered, meetings_to, meetings_all}

-- ---- whom a pair votes for: one of its sides

chosen_side : (s : Sides) (sum rho : Float) → (chosen_by s sum rho ≡ s.first) ⊎ (chosen_by s sum rho ≡ s.second)
unfolding chosen_by
chosen_side s sum rho = go (le Weight.zero (sub binary64 sum rho))
  where
    go : (b : Bool) → (cond b s.first s.second ≡ s.first) ⊎ (cond b s.first s.second ≡ s.second)
    go true = inl refl
    go false = inr refl

pub vote_side : (k : ℕ) (l : Panel) (p : ℕ) → (vote_of k l p ≡ (sides_of k p).first) ⊎ (vote_of k l p ≡ (sides_of k p).second)
unfolding vote_of
vote_side k l p = chosen_side (sides_of k p) (pair_sum l p) (float_in l.rhos p)

pub vote_below : (k : ℕ) (l : Panel) (p : ℕ) → k ≤ 12 → p < pairs_of k → vote_of k l p < k
vote_below k l p h g =
    let o = sides_ordered k p h g in
    elim (vote_side k l p) [ inl e ↦ omega (arith, e, o.0, o.1) | inr e ↦ omega (arith, e, o.1) ]

-- a sum that is NaN, or a rho, votes for the second
nan_less : (y : Float) → sub binary64 nan y ≡ nan
unfolding Ieee.sub Ieee.add
nan_less y = refl

less_nan : (x : Float) → sub binary64 x nan ≡ nan
unfolding Ieee.sub Ieee.add Ieee.neg
less_nan nan = refl
less_nan (inf s) = refl
less_nan (fin s m e) = refl

nan_below : le Weight.zero nan ≡ false
unfolding Ieee.le Ieee.lt Ieee.eq Ieee.of_bits
nan_below = refl

pub vote_nan : (k : ℕ) (l : Panel) (p : ℕ) → (pair_sum l p ≡ nan) ⊎ (float_in l.rhos p ≡ nan) → vote_of k l p ≡ (sides_of k p).second
unfolding vote_of chosen_by
vote_nan k l p (inl e) = rw (e, nan_less _, nan_below)
vote_nan k l p (inr e) = rw (e, less_nan _, nan_below)

-- ---- how many

one_at_most : (b : Bool) → cond b 1 0 ≤ 1
one_at_most true = omega arith
one_at_most false = omega arith

pub votes_at_most : (k : ℕ) (l : Panel) (p x : ℕ) → votes_to k l p x ≤ p
unfolding votes_to
votes_at_most k l zero x = omega arith
votes_at_most k l (suc p) x = let h = votes_at_most k l p x in omega (arith, one_at_most (eqb (vote_of k l p) x))

-- one vote more for x is one vote more in all
total_one : (v : ℕ → ℕ) (n x : ℕ) → x < n → total_to (λ y. v y + cond (eqb x y) 1 0) n ≡ total_to v n + 1
unfolding total_to
total_one v zero x h = let z : ⊥ = omega arith in absurd z
total_one v (suc n) x h = elim (eq-or-lt_of_le h) [
  | inl e ↦ let q : x ≡ n = omega arith in rw (total_none v n x (omega arith), eq-eqb x n q) (omega arith)
  | inr g ↦ rw (total_one v n x (omega arith), ne_eqb x n (λ e. omega arith)) (omega arith)
]
  where
    total_none : (v : ℕ → ℕ) (n x : ℕ) → n ≤ x → total_to (λ y. v y + cond (eqb x y) 1 0) n ≡ total_to v n
    total_none v zero x h = refl
    total_none v (suc n) x h = rw (total_none v n x (omega arith), ne_eqb x n (λ e. omega arith)) (omega arith)

total_zero : (n : ℕ) → total_to (λ y. 0) n ≡ 0
unfolding total_to
total_zero zero = refl
total_zero (suc n) = rw (total_zero n)

total_to_law : (k : ℕ) (l : Panel) → k ≤ 12 → (p : ℕ) → p ≤ pairs_of k → total_to (votes_to k l p) k ≡ p
unfolding votes_to
total_to_law k l h zero g = total_zero k
total_to_law k l h (suc p) g = total_one (votes_to k l p) k (vote_of k l p) (vote_below k l p h g) ∙ rw (total_to_law k l h p (omega arith)) (omega arith)

-- the votes of all languages are as many as the pairs
pub votes_total : (k : ℕ) (l : Panel) → k ≤ 12 → total_to (votes_for k l) k ≡ pairs_of k
votes_total k l h = total_to_law k l h (pairs_of k) (omega arith)

one_met : (w a b x : ℕ) → (w ≡ a) ⊎ (w ≡ b) → cond (eqb w x) 1 0 ≤ cond (eqb a x) 1 (cond (eqb b x) 1 0)
one_met w a b x (inl e) = rw e (go (eqb a x))
  where
    go : (t : Bool) → cond t 1 0 ≤ cond t 1 (cond (eqb b x) 1 0)
    go true = omega arith
    go false = omega arith
one_met w a b x (inr e) = rw e (go (eqb a x) (eqb b x))
  where
    go : (t u : Bool) → cond u 1 0 ≤ cond t 1 (cond u 1 0)
    go true true = omega arith
    go true false = omega arith
    go false u = omega arith

votes_met : (k : ℕ) (l : Panel) (p x : ℕ) → votes_to k l p x ≤ meetings_to k p x
unfolding votes_to meetings_to
votes_met k l zero x = omega arith
votes_met k l (suc p) x = let h = votes_met k l p x in omega (arith, one_met (vote_of k l p) (sides_of k p).first (sides_of k p).second x (vote_side k l p))

-- no language has more than one vote for each other language
pub votes_most : (k : ℕ) (l : Panel) (x : ℕ) → k ≤ 12 → x < k → votes_for k l x ≤ k - 1
votes_most k l x h g = rw (meetings_all k x h g) at (votes_met k l (pairs_of k) x)

-- who has the vote of one of the first n pairs has a vote
votes_had : (k : ℕ) (l : Panel) (n p : ℕ) → p < n → 1 ≤ votes_to k l n (vote_of k l p)
unfolding votes_to
votes_had k l zero p h = let z : ⊥ = omega arith in absurd z
votes_had k l (suc n) p h = elim (eq-or-lt_of_le h) [
  | inl e ↦ let q : p ≡ n = omega arith in rw (q, eq-eqb (vote_of k l n) (vote_of k l n) refl) (omega arith)
  | inr g ↦ let i = votes_had k l n p (omega arith) in omega arith
]

-- a first that misses the vote of one has fewer votes than meetings
votes_missed : (k : ℕ) (l : Panel) (n p x : ℕ) → p < n → (sides_of k p).first ≡ x → (vote_of k l p ≡ x → ⊥) → votes_to k l n x + 1 ≤ meetings_to k n x
unfolding votes_to meetings_to
votes_missed k l zero p x h e m = let z : ⊥ = omega arith in absurd z
votes_missed k l (suc n) p x h e m = elim (eq-or-lt_of_le h) [
  | inl q ↦
      let r : p ≡ n = omega arith in
      let a : (sides_of k n).first ≡ x = rw r at e in
      let b : vote_of k l n ≡ x → ⊥ = rw r at m in
      let i = votes_met k l n x in
      rw (eq-eqb (sides_of k n).first x a, ne_eqb (vote_of k l n) x b) (omega arith)
  | inr g ↦ let i = votes_missed k l n p x (omega arith) e m in omega (arith, one_met (vote_of k l n) (sides_of k n).first (sides_of k n).second x (vote_side k l n))
]

-- a pair whose sum is NaN, or its rho: its first has one vote less than it might, its second has one
pub nan_votes : (k : ℕ) (l : Panel) (p : ℕ) → k ≤ 12 → p < pairs_of k → (pair_sum l p ≡ nan) ⊎ (float_in l.rhos p ≡ nan)
    → (votes_for k l (sides_of k p).first ≤ k - 2) × (1 ≤ votes_for k l (sides_of k p).second)
nan_votes k l p h g n =
    let o = sides_ordered k p h g in
    let e = vote_nan k l p n in
    let a = votes_missed k l (pairs_of k) p (sides_of k p).first g refl (λ q. omega (arith, o.0, e, q)) in
    let b = votes_had k l (pairs_of k) p g in
    let m = meetings_all k (sides_of k p).first h (omega (arith, o.0, o.1)) in
    (omega (arith, a, m), rw e at b)

-- ---- the winner, of any votes v

winner_one : (b : Bool) (n w : ℕ) → w ≤ n → cond b n w ≤ n
winner_one true n w h = omega arith
winner_one false n w h = h

-- of n and one more languages, one of the n before it, or it itself
pub winner_near : (v : ℕ → ℕ) (n : ℕ) → winner_to v n ≤ n
unfolding winner_to
winner_near v zero = omega arith
winner_near v (suc n) = let h = winner_one (ltb (v (winner_to v n)) (v n)) n (winner_to v n) (winner_near v n) in omega arith

pub winner_below : (v : ℕ → ℕ) (n : ℕ) → 0 < n → winner_to v n < n
unfolding winner_to
winner_below v zero h = h
winner_below v (suc n) h = let g = winner_one (ltb (v (winner_to v n)) (v n)) n (winner_to v n) (winner_near v n) in omega arith

pub winner_most : (v : ℕ → ℕ) (n x : ℕ) → x < n → v x ≤ v (winner_to v n)
unfolding winner_to
winner_most v zero x h = let z : ⊥ = omega arith in absurd z
winner_most v (suc n) x h = go (ltb (v (winner_to v n)) (v n)) refl (winner_most v n x) (eq-or-lt_of_le h)
  where
    go : (b : Bool) → ltb (v (winner_to v n)) (v n) ≡ b → (x < n → v x ≤ v (winner_to v n)) → (suc x ≡ suc n) ⊎ (suc x < suc n) → v x ≤ v (cond b n (winner_to v n))
    go true e h (inl q) = let r : x ≡ n = omega arith in rw r (omega arith)
    go true e h (inr g) = let a : v (winner_to v n) < v n = ltb-true _ _ e in let b = h (omega arith) in le_trans b (le_of_lt a)
    go false e h (inl q) = let r : x ≡ n = omega arith in rw r (ltb-false _ _ e)
    go false e h (inr g) = h (omega arith)

-- so among equals the lowest
pub winner_first : (v : ℕ → ℕ) (n x : ℕ) → x < winner_to v n → v x < v (winner_to v n)
unfolding winner_to
winner_first v zero x h = let z : ⊥ = omega arith in absurd z
winner_first v (suc n) x h = go (ltb (v (winner_to v n)) (v n)) refl (winner_first v n x) h
  where
    go : (b : Bool) → ltb (v (winner_to v n)) (v n) ≡ b → (x < winner_to v n → v x < v (winner_to v n)) → x < cond b n (winner_to v n) → v x < v (cond b n (winner_to v n))
    go true e h g = lt_of_le_of_lt (winner_most v n x g) (ltb-true _ _ e)
    go false e h g = h g

pub winner_wins : (v : ℕ → ℕ) (k : ℕ) → 0 < k → Wins v k (winner_to v k)
winner_wins v k h = record { below = winner_below v k h; most = winner_most v k; first = winner_first v k }

-- ---- for the code

pub either_below : (b : Bool) (x w r : ℕ) → r ≡ cond b x w → x < 12 → w < 12 → r < 12
either_below true x w r e h g = omega arith
either_below false x w r e h g = omega arith
