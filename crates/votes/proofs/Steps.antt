-- What the loops of the code lean on. Assumes nothing.
use Prim.Native.Nat.{ℕ, zero, suc, ◌+◌, ◌≤◌, ◌<◌}
use mathlib.Core.Bool.{cond}
use mathlib.Core.List.{List}
use mathlib.Core.Logic.{inl, inr}
use mathlib.Core.Path.{◌≡◌, refl, sym, ◌∙◌}
use native.Mathlib.Decide.{ℕ_discrete}
use native.Mathlib.Nat.{eq-or-lt_of_le}
use native.Mathlib.Omega.{arith}
use borrow.Author.Tests.{eq-eqb, ne_eqb}
use lib.Dec.{eqb}
use lib.Ieee.{Float}
use lib.ListN.{length, get_or, set}
use lib.Seq.{get_or-set_same, get_or-set_other}
use Rattle.votes.specs.declared.Sides.{Sides}
use Rattle.votes.specs.Votes.{Panel, pairs_of, sides_of, word_in, float_in, pair_start, pair_sum_to, pair_sum, chosen_by, vote_of, votes_to, winner_to}
use Rattle.votes.specs.Entry.{Sized, votes_laid}
use Rattle.votes.proofs.Laws.{vote_below, winner_near}

-- a pair's coefficients end before the next pair's begin
pub start_within : (held : List ℕ) (n p : ℕ) → p < n → pair_start held p + word_in held p ≤ pair_start held n
unfolding pair_start
start_within held zero p h = let z : ⊥ = omega arith in absurd z
start_within held (suc n) p h = elim (eq-or-lt_of_le h) [
  | inl e ↦ let q : p ≡ n = omega arith in rw q (omega arith)
  | inr g ↦ let i = start_within held n p (omega arith) in omega arith
]

-- one vote more at its place
pub vote_counted : (k : ℕ) (l : Panel) (p : ℕ) (t : List ℕ) → length t ≡ 12 → vote_of k l p < 12 → ((x : ℕ) → x < 12 → get_or t x 0 ≡ votes_to k l p x)
    → (x : ℕ) → x < 12 → get_or (set t (vote_of k l p) (get_or t (vote_of k l p) 0 + 1)) x 0 ≡ votes_to k l (suc p) x
unfolding votes_to
vote_counted k l p t long h same x g = go (ℕ_discrete x (vote_of k l p))
  where
    w : ℕ
    w = vote_of k l p

    go : Dec (x ≡ w) → get_or (set t w (get_or t w 0 + 1)) x 0 ≡ votes_to k l p x + cond (eqb w x) 1 0
    go (yes e) = rw (e, get_or-set_same t w (get_or t w 0 + 1) 0 (omega arith), same w h, eq-eqb w w refl)
    go (no e) = rw (get_or-set_other t w x (get_or t w 0 + 1) 0 e, same x g, ne_eqb w x (λ q. e (sym q))) (omega arith)

-- what the loop has at hand is the pair's vote, and one of twelve places
pub vote_made : (k : ℕ) (l : Panel) (n p : ℕ) {s : Sides} {start count : ℕ} {sum rho : Float} {x : ℕ} → Sized k l → n ≡ pairs_of k → p < n → s ≡ sides_of k p → start ≡ pair_start l.held p
    → count ≡ word_in l.held p → sum ≡ pair_sum_to l.coefficients l.values start count → rho ≡ float_in l.rhos p → x ≡ chosen_by s sum rho → (x ≡ vote_of k l p) × (x < 12)
unfolding vote_of pair_sum
vote_made k l n p {x = x} z m h a b c d e f =
    let w : x ≡ vote_of k l p = f ∙ rw (d, e, a, b, c) in
    (w, omega (arith, w, vote_below k l p z.most (omega arith), z.most))

-- the same votes are laid, and won, alike
pub laid_same : (v w : ℕ → ℕ) (b : List ℕ) (n : ℕ) → ((x : ℕ) → x < n → v x ≡ w x) → votes_laid v b n ≡ votes_laid w b n
unfolding votes_laid
laid_same v w b zero h = refl
laid_same v w b (suc n) h = rw (laid_same v w b n (λ x l. h x (omega arith)), h n (omega arith))

pub winner_same : (v w : ℕ → ℕ) (n : ℕ) → ((x : ℕ) → x < n → v x ≡ w x) → winner_to v n ≡ winner_to w n
unfolding winner_to
winner_same v w zero h = refl
winner_same v w (suc n) h =
    let e = winner_same v w n (λ x l. h x (omega arith)) in
    rw (e, h n (omega arith), h (winner_to w n) (omega (arith, winner_near w n)))
