-- What a start and a reconstruction leave as it was. Assumes nothing.
--
-- Main theorems:
--   same_started: the start leaves weights, ceilings and linear terms; `same_laid`, `same_gathered` and `same_diagonal` are its parts
--   same_reconstructed: a reconstruction leaves all but the gradients
use Prim.Native.Nat.{ℕ, zero, suc, ◌+◌, ◌-◌, ◌*◌, ◌≤◌, ◌<◌}
use mathlib.Core.Bool.{Bool, true, false, cond}
use mathlib.Core.List.{List}
use mathlib.Core.Path.{◌≡◌, refl, ◌∙◌}
use native.Mathlib.Omega.{arith}
use lib.Dec.{eqb, ltb}
use lib.Ieee.{Float, nan}
use lib.ListN.{length, get_or, set, length-set}
use lib.Seq.{get_or-set_other}
use Rattle.alpha.specs.Weight.{at_upper, at_lower, is_free, zero as nought}
use Rattle.alpha.specs.declared.Alpha.{Alpha}
use Rattle.reconstruct.specs.Reconstruct.{fresh_to, free_to, gets, outer_by, outer_at, outer_to, inner_by, inner_at, inner_to, branched, reconstructed}
use Rattle.rows.specs.Added.{row_added}
use Rattle.rows.proofs.Filled.{length_row_added, row_added_other}
use Rattle.start.specs.Start.{laid_to, diagonal_to, joined_by, joined, gathered_to, started}
use Rattle.state.specs.Fields.{alpha, bound}
use Rattle.state.specs.Lists.{Problem, State, state, over}

-- h is as long as f, and has what f has at the places from lo on and below hi
pub record Same (lo hi : ℕ) (f h : List Float) : Type 0 where
  pub long : length h ≡ length f
  pub at : (q : ℕ) → lo ≤ q → q < hi → get_or h q nan ≡ get_or f q nan

module _ (lo hi : ℕ) where
  same_refl : (f : List Float) → Same lo hi f f
  same_refl f = record { long = refl; at = λ q a b. refl }

  same_trans : (f g h : List Float) → Same lo hi f g → Same lo hi g h → Same lo hi f h
  same_trans f g h x y = record { long = y.long ∙ x.long; at = λ q a b. y.at q a b ∙ x.at q a b }

  same_set : (f : List Float) (k : ℕ) (x : Float) → ((q : ℕ) → lo ≤ q → q < hi → q ≡ k → ⊥) → Same lo hi f (set f k x)
  same_set f k x out = record { long = length-set f k x; at = λ q a b. get_or-set_other f k q x nan (out q a b) }

  same_either : (f g h : List Float) (x : Bool) → Same lo hi f g → Same lo hi f h → Same lo hi f (cond x g h)
  same_either f g h true a b = a
  same_either f g h false a b = b

  same_row : (p : Problem) (s : State) (base : ℕ) (x : Float) (i from k : ℕ) → ((q h : ℕ) → lo ≤ q → q < hi → h < k → q ≡ base + (from + h) → ⊥)
      → Same lo hi s.floats (row_added p s base x i from k)
  same_row p s base x i from k out =
      record { long = length_row_added p s base x i from k; at = λ q a b. row_added_other p s base x i from k q (λ h c. out q h a b c) }

-- ---- the start: weights, ceilings and linear terms stay

module _ (p : Problem) (hi : ℕ) where
  pub same_laid : (f : List Float) (k : ℕ) → k ≤ p.n → Same (2 * p.n) hi f (laid_to p.n f k)
  unfolding laid_to
  same_laid f zero l = same_refl (2 * p.n) hi f
  same_laid f (suc k) l =
      let g = laid_to p.n f k in
      let x = get_or g (4 * p.n + k) nan in
      same_trans (2 * p.n) hi f (set g k x) (set (set g k x) (p.n + k) nought)
      (same_trans (2 * p.n) hi f g (set g k x) (same_laid f k (omega arith)) (same_set (2 * p.n) hi g k x (λ q c d e. omega arith)))
      (same_set (2 * p.n) hi (set g k x) (p.n + k) nought (λ q c d e. omega arith))

  same_joined : (b : List Float) (s : State) (i : ℕ) (w : Alpha) → Same (2 * p.n) hi s.floats (joined_by p b s i w)
  unfolding joined_by
  same_joined b s i w =
      let f = row_added p s 0 w.value i 0 p.n in
      let one = same_row (2 * p.n) hi p s 0 w.value i 0 p.n (λ q h c d l e. omega arith) in
      let two = same_row (2 * p.n) hi p (state f s.numbers s.labels) p.n (bound b i) i 0 p.n (λ q h c d l e. omega arith) in
      same_either (2 * p.n) hi s.floats s.floats _ (at_lower w) (same_refl (2 * p.n) hi s.floats)
      (same_either (2 * p.n) hi s.floats _ f (at_upper w) (same_trans (2 * p.n) hi s.floats f _ one two) one)

  pub same_gathered : (b : List Float) (s : State) (k : ℕ) → Same (2 * p.n) hi s.floats (gathered_to p b s k)
  unfolding gathered_to
  same_gathered b s zero = same_refl (2 * p.n) hi s.floats
  same_gathered b s (suc k) =
      let f = gathered_to p b s k in
      let t = state f s.numbers s.labels in
      same_trans (2 * p.n) hi s.floats f (joined p b t k) (same_gathered b s k) (same_joined b t k (alpha p t k))

pub same_diagonal : (p : Problem) (f : List Float) (k : ℕ) → Same (2 * p.n) (5 * p.n) f (diagonal_to p.n p.side p.matrix f k)
unfolding diagonal_to
same_diagonal p f zero = same_refl (2 * p.n) (5 * p.n) f
same_diagonal p f (suc k) =
    let g = diagonal_to p.n p.side p.matrix f k in
    same_trans (2 * p.n) (5 * p.n) f g _ (same_diagonal p f k) (same_set (2 * p.n) (5 * p.n) g (5 * p.n + k) _ (λ q c d e. omega arith))

pub same_started : (p : Problem) (b : List Float) (s : State) → Same (2 * p.n) (5 * p.n) s.floats (started p b s)
unfolding started
same_started p b s =
    let f = laid_to p.n s.floats p.n in
    let g = diagonal_to p.n p.side p.matrix f p.side in
    same_trans (2 * p.n) (5 * p.n) s.floats g _
    (same_trans (2 * p.n) (5 * p.n) s.floats f g (same_laid p (5 * p.n) s.floats p.n (omega arith)) (same_diagonal p f p.side))
    (same_gathered p (5 * p.n) b (state g s.numbers s.labels) p.n)

-- ---- reconstruction: all but inactive gradients stays

module _ (p : Problem) (a : ℕ) (A : a ≤ p.n) (x : Bool) (lo hi : ℕ) (out : (q : ℕ) → lo ≤ q → q < hi → a ≤ q → q < p.n → ⊥) where
  same_fresh : (f : List Float) (k : ℕ) → k ≤ p.n - a → Same lo hi f (fresh_to p.n a f k)
  unfolding fresh_to
  same_fresh f zero l = same_refl lo hi f
  same_fresh f (suc k) l =
      let g = fresh_to p.n a f k in
      same_trans lo hi f g _ (same_fresh f k (omega arith)) (same_set lo hi g (a + k) _ (λ q c d e. out q c d (omega arith) (omega arith)))

  same_outer_one : (s : State) (i : ℕ) (w : Alpha) → a ≤ i → i < p.n → Same lo hi s.floats (outer_by p x s a i w)
  unfolding outer_by
  same_outer_one s i w m l =
      same_either lo hi s.floats _ s.floats (gets x w) (same_set lo hi s.floats i _ (λ q c d e. out q c d (omega arith) (omega arith))) (same_refl lo hi s.floats)

  same_outer : (s : State) (k : ℕ) → k ≤ p.n - a → Same lo hi s.floats (outer_to p x a s k)
  unfolding outer_to
  same_outer s zero l = same_refl lo hi s.floats
  same_outer s (suc k) l =
      let f = outer_to p x a s k in
      let t = over s f in
      same_trans lo hi s.floats f (outer_at p x t a (a + k)) (same_outer s k (omega arith)) (same_outer_one t (a + k) (alpha p t (a + k)) (omega arith) (omega arith))

  same_inner_one : (s : State) (i : ℕ) (w : Alpha) → Same lo hi s.floats (inner_by p s a i w)
  unfolding inner_by
  same_inner_one s i w =
      same_either lo hi s.floats _ s.floats (is_free w)
      (same_row lo hi p s 0 w.value i a (p.n - a) (λ q h c d l e. out q c d (omega arith) (omega arith))) (same_refl lo hi s.floats)

  same_inner : (s : State) (k : ℕ) → Same lo hi s.floats (inner_to p a s k)
  unfolding inner_to
  same_inner s zero = same_refl lo hi s.floats
  same_inner s (suc k) =
      let f = inner_to p a s k in
      let t = over s f in
      same_trans lo hi s.floats f (inner_at p t a k) (same_inner s k) (same_inner_one t k (alpha p t k))

  same_branched : (s : State) → Same lo hi s.floats (branched p x a s)
  unfolding branched
  same_branched s =
      same_either lo hi s.floats _ _ (ltb (2 * a * (p.n - a)) (free_to p.n s.floats a * p.n)) (same_outer s (p.n - a) (omega arith)) (same_inner s a)

  pub same_written : (s : State) → Same lo hi s.floats (reconstructed p x a s)
  unfolding reconstructed
  same_written s =
      let f = fresh_to p.n a s.floats (p.n - a) in
      same_either lo hi s.floats s.floats _ (eqb a p.n) (same_refl lo hi s.floats)
      (same_trans lo hi s.floats f _ (same_fresh s.floats (p.n - a) (omega arith)) (same_branched (over s f)))

-- every field but the gradients
pub same_reconstructed : (p : Problem) (x : Bool) (a : ℕ) → a ≤ p.n → (hi : ℕ) (s : State) → Same p.n hi s.floats (reconstructed p x a s)
same_reconstructed p x a A hi s = same_written p a A x p.n hi (λ q c d e f. omega arith) s

-- and the active gradients
pub same_active : (p : Problem) (x : Bool) (a : ℕ) → a ≤ p.n → (s : State) → Same 0 a s.floats (reconstructed p x a s)
same_active p x a A s = same_written p a A x 0 a (λ q c d e f. omega arith) s
