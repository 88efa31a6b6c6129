-- What the start leaves of gradients and diagonal. Assumes nothing.
--
-- Main theorems:
--   laid_at: before any weight is joined the gradient is the linear term; `joined_gradient`: what a weight adds to it
--   diagonal_own: each diagonal entry stands at its kernel index
use Prim.Native.Nat.{ℕ, zero, suc, ◌+◌, ◌*◌, ◌<◌, ◌≤◌}
use mathlib.Core.Bool.{Bool, true, false, cond}
use mathlib.Core.List.{List}
use mathlib.Core.Path.{◌≡◌, refl, ◌∙◌}
use native.Mathlib.Decide.{ℕ_discrete}
use native.Mathlib.Nat.{zero-add}
use native.Mathlib.Omega.{arith}
use lib.Ieee.{Float, nan, binary64, add, mul, eq}
use lib.ListN.{length, get_or, set}
use lib.Seq.{get_or-set_same, get_or-set_other}
use Rattle.alpha.specs.Weight as Weight
use Rattle.alpha.specs.Weight.{at_lower, at_upper}
use Rattle.alpha.specs.declared.Alpha.{Alpha}
use Rattle.kernel.specs.Matrix.{entry_at}
use Rattle.rows.specs.Added.{row_added}
use Rattle.rows.proofs.Filled.{row_added_other, row_added_at}
use Rattle.start.specs.Start.{laid_to, diagonal_to, joined_by}
use Rattle.state.specs.Fields.{row, bound}
use Rattle.state.specs.Lists.{Problem, State, state}
use Rattle.trace.proofs.Rests.{same_laid, same_diagonal}

module _ (p : Problem) where
  pub laid_at : (f : List Float) (k h : ℕ) → h < k → k ≤ p.n → 7 * p.n ≤ length f → get_or (laid_to p.n f k) h nan ≡ get_or f (4 * p.n + h) nan
  unfolding laid_to
  laid_at f zero h l r w = let z : ⊥ = omega arith in absurd z
  laid_at f (suc k) h l r w = go (ℕ_discrete h k) (laid_at f k h)
    where
      g : List Float
      g = laid_to p.n f k

      long : length g ≡ length f
      long = (same_laid p (5 * p.n) f k (omega arith)).long

      x : Float
      x = get_or g (4 * p.n + k) nan

      go : Dec (h ≡ k) → (h < k → k ≤ p.n → 7 * p.n ≤ length f → get_or g h nan ≡ get_or f (4 * p.n + h) nan)
          → get_or (set (set g k x) (p.n + k) Weight.zero) h nan ≡ get_or f (4 * p.n + h) nan
      go (yes e) before =
          rw e (get_or-set_other (set g k x) (p.n + k) k Weight.zero nan (λ z. omega arith) ∙ get_or-set_same g k x nan (rw long (omega arith))
          ∙ (same_laid p (5 * p.n) f k (omega arith)).at (4 * p.n + k) (omega arith) (omega arith))
      go (no e) before =
          get_or-set_other (set g k x) (p.n + k) h Weight.zero nan (λ z. omega arith) ∙ get_or-set_other g k h x nan e ∙ before (omega arith) (omega arith) w

  -- the diagonal is stored behind all that travels
  pub diagonal_other : (f : List Float) (c h : ℕ) → h < 5 * p.n → get_or (diagonal_to p.n p.side p.matrix f c) h nan ≡ get_or f h nan
  unfolding diagonal_to
  diagonal_other f zero h l = refl
  diagonal_other f (suc c) h l =
      get_or-set_other (diagonal_to p.n p.side p.matrix f c) (5 * p.n + c) h _ nan (λ e. omega arith) ∙ diagonal_other f c h l

  pub diagonal_own : (f : List Float) (c k : ℕ) → k < c → 5 * p.n + c ≤ length f
      → get_or (diagonal_to p.n p.side p.matrix f c) (5 * p.n + k) nan ≡ entry_at p.side p.matrix k k
  unfolding diagonal_to
  diagonal_own f zero k h l = let z : ⊥ = omega arith in absurd z
  diagonal_own f (suc c) k h l = go (diagonal_own f c k) (ℕ_discrete k c)
    where
      d : List Float
      d = diagonal_to p.n p.side p.matrix f c

      go : (k < c → 5 * p.n + c ≤ length f → get_or d (5 * p.n + k) nan ≡ entry_at p.side p.matrix k k) → Dec (k ≡ c)
          → get_or (set d (5 * p.n + c) (entry_at p.side p.matrix c c)) (5 * p.n + k) nan ≡ entry_at p.side p.matrix k k
      go before (yes e) = rw e (get_or-set_same d (5 * p.n + c) _ nan (rw (same_diagonal p f c).long (omega arith)))
      go before (no e) = get_or-set_other d (5 * p.n + c) (5 * p.n + k) _ nan (λ z. e (omega arith)) ∙ before (omega arith) (omega arith)

  -- what gradient g becomes by a weight v whose row has r there
  abbrev pub taken : Float → Float → Float → Float
  taken v r g = cond (eq v Weight.zero) g (add binary64 g (mul binary64 v r))

  pub joined_gradient : (b : List Float) (s : State) (i : ℕ) (w : Alpha) (k : ℕ) → k < p.n → 7 * p.n ≤ length s.floats
      → get_or (joined_by p b s i w) k nan ≡ taken w.value (row p s i k) (get_or s.floats k nan)
  unfolding joined_by
  joined_gradient b s i w k l long = go (at_lower w) (at_upper w)
    where
      f : List Float
      f = row_added p s 0 w.value i 0 p.n

      at : get_or f k nan ≡ add binary64 (get_or s.floats k nan) (mul binary64 w.value (row p s i k))
      at = let z = row_added_at p s 0 w.value i 0 p.n k l (omega arith) in rw (zero-add, zero-add) at z

      go : (x y : Bool) → get_or (cond x s.floats (cond y (row_added p (state f s.numbers s.labels) p.n (bound b i) i 0 p.n) f)) k nan
          ≡ cond x (get_or s.floats k nan) (add binary64 (get_or s.floats k nan) (mul binary64 w.value (row p s i k)))
      go true y = refl
      go false true = row_added_other p (state f s.numbers s.labels) p.n (bound b i) i 0 p.n k (λ h c e. omega arith) ∙ at
      go false false = at
