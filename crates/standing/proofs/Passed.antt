-- rho and the obj sum go over the positions that stand, one after the other, and over no other. Assumes nothing.
use Prim.Native.Nat.{ℕ, zero, suc, ◌+◌, ◌*◌}
use mathlib.Core.Bool.{Bool, true, false, ◌&&◌, cond}
use mathlib.Core.List.{List, [], ◌∷◌, ◌++◌}
use mathlib.Core.Path.{◌≡◌, refl, sym, ap, ◌∙◌}
use lib.Dec.{eqb}
use lib.Ieee.{Float, nan, binary64, of_bits, add, mul}
use lib.ListN.{get_or}
use Rattle.rho.specs.Rho.{no_share, share_with_c, joined_nu, positive_in, signed}
use Rattle.state.specs.Fields.{alpha_in}
use Rattle.standing.specs.End.{standing, folded, share_c_over, share_nu_over, sum_over}

folded_more : {S : Type 0} (step : ℕ → S → S) (s : S) (ks : List ℕ) (k : ℕ) → folded step s (ks ++ (k ∷ [])) ≡ step k (folded step s ks)
unfolding folded
folded_more step s [] k = refl
folded_more step s (j ∷ ks) k = folded_more step (step j s) ks k

-- whatever is made place by place from those that stand
passed_over : {S : Type 0} (stands : ℕ → Bool) (step : ℕ → S → S) (s : S) (made : ℕ → S) → made zero ≡ s → ((k : ℕ) → made (suc k) ≡ cond (stands k) (step k (made k)) (made k))
    → (k : ℕ) → made k ≡ folded step s (standing stands k)
unfolding standing folded
passed_over stands step s made first next zero = first
passed_over stands step s made first next (suc k) = next k ∙ go (stands k) (passed_over stands step s made first next k)
  where
    go : (b : Bool) → made k ≡ folded step s (standing stands k)
        → cond b (step k (made k)) (made k) ≡ folded step s (cond b (standing stands k ++ (k ∷ [])) (standing stands k))
    go true e = ap (step k) e ∙ sym (folded_more step s (standing stands k) k)
    go false e = e

module _ (stands : ℕ → Bool) (n : ℕ) (f : List Float) where
  pub sum_passes : (k : ℕ) → sum_over stands n f k
      ≡ folded (λ j v. add binary64 v (mul binary64 (get_or f (2 * n + j) nan) (add binary64 (get_or f j nan) (get_or f (4 * n + j) nan)))) (of_bits binary64 0) (standing stands k)
  unfolding sum_over
  sum_passes = passed_over stands _ _ (sum_over stands n f) refl (λ k. refl)

  module _ (y : List ℕ) where
    pub share_c_passes : (k : ℕ) → share_c_over stands n f y k
        ≡ folded (λ j s. share_with_c (positive_in y j) (alpha_in n f j) (signed (positive_in y j) (get_or f j nan)) s) no_share (standing stands k)
    unfolding share_c_over
    share_c_passes = passed_over stands _ _ (share_c_over stands n f y) refl (λ k. refl)

    pub share_nu_passes : (r : Bool) (label k : ℕ) → share_nu_over stands n f y r label k
        ≡ folded (λ j s. joined_nu r (eqb (get_or y j 0) label) (alpha_in n f j) (get_or f j nan) s) no_share (standing stands k)
    unfolding share_nu_over joined_nu
    share_nu_passes r label = passed_over stands _ _ (share_nu_over stands n f y r label) refl (λ k. go k (stands k))
      where
        go : (k : ℕ) (b : Bool) → joined_nu r (b && eqb (get_or y k 0) label) (alpha_in n f k) (get_or f k nan) (share_nu_over stands n f y r label k)
            ≡ cond b (joined_nu r (eqb (get_or y k 0) label) (alpha_in n f k) (get_or f k nan) (share_nu_over stands n f y r label k)) (share_nu_over stands n f y r label k)
        go k true = refl
        go k false = refl
