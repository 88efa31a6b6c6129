-- rho and the obj sum over the positions that stand (the rule, section 'Retired samples').
use Rattle.std.specs.Prelude.{ℕ, zero, suc, ◌+◌, ◌*◌, Bool, ◌&&◌, cond, List, [], ◌∷◌, ◌++◌, eqb, Float, get_or}
use Rattle.std.specs.Float.{nan, binary64}
use Rattle.std.specs.Float.Ieee.{of_bits, add, mul, div}
use Rattle.alpha.specs.Weight.{two}
use Rattle.rho.specs.Rho.{no_share, share_with_c, joined_nu, positive_in, signed, middle, level_of}
use Rattle.rho.specs.declared.Level.{Level}
use Rattle.rho.specs.declared.Share.{Share}
use Rattle.state.specs.Fields.{alpha_in}

module _ (stands : ℕ → Bool) (n : ℕ) (f : List Float) where
  module _ (y : List ℕ) where
    unfoldable pub share_c_over : ℕ → Share
    share_c_over zero = no_share
    share_c_over (suc k) =
        let s = share_c_over k in
        cond (stands k) (share_with_c (positive_in y k) (alpha_in n f k) (signed (positive_in y k) (get_or f k nan)) s) s

    -- of the positions of one label, 1 or 0
    unfoldable pub share_nu_over : Bool → ℕ → ℕ → Share
    share_nu_over repaired label zero = no_share
    share_nu_over repaired label (suc k) = joined_nu repaired (stands k && eqb (get_or y k 0) label) (alpha_in n f k) (get_or f k nan) (share_nu_over repaired label k)

    -- by the rule that holds; r is +0 without the nu rule
    unfoldable pub level_over : Bool → Bool → Level
    level_over nu repaired =
        cond nu (level_of (middle (share_nu_over repaired 1 n)) (middle (share_nu_over repaired 0 n)))
        (record { rho = middle (share_c_over n); r = of_bits binary64 0 })

  -- the sum of weight·(gradient + linear term), in order
  unfoldable pub sum_over : ℕ → Float
  sum_over zero = of_bits binary64 0
  sum_over (suc k) =
      cond (stands k) (add binary64 (sum_over k) (mul binary64 (get_or f (2 * n + k) nan) (add binary64 (get_or f k nan) (get_or f (4 * n + k) nan)))) (sum_over k)

  unfoldable pub objective_over : Float
  objective_over = div binary64 (sum_over n) two

-- the positions below k that stand, in order
unfoldable pub standing : (ℕ → Bool) → ℕ → List ℕ
standing stands zero = []
standing stands (suc k) = cond (stands k) (standing stands k ++ (k ∷ [])) (standing stands k)

-- one step after the other, over a list of positions
unfoldable pub folded : {S : Type 0} → (ℕ → S → S) → S → List ℕ → S
folded step s [] = s
folded step s (k ∷ ks) = folded step (step k s) ks
