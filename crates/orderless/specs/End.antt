-- rho, its companion and the objective of a training without an order table (the rule, section 'Without an order table'): the rule's sums over weights w and gradients v.
use Rattle.std.specs.Prelude.{ℕ, zero, suc, Bool, cond, List, eqb, Float, get_or}
use Rattle.std.specs.Float.{binary64}
use Rattle.std.specs.Float.Ieee.{of_bits, add, mul, div}
use Rattle.alpha.specs.Weight.{two}
use Rattle.alpha.specs.declared.Alpha.{Alpha}
use Rattle.modes.specs.Modes.{repaired}
use Rattle.rho.specs.Rho.{no_share, share_with_c, joined_nu, signed, middle, level_of, positive_in}
use Rattle.rho.specs.declared.Level.{Level}
use Rattle.rho.specs.declared.Share.{Share}
use Rattle.solver.specs.declared.Given.{Given}
use Rattle.orderless.specs.Sheet.{Sheet, alpha_of}
use Rattle.orderless.specs.Step.{slope}

module _ (y : List ℕ) (w : ℕ → Alpha) (v : ℕ → Float) where
  unfoldable pub share_c_of : ℕ → Share
  share_c_of zero = no_share
  share_c_of (suc k) = share_with_c (positive_in y k) (w k) (signed (positive_in y k) (v k)) (share_c_of k)

  -- of the samples of one label, 1 or 0
  unfoldable pub share_nu_of : Bool → ℕ → ℕ → Share
  share_nu_of x label zero = no_share
  share_nu_of x label (suc k) = joined_nu x (eqb (get_or y k 0) label) (w k) (v k) (share_nu_of x label k)

  unfoldable pub level_for : Bool → Bool → ℕ → Level
  level_for nu x n = cond nu (level_of (middle (share_nu_of x 1 n)) (middle (share_nu_of x 0 n))) (record { rho = middle (share_c_of n); r = of_bits binary64 0 })

-- the sum of weight·(gradient + linear term), in order
unfoldable pub sum_of : (ℕ → Float) → (ℕ → Float) → (ℕ → Float) → ℕ → Float
sum_of a v term zero = of_bits binary64 0
sum_of a v term (suc k) = add binary64 (sum_of a v term k) (mul binary64 (a k) (add binary64 (v k) (term k)))

module _ (g : Given) (m y : List ℕ) (top : Bool → Float) (o : Sheet) where
  abbrev pub level_in : Level
  level_in = level_for y (alpha_of y top o) (slope g m y top o) g.nu (repaired g.mode) g.n

  abbrev pub objective_in : (ℕ → Float) → Float
  objective_in term = div binary64 (sum_of o.weights (slope g m y top o) term g.n) two
