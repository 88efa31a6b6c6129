-- When two trainings differ in retired samples only: the relation of their states.
use Prim.Native.Nat.{ℕ, ◌<◌}
use mathlib.Core.Bool.{Bool, true, false}
use mathlib.Core.List.{List}
use mathlib.Core.Path.{◌≡◌}
use lib.Ieee.{Float}
use lib.ListN.{get_or}
use Rattle.alpha.specs.Weight.{at_lower}
use Rattle.kernel.specs.Matrix.{entry_at}
use Rattle.kernel.specs.Row.{kernel_index}
use Rattle.state.specs.Fields.{gradient, alpha, linear, diagonal, row, bound}
use Rattle.state.specs.Lists.{Problem, State}

-- every position has the same weight in both, and every position that stands the same gradient, ceiling, linear term, label, diagonal, and
-- the same row at every other that stands
pub record Alike (stands : ℕ → Bool) (p q : Problem) (s t : State) : Type 0 where
  pub gradients : (k : ℕ) → k < p.n → stands k ≡ true → gradient p s k ≡ gradient q t k
  pub weights : (k : ℕ) → k < p.n → (alpha p s k).value ≡ (alpha q t k).value
  pub uppers : (k : ℕ) → k < p.n → stands k ≡ true → (alpha p s k).upper ≡ (alpha q t k).upper
  pub terms : (k : ℕ) → k < p.n → stands k ≡ true → linear p s k ≡ linear q t k
  pub labels : (k : ℕ) → k < p.n → stands k ≡ true → get_or s.labels k 0 ≡ get_or t.labels k 0
  pub diagonals : (k : ℕ) → k < p.n → stands k ≡ true → diagonal p s k ≡ diagonal q t k
  pub rows : (i k : ℕ) → i < p.n → k < p.n → stands i ≡ true → stands k ≡ true → row p s i k ≡ row q t i k

-- the ceilings by place
abbrev pub SameBounds : (ℕ → Bool) → ℕ → List Float → List Float → Type 0
SameBounds stands n b c = (k : ℕ) → k < n → stands k ≡ true → bound b k ≡ bound c k

-- the diagonal entry of position k's sample, in the matrix
abbrev pub own_entry : Problem → State → ℕ → Float
own_entry p s k = let c = kernel_index p.n s.numbers k in entry_at p.side p.matrix c c

-- .. before the start: the same weights, all retired ones 0, and what stands has the same ceiling, linear term, label and kernel entries
pub record LentAlike (stands : ℕ → Bool) (p q : Problem) (s t : State) : Type 0 where
  pub weights : (k : ℕ) → k < p.n → (alpha p s k).value ≡ (alpha q t k).value
  pub gone : (k : ℕ) → k < p.n → stands k ≡ false → at_lower (alpha p s k) ≡ true
  pub uppers : (k : ℕ) → k < p.n → stands k ≡ true → (alpha p s k).upper ≡ (alpha q t k).upper
  pub terms : (k : ℕ) → k < p.n → stands k ≡ true → linear p s k ≡ linear q t k
  pub labels : (k : ℕ) → k < p.n → stands k ≡ true → get_or s.labels k 0 ≡ get_or t.labels k 0
  pub rows : (i k : ℕ) → i < p.n → k < p.n → stands i ≡ true → stands k ≡ true → row p s i k ≡ row q t i k
  pub own : (k : ℕ) → k < p.n → stands k ≡ true → own_entry p s k ≡ own_entry q t k
