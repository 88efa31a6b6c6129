-- What stands at position k: place k of field f is place f·n + k of its list.
use Rattle.std.specs.Prelude.{ℕ, ◌+◌, ◌*◌, Bool, List, eqb, Float, get_or}
use Rattle.std.specs.Float.{nan}
use Rattle.alpha.specs.Weight.{weight}
use Rattle.alpha.specs.declared.Alpha.{Alpha}
use Rattle.kernel.specs.Row.{kernel_index, row_at}
use Rattle.state.specs.Lists.{Problem, State}

abbrev pub gradient : Problem → State → ℕ → Float
gradient p s k = get_or s.floats k nan

abbrev pub gradient_fixed : Problem → State → ℕ → Float
gradient_fixed p s k = get_or s.floats (p.n + k) nan

-- the weight with the ceiling that travels with it
abbrev pub alpha_in : ℕ → List Float → ℕ → Alpha
alpha_in n f k = weight (get_or f (2 * n + k) nan) (get_or f (3 * n + k) nan)

abbrev pub alpha : Problem → State → ℕ → Alpha
alpha p s k = alpha_in p.n s.floats k

abbrev pub linear : Problem → State → ℕ → Float
linear p s k = get_or s.floats (4 * p.n + k) nan

-- the diagonal entry of position k's sample
abbrev pub diagonal : Problem → State → ℕ → Float
diagonal p s k = get_or s.floats (5 * p.n + kernel_index p.n s.numbers k) nan

-- row i at position k
abbrev pub row : Problem → State → ℕ → ℕ → Float
row p s i k = row_at p.kind p.side p.matrix p.n s.numbers s.labels i k

abbrev pub positive : State → ℕ → Bool
positive s k = eqb (get_or s.labels k 0) 1

abbrev pub sample : State → ℕ → ℕ
sample s k = get_or s.numbers k 0

-- the ceiling of place k in the list of ceilings, which doesn't move
abbrev pub bound : List Float → ℕ → Float
bound b k = get_or b k nan
