-- The gradients before the first pass (the rule, section 'Start').
use Rattle.std.specs.Prelude.{ℕ, zero, suc, ◌+◌, ◌*◌, cond, List, Float, get_or, set}
use Rattle.std.specs.Float.{nan}
use Rattle.alpha.specs.Weight as Weight
use Rattle.alpha.specs.Weight.{at_upper, at_lower}
use Rattle.alpha.specs.declared.Alpha.{Alpha}
use Rattle.kernel.specs.Matrix.{entry_at}
use Rattle.rows.specs.Added.{row_added}
use Rattle.state.specs.Lists.{Problem, State, over}
use Rattle.state.specs.Fields.{alpha, bound}

-- each gradient is the linear term, and each fixed gradient +0
unfoldable pub laid_to : ℕ → List Float → ℕ → List Float
laid_to n f zero = f
laid_to n f (suc k) = let g = laid_to n f k in set (set g k (get_or g (4 * n + k) nan)) (n + k) Weight.zero

-- the diagonal, by kernel index
unfoldable pub diagonal_to : ℕ → ℕ → List ℕ → List Float → ℕ → List Float
diagonal_to n side m f zero = f
diagonal_to n side m f (suc c) = set (diagonal_to n side m f c) (5 * n + c) (entry_at side m c c)

-- what position i with the weight w brings: nothing at lower; else its value times row i to the gradient, and at upper bound_i times
-- row i to the fixed gradient
unfoldable pub joined_by : Problem → List Float → State → ℕ → Alpha → List Float
joined_by p b s i w =
    let f = row_added p s 0 w.value i 0 p.n in
    cond (at_lower w)
    s.floats
    (cond (at_upper w) (row_added p (over s f) p.n (bound b i) i 0 p.n) f)

abbrev pub joined : Problem → List Float → State → ℕ → List Float
joined p b s i = joined_by p b s i (alpha p s i)

-- the first positions, in ascending order
unfoldable pub gathered_to : Problem → List Float → State → ℕ → List Float
gathered_to p b s zero = s.floats
gathered_to p b s (suc i) = joined p b (over s (gathered_to p b s i)) i

unfoldable pub started : Problem → List Float → State → List Float
started p b s = gathered_to p b (over s (diagonal_to p.n p.side p.matrix (laid_to p.n s.floats p.n) p.side)) p.n
