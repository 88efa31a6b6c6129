-- What the code does before the first pass, beside the definitions: the diagonal into its field, and what each sample brings to F, from any F.
use Rattle.std.specs.Prelude.{ℕ, zero, suc, ◌+◌, ◌*◌, cond, List, Float, get_or, set}
use Rattle.std.specs.Float.{nan, binary64}
use Rattle.std.specs.Float.Ieee.{mul, eq}
use Rattle.alpha.specs.Weight as Weight
use Rattle.kernel.specs.Row.{signed_of}
use Rattle.orderless.specs.Run.{raised_to}
use Rattle.orderless.specs.Sheet.{entry}
use Rattle.rho.specs.Rho.{positive_in}
use Rattle.solver.specs.declared.Given.{Given}

unfoldable pub diagonal_in : Given → List ℕ → List Float → ℕ → List Float
diagonal_in g m f zero = f
diagonal_in g m f (suc k) = set (diagonal_in g m f k) (2 * g.n + k) (entry g m k k)

-- y are the labels
unfoldable pub joined_in : Given → List ℕ → List ℕ → List Float → ℕ → List Float
joined_in g m y f zero = f
joined_in g m y f (suc i) =
    let h = joined_in g m y f i in
    let v = get_or h (g.n + i) nan in
    cond (eq v Weight.zero) h (raised_to (λ k. mul binary64 (signed_of (positive_in y i) v) (entry g m i k)) h g.n)
