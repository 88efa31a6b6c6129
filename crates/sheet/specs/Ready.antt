-- What the leaves of a training without an order table ask of what is lent.
use Rattle.std.specs.Prelude.{ℕ, ◌+◌, ◌*◌, ◌≤◌, ◌<◌, Bool, List, ◌≡◌, T, Float, length, get_or}
use Rattle.std.specs.Float.{nan, binary64}
use Rattle.std.specs.Float.Ieee.{fits}
use Rattle.kernel.specs.Matrix.{Matrix}
use Rattle.orderless.specs.Sheet.{up_field, entry}
use Rattle.solver.specs.declared.Given.{Given}

-- m is the matrix, y are the labels, f the scratch: every list is long enough
pub record SheetReady (g : Given) (m y : List ℕ) (f : List Float) : Type 0 where
  pub matrix : Matrix g.side m
  pub square : g.side ≡ g.n
  pub labels : g.n ≤ length y
  pub floats : 5 * g.n ≤ length f

-- the diagonal stands in its field
pub record Diagonal (g : Given) (m : List ℕ) (f : List Float) : Type 0 where
  pub at : (k : ℕ) → k < g.n → get_or f (2 * g.n + k) nan ≡ entry g m k k

-- every copy is a value of the format, as all that code computes is
pub record Fitting (g : Given) (f : List Float) : Type 0 where
  pub ups : (t : Bool) (k : ℕ) → k < g.n → T (fits binary64 (get_or f (up_field g.nu g.n t + k) nan))
  pub downs : (k : ℕ) → k < g.n → T (fits binary64 (get_or f (3 * g.n + k) nan))
