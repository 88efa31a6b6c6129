-- A multiple of a row, added to part of a field: one product and one sum for each place, each rounded once.
use Rattle.std.specs.Prelude.{ℕ, zero, suc, ◌+◌, List, Float, get_or, set}
use Rattle.std.specs.Float.{nan, binary64}
use Rattle.std.specs.Float.Ieee.{add, mul}
use Rattle.state.specs.Lists.{Problem, State}
use Rattle.state.specs.Fields.{row}

-- x times row i, added at positions lo to lo + count of the field that begins at base
unfoldable pub row_added : Problem → State → ℕ → Float → ℕ → ℕ → ℕ → List Float
row_added p s base x i lo zero = s.floats
row_added p s base x i lo (suc k) =
    let f = row_added p s base x i lo k in
    set f (base + (lo + k)) (add binary64 (get_or f (base + (lo + k)) nan) (mul binary64 x (row p s i (lo + k))))
