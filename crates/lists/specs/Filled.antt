-- A list whose first places hold one value.
use Rattle.std.specs.Prelude.{ℕ, zero, suc, List, set}

unfoldable pub filled_to : {A : Type 0} → A → List A → ℕ → List A
filled_to x d zero = d
filled_to x d (suc k) = set (filled_to x d k) k x
