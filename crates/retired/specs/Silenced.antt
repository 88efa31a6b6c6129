-- The linear terms that the code lends itself: NaN where a sample is retired.
use Rattle.std.specs.Prelude.{ℕ, List, Float}
use Rattle.std.specs.Float.{nan}
use Rattle.fits.specs.Starts.{nothing}
use Rattle.retired.specs.Entry.{kept_to}

unfoldable pub silenced : List ℕ → List Float → ℕ → List Float
silenced r p n = kept_to r nan p nothing n
