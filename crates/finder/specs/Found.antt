-- The pair finder: a step's pair, under the ceilings of the records (the rule, section 'A single step').
use Rattle.std.specs.Prelude.{ℕ, Bool, List, Float}
use Rattle.alpha.specs.Weight.{floor}
use Rattle.alpha.specs.declared.Alpha.{Alpha}
use Rattle.kernel.specs.Curvature.{curved}
use Rattle.update.specs.Pair.{floored, step_of, pair_of}
use Rattle.update.specs.declared.Pair.{Pair}
use Rattle.wire.specs.Wire.{with_float}

-- records, gradients, diagonals, the entry of row i at j, whether the labels agree: the run's step, with the floor at 1e-10
unfoldable pub found_pair : Alpha → Alpha → Float → Float → Float → Float → Float → Bool → Pair
found_pair wi wj gi gj di dj r agree = pair_of wi wj gi gj di dj r agree floor

-- its step before it is clipped
abbrev pub found_step : Float → Float → Float → Float → Float → Bool → Float
found_step gi gj di dj r agree = step_of agree gi gj (floored floor (curved agree di dj r))

-- out with the two weights in its first sixteen bytes
unfoldable pub with_pair : List ℕ → Pair → List ℕ
with_pair out p = with_float (with_float out 0 p.i.value) 8 p.j.value
