-- The box of a single step. Assumes nothing.
use mathlib.Core.Bool.{Bool}
use lib.Ieee.{Float}
use Rattle.alpha.specs.Weight.{floor}
use Rattle.alpha.specs.declared.Alpha.{Alpha}
use Rattle.boxed.specs.Range.{Ceiling, Held, BothHeld}
use Rattle.boxed.proofs.Kept.{pair_held}
use Rattle.rounding.specs.Units.{NotNan}
use Rattle.finder.specs.Found.{found_pair, found_step}

-- under one ceiling in range, with both weights in the box and a step that isn't NaN, both stay in it
pub found_box : (b : Float) → Ceiling b → (wi wj : Alpha) → Held b wi → Held b wj → (gi gj di dj r : Float) (agree : Bool) → NotNan (found_step gi gj di dj r agree)
    → BothHeld b (found_pair wi wj gi gj di dj r agree)
unfolding found_pair
found_box b c wi wj hi hj gi gj di dj r agree h = pair_held b c wi wj hi hj gi gj di dj r agree floor h
