-- What the steps of the computed run leave of each sample's weight. Assumes nothing.
use mathlib.Core.Bool.{false}
use mathlib.Core.List.{[], ◌∷◌, map}
use mathlib.Core.Path.{◌≡◌, refl}
use lib.IntN.{pos, negsuc}
use lib.Ieee.{fin}
use Rattle.readings.specs.Order.{weight_in}
use Rattle.trace.proofs.Worked.{lent, steps}
use Rattle.travel.specs.Home.{left_by, last_left}

-- sample 0 is never chosen; samples 3 and 1 are by the last step, where 3 stands at position 0
pub worked : map (λ q. last_left steps q (weight_in 4 lent.floats q)) (0 ∷ 1 ∷ 2 ∷ 3 ∷ [])
    ≡ fin false 25 (pos 2) ∷ fin false 1643 (negsuc 4) ∷ fin false 805 (negsuc 3) ∷ fin false 1547 (negsuc 4) ∷ []
unfolding last_left left_by
worked = refl
