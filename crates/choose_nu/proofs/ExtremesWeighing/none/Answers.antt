use lib.Ieee.{of_bits}
use Rattle.extreme.specs.Best.{best}
use Rattle.choose_nu.specs.Choice.{risen, fallen}
use Rattle.choose_nu.proofs.ExtremesWeighing.none.Goals as goal

pub returns : goal.returns
unfolding risen fallen best of_bits
returns c = λ p s. rw c.nobody-none.ensures
