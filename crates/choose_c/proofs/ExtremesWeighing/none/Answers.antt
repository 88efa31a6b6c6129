use lib.Ieee.{of_bits}
use Rattle.extreme.specs.Best.{best}
use Rattle.choose_c.specs.Choice.{extremes_c}
use Rattle.choose_c.proofs.ExtremesWeighing.none.Goals as goal

pub returns : goal.returns
unfolding extremes_c best of_bits
returns c = λ p s. rw c.nobody-none.ensures
