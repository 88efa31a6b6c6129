use lib.Ieee.{of_bits}
use Rattle.partner.specs.Lead.{raced_to}
use mathlib.Core.Path.{refl}
use Rattle.partner.proofs.race.Goals as goal

pub loop-j-init : goal.loop-j-init
unfolding raced_to of_bits
loop-j-init c = refl
