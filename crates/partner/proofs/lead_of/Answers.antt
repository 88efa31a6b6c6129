use lib.Ieee.{of_bits}
use Rattle.partner.proofs.lead_of.Goals as goal

pub returns-in_default : goal.returns-in_default
unfolding of_bits
returns-in_default c = rw c.in_default.is
