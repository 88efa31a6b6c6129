use mathlib.Core.Path.{sym, ◌∙◌}
use lib.Ieee.{of_bits, div, neg}
use Rattle.sheet.proofs.down_put.Goals as goal

pub returns-else-falls : goal.returns-else-falls
unfolding of_bits div neg
returns-else-falls c = rw (sym c.may_fall-falls.ensures ∙ c.if-falls.false)
