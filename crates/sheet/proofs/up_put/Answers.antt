use mathlib.Core.Path.{sym, ◌∙◌}
use lib.Ieee.{of_bits, div}
use Rattle.sheet.proofs.Fields.{sought_is}
use Rattle.sheet.proofs.up_put.Goals as goal

pub returns-else-sought-rises : goal.returns-else-sought-rises
unfolding of_bits div
returns-else-sought-rises c = let a = c.args in rw (sym (sought_is a.nu a.t a.pos _ _ c.may_rise-rises.ensures) ∙ c.if-sought-rises.false)
