use mathlib.Core.Path.{sym, subst}
use lib.Dec.{T}
use Rattle.sheet.proofs.Plain.{plain_zero, plain_other}
use Rattle.sheet.proofs.plain_of.Goals as goal

pub returns-then-x : goal.returns-then-x
returns-then-x c = plain_zero c.args.x (subst T (sym c.well_formed.0.1) tt) c.if-x.true

pub returns-else-x : goal.returns-else-x
returns-else-x c = plain_other c.args.x c.if-x.false
