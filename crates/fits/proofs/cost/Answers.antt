use borrow.Author.Tests.{eq-eqb, ne_eqb}
use Rattle.fits.proofs.cost.Goals as goal

pub returns-then-label-eq1 : goal.returns-then-label-eq1
returns-then-label-eq1 c = rw (eq-eqb _ _ c.if-label-eq1.true)

pub returns-else-label-eq1 : goal.returns-else-label-eq1
returns-else-label-eq1 c = rw (ne_eqb _ _ c.if-label-eq1.false)
