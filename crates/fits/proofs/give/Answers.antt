use Rattle.fits.specs.Starts.{given_from}
use Rattle.fits.proofs.give.Goals as goal

pub returns-then-positive : goal.returns-then-positive
unfolding given_from
returns-then-positive c = rw c.if-positive.true c.min.ensures

pub returns-else-positive : goal.returns-else-positive
unfolding given_from
returns-else-positive c = rw c.if-positive.false c.min-else-positive.ensures
