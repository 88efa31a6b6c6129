use Rattle.fits.specs.Starts.{rest_after}
use Rattle.fits.proofs.leave.Goals as goal

pub returns-then-positive : goal.returns-then-positive
unfolding rest_after
returns-then-positive c = rw (c.give-v.ensures, c.if-positive.true)

pub returns : goal.returns
unfolding rest_after
returns c = rw (c.give-v.ensures, c.if-positive.false)
