use Rattle.picks.specs.Follow.{reaches_of}
use Rattle.picks.proofs.reaches.Goals as goal

pub returns : goal.returns
unfolding reaches_of
returns c = rw c.quad_coef-q.ensures
