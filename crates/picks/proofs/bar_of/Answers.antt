use Rattle.picks.specs.Follow.{bar_of}
use Rattle.picks.proofs.bar_of.Goals as goal

pub returns-then-x-gain : goal.returns-then-x-gain
unfolding bar_of
returns-then-x-gain c = rw c.if-x-gain.true

pub returns-else-x-gain : goal.returns-else-x-gain
unfolding bar_of
returns-else-x-gain c = rw c.if-x-gain.false
