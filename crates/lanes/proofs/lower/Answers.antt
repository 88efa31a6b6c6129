use Rattle.lanes.specs.Lanes.{lower_of}
use Rattle.lanes.proofs.lower.Goals as goal

pub returns-then-x-m : goal.returns-then-x-m
unfolding lower_of
returns-then-x-m c = rw c.if-x-m.true

pub returns-else-x-m : goal.returns-else-x-m
unfolding lower_of
returns-else-x-m c = rw c.if-x-m.false
