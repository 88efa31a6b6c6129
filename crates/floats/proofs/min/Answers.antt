use Rattle.rounding.proofs.Order.{ne_itself}
use Rattle.floats.proofs.min.Goals as goal

pub returns-then-x : goal.returns-then-x
returns-then-x c = rw (← ne_itself c.args.x, c.if-x.true)

pub returns-then-x-y : goal.returns-then-x-y
returns-then-x-y c = rw (← ne_itself c.args.x, c.if-x.false, c.if-x-y.true)

pub returns-else-x-y : goal.returns-else-x-y
returns-else-x-y c = rw (← ne_itself c.args.x, c.if-x.false, c.if-x-y.false)
