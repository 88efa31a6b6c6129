use Rattle.orderless.specs.Step.{put_in}
use Rattle.sheet.proofs.put.Goals as goal

pub returns-then-nu : goal.returns-then-nu
unfolding put_in
returns-then-nu c = rw (← c.down_put-d.ensures, ← c.up_put-a.ensures, ← c.up_put-b.ensures, c.if-nu.true)

pub returns-else-nu : goal.returns-else-nu
unfolding put_in
returns-else-nu c = rw (← c.down_put-d.ensures, ← c.up_put-a.ensures, c.if-nu.false)
