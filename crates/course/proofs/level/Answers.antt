use Rattle.orderless.specs.End.{level_for}
use Rattle.course.proofs.level.Goals as goal

pub returns-then-g : goal.returns-then-g
unfolding level_for
returns-then-g c = rw (c.settle-b.ensures, c.settle-a.ensures, c.share_nu-then-g.ensures.0, c.share_nu.ensures.0, c.is_repaired-x.ensures, c.if-g.true)

pub returns : goal.returns
unfolding level_for
returns c = rw (c.settle.ensures, c.share_c.ensures.0, c.if-g.false)
