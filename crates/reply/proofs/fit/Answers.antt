use mathlib.Core.Path.{◌∙◌}
use Rattle.course.proofs.Laws.{ready_long}
use Rattle.reply.proofs.fit.Goals as goal

pub train-w-requires : goal.train-w-requires
train-w-requires c = let P = c.requires in (ready_long P.0 c.load.auto.f, P.1, P.2, P.5)

pub reply-requires : goal.reply-requires
reply-requires c = let P = c.requires in (ready_long P.0 (c.train-w.auto.f ∙ c.load.auto.f), P.4)

pub returns : goal.returns
returns c = rw (c.train-w.ensures, c.load.ensures) at c.reply.ensures
