use Rattle.orderless.specs.Sheet.{ceilings_of}
use Rattle.reply.proofs.Laws.{reply_by}
use Rattle.reply.proofs.reply.Goals as goal

pub returns : goal.returns
returns c =
    let a = c.args in
    reply_by a.g a.how a.m.now a.l.now (ceilings_of a.costs.pos a.costs.neg) (λ k. a.p) a.budget a.f.now a.h.now a.w.steps a.w.going _ _ _ _ _
    c.level-v.ensures c.objective-obj.ensures c.give.ensures c.finish_reading.ensures c.answered.ensures
