use Rattle.sheet.proofs.Steps.{step_is}
use Rattle.sheet.proofs.step.Goals as goal

pub returns : goal.returns
returns c =
    step_is _ _ _ _ _ _ _ _ _ _ _ _ _ _ _ c.pair_for-q.ensures c.change_of-x.ensures c.change_of-z.ensures c.own-vi.ensures c.own-vj.ensures
    c.place.ensures c.place-2.ensures c.shift.ensures
