use Rattle.wire.proofs.float_at.Goals as goal

pub returns : goal.returns
returns c = rw (← c.word_at.ensures) c.float_of.ensures
