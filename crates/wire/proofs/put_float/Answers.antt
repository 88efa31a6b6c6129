use Rattle.wire.proofs.put_float.Goals as goal

pub returns : goal.returns
returns c = rw (← c.pattern_of.ensures) c.put_word.ensures
