use Rattle.finder.proofs.record_of.Goals as goal

pub returns : goal.returns
returns c = rw (c.from.ensures, c.float_of-2.ensures, c.float_of.ensures)
