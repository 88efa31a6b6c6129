use Rattle.reply.proofs.answered.Goals as goal

pub returns : goal.returns
returns c = rw (c.support.ensures, c.reason.ensures, c.obj_of.ensures, c.ratio_of.ensures, c.rho_of.ensures)
