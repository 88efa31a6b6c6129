use Rattle.served.proofs.c.Goals as goal

pub returns-then-settings : goal.returns-then-settings
returns-then-settings c = rw c.if-settings.true c.c.ensures

pub returns : goal.returns
returns c = rw c.if-settings.false c.c-2.ensures
