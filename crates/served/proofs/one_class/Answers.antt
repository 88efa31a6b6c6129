use Rattle.served.proofs.one_class.Goals as goal

pub returns-then-settings : goal.returns-then-settings
returns-then-settings c = rw c.if-settings.true c.one_class.ensures

pub returns : goal.returns
returns c = rw c.if-settings.false c.one_class-2.ensures
