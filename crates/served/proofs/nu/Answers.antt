use Rattle.served.proofs.nu.Goals as goal

pub returns-then-settings : goal.returns-then-settings
returns-then-settings c = rw c.if-settings.true c.nu.ensures

pub returns : goal.returns
returns c = rw c.if-settings.false c.nu-2.ensures
