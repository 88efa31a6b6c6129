use mathlib.Core.Bool.{not}
use mathlib.Core.Path.{ap, ◌∙◌}
use Rattle.orderless.specs.Sheet.{read_in}
use Rattle.orderless.proofs.Stop.{wide_goes}
use Rattle.picks.proofs.Steps.{rising_is, stops_is}
use Rattle.picks.proofs.goes.Goals as goal

pub returns-then-f-n : goal.returns-then-f-n
returns-then-f-n c =
    let a = c.args in
    let P = c.requires in
    let g = a.g in
    let e = rising_is g a.m.now a.y.now a.f.now a.p a.q P.3 P.4 a.j in
    rw (wide_goes g a.m.now a.y.now (read_in g.nu g.n a.f.now) P.1.ups P.1.downs a.j P.2 P.5 (rw (c.either-v.ensures, e) at c.if-f-n.true))

pub returns : goal.returns
returns c =
    let a = c.args in
    let P = c.requires in
    ap not (c.stop.ensures ∙ stops_is a.g a.m.now a.y.now a.f.now a.p a.q P.3 P.4)
