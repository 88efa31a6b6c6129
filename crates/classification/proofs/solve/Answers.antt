use mathlib.Core.Path.{sym, subst}
use Rattle.readings.specs.Order.{NamesSamples}
use Rattle.solver.specs.Run.{Full}
use Rattle.state.specs.Lists.{state}
use Rattle.travel.proofs.Within.{trained_within}
use Rattle.answer.specs.Lent.{lent}
use Rattle.answer.proofs.Laws.{solved_by}
use Rattle.classification.proofs.solve.Goals as goal

pub settle-out-requires : goal.settle-out-requires
settle-out-requires c =
    let k = c.train-r.ensures in
    let within =
    subst (λ (w : Full). NamesSamples c.args.g.n w.state.numbers) (sym k.0)
    (trained_within c.args.g c.args.m.now c.args.b.now c.args.budget (state c.args.f.now c.args.u.now c.args.y.now) c.requires.0 c.requires.1 c.requires.2)
    in
    (k.2.indexed.small, k.1.active, c.requires.7, c.requires.8, k.2.floats, within, k.2.labels, c.requires.6)

pub returns : goal.returns
returns c =
    solved_by c.args.g c.args.how c.args.m.now c.args.l.now c.args.b.now c.args.budget (lent c.args.cr.now c.args.h.now c.args.f.now c.args.u.now c.args.y.now) _ _ _
    c.train-r.ensures.0 c.settle-out.ensures c.clear.ensures
