use Rattle.answer.specs.Lent.{lent}
use Rattle.state.specs.Lists.{state}
use Rattle.classification.proofs.Laws.{loaded_ready, fitted_by}
use Rattle.classification.proofs.fit.Goals as goal

pub solve-requires : goal.solve-requires
solve-requires c =
    let o = c.requires.1 in
    let r =
    loaded_ready c.args.g c.args.m.now c.args.l.now c.args.terms.ceilings.now c.args.terms.alphas.now c.args.terms.linear.now (state c.args.f.now c.args.u.now c.args.y.now) _ c.requires.0 c.load.ensures c.requires.2
    o.floats o.numbers o.bytes
    in
    (r.0, r.1, c.requires.0, o.some, c.requires.3, c.requires.5, c.requires.4, o.crate, o.home)

pub returns : goal.returns
returns c =
    fitted_by c.args.g c.args.how c.args.m.now c.args.l.now c.args.terms.ceilings.now c.args.terms.alphas.now c.args.terms.linear.now c.args.budget (lent c.args.cr.now c.args.h.now c.args.f.now c.args.u.now c.args.y.now) _ _
    c.load.ensures c.solve.ensures
