use mathlib.Core.Bool.{false}
use mathlib.Core.Path.{refl}
use Rattle.answer.specs.Lent.{lent}
use Rattle.classification.specs.Entries.{given_by}
use Rattle.kernel.specs.declared.Kind.TheVariants.{TwoClass}
use Rattle.retired.specs.Silenced.{silenced}
use Rattle.retired.specs.Entry.{kept}
use Rattle.retired.proofs.Coded.{fitted_by}
use Rattle.retired.proofs.Laws.{given_ready}
use Rattle.state.specs.Lists.{state}
use Rattle.fit_retired.proofs.fit.Goals as goal

pub solve-requires : goal.solve-requires
solve-requires c =
    let o = c.requires.0 in
    let r =
    given_ready _ (given_by c.args.t c.args.n TwoClass c.args.settings.eps false c.args.nu) c.args.m.now c.args.l.now c.args.terms.ceilings.now (kept c.args.r.now c.args.terms.alphas.now c.args.n) (silenced c.args.r.now c.args.terms.linear.now c.args.n) (state c.args.f.now c.args.u.now c.args.y.now) _ c.given-g.ensures refl c.load.ensures c.requires.1
    o.floats o.numbers o.bytes
    in
    let e = r.3 in
    (r.0, r.1, r.2, rw e o.some, c.requires.2, rw e c.requires.4, rw e c.requires.3, rw e o.crate, rw e o.home, rw e c.requires.7)

pub returns : goal.returns
returns c =
    let o = c.requires.0 in
    fitted_by c.args.t c.args.n c.args.r.now (record { matrix = c.args.m.now; labels = c.args.l.now; ceilings = c.args.terms.ceilings.now; weights = c.args.terms.alphas.now; terms = c.args.terms.linear.now }) c.args.nu c.args.settings.eps c.args.settings.budget
    (lent c.args.cr.now c.args.h.now c.args.f.now c.args.u.now c.args.y.now) o.most o.floats o.numbers o.bytes o.crate o.home c.requires.1 _ _ _
    c.given-g.ensures c.load.ensures c.solve.ensures
