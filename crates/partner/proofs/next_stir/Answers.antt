use mathlib.Core.Path.{sym, ◌∙◌}
use native.Mathlib.Numerals.{add-one}
use Rattle.state.specs.Lists.{given, state}
use borrow.Author.Rules.{rules}
use Rattle.partner.proofs.next_stir.Goals as goal

pub loop-k-preserved : goal.loop-k-preserved
loop-k-preserved g c =
    let a = c.args in
    let l = g.E.Weighing.laws in
    let e = c.loop-k.invariant.1 in
    let calm = rw c.alpha_at.ensures at (sym c.stirs.ensures ∙ c.if-stirs.false) in
    (search rules, rw add-one (sym (l.calm _ c.loop-k.k _ _ _ calm) ∙ rw e (l.more (given a.p) (state a.f.now a.u.now a.y.now) c.loop-k.k)))
