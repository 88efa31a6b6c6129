use mathlib.Core.Path.{refl}
use native.Mathlib.Numerals.{add-one}
use native.Mathlib.Omega.{arith}
use Rattle.orderless.specs.Run.{goes_on}
use Rattle.orderless.specs.Sheet.{ceilings_of}
use Rattle.course.proofs.Laws.{not_false, not_true, go_more, go_stays}
use borrow.Author.Rules.{rules}
use Rattle.course.proofs.go_on.Goals as goal

pub loop-init : goal.loop-init
unfolding goes_on
loop-init c = let P = c.requires in (search rules, refl, P.0, P.1, P.2)

pub returns-then-not-w : goal.returns-then-not-w
returns-then-not-w c =
    let a = c.args in
    let v = c.loop.invariant in
    go_stays a.g a.m.now a.y.now (ceilings_of a.costs.pos a.costs.neg) _ _ _ (omega arith) _ v.1 (not_true _ c.if-not-w.true)

pub loop-preserved : goal.loop-preserved
loop-preserved c =
    let a = c.args in
    let v = c.loop.invariant in
    let e = c.pass-w.ensures in (
      omega (arith, e.1, v.0),
      rw add-one (go_more a.g a.m.now a.y.now (ceilings_of a.costs.pos a.costs.neg) _ _ _ v.1 (not_false _ c.if-not-w.false) _ e.0),
      e.2,
      e.3,
      e.4,
    )
