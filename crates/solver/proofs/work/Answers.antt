use mathlib.Core.Path.{sym, ◌∙◌}
use native.Mathlib.Omega.{arith}
use Rattle.solver.specs.Run.{full}
use Rattle.state.proofs.Kept.{ready_floats}
use Rattle.solver.proofs.Laws.{chosen_below, worked_pair, worked_none}
use Rattle.solver.proofs.work.Goals as goal

pub step-requires : goal.step-requires
step-requires c =
    let s = c in
    let w = chosen_below s.args.g s.args.m.now (full s.args.r s.args.f.now s.args.u.now s.args.y.now) _ _ (sym c.select.ensures ∙ c.in-Some.is) in
    (s.requires.0, s.requires.1, s.requires.2, s.requires.3, omega (arith, s.requires.2.active), omega (arith, s.requires.2.active))

pub look-requires : goal.look-requires
look-requires c =
    let s = c in
    (ready_floats s.requires.0 _ c.refresh-q.auto.f, s.requires.1, c.refresh-q.ensures.1, rw c.refresh-q.ensures.2 s.requires.3)

pub returns-in-Some : goal.returns-in-Some
returns-in-Some c =
    let s = c in
    let d = c.step in
    (d.ensures.0 ∙ worked_pair s.args.g s.args.m.now (full s.args.r s.args.f.now s.args.u.now s.args.y.now) s.args.b.now _ _ (sym c.select.ensures ∙ c.in-Some.is), d.ensures.1, d.ensures.2)

pub returns-in-None : goal.returns-in-None
returns-in-None c =
    let s = c in
    let d = c.look in (
      d.ensures.0
          ∙ rw c.refresh-q.ensures.0 (worked_none s.args.g s.args.m.now (full s.args.r s.args.f.now s.args.u.now s.args.y.now) s.args.b.now (sym c.select.ensures ∙ c.in-None.is)),
      d.ensures.1,
      rw c.refresh-q.ensures.2 at d.ensures.2,
    )
