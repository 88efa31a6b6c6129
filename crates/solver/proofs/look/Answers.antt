use mathlib.Core.Path.{sym, ◌∙◌}
use native.Mathlib.Omega.{arith}
use Rattle.solver.specs.Run.{full}
use Rattle.solver.proofs.Laws.{chosen_below, looked_pair, looked_none}
use Rattle.solver.proofs.look.Goals as goal

pub step-requires : goal.step-requires
step-requires c =
    let s = c in
    let w = chosen_below s.args.g s.args.m.now (full s.args.r s.args.f.now s.args.u.now s.args.y.now) _ _ (sym c.select.ensures ∙ c.in-Some.is) in
    (s.requires.0, s.requires.1, rw c.with_counter.ensures (record { active = s.requires.2.active; some = omega arith; few = omega arith }), rw c.with_counter.ensures s.requires.3, omega (arith, s.requires.2.active), omega (arith, s.requires.2.active))

pub returns-in-Some : goal.returns-in-Some
returns-in-Some c =
    let s = c in
    let d = c.step in
    let v = c.with_counter.ensures in
    (d.ensures.0 ∙ rw v (looked_pair s.args.g s.args.m.now (full s.args.r s.args.f.now s.args.u.now s.args.y.now) s.args.b.now _ _ (sym c.select.ensures ∙ c.in-Some.is)), d.ensures.1, rw v at d.ensures.2)

pub returns-in-None : goal.returns-in-None
returns-in-None c =
    let s = c in (
      rw c.end.ensures (looked_none s.args.g s.args.m.now (full s.args.r s.args.f.now s.args.u.now s.args.y.now) s.args.b.now (sym c.select.ensures ∙ c.in-None.is)),
      rw c.end.ensures (record { active = s.requires.2.active; some = s.requires.2.some; few = s.requires.2.few }),
      rw c.end.ensures (omega arith),
    )
