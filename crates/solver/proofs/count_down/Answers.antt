use mathlib.Core.Path.{◌∙◌}
use native.Mathlib.Omega.{arith}
use Rattle.solver.specs.Run.{full}
use Rattle.solver.proofs.Laws.{counted_some, counted_none, counted_shrunk}
use Rattle.solver.proofs.count_down.Goals as goal

pub returns-then-c-gt0 : goal.returns-then-c-gt0
returns-then-c-gt0 c =
    let s = c in (
      rw c.with_counter.ensures (counted_some s.args.g s.args.m.now (full s.args.r s.args.f.now s.args.u.now s.args.y.now) c.if-c-gt0.true),
      rw c.with_counter.ensures (record { active = s.requires.1.active; some = omega arith; few = omega (arith, s.requires.1.few) }),
      s.requires.0,
    )

pub returns-then-g : goal.returns-then-g
returns-then-g c =
    let s = c in
    let d = c.shrink_down in
    let v = c.with_counter-q.ensures in (
      d.ensures.0
          ∙ rw (v, c.period_of.ensures.0) (counted_shrunk s.args.g s.args.m.now (full s.args.r s.args.f.now s.args.u.now s.args.y.now) c.if-c-gt0.false c.if-g.true),
      d.ensures.1,
      d.ensures.2,
    )

pub returns : goal.returns
returns c =
    let s = c in
    let v = c.with_counter-q.ensures in (
      rw (v, c.period_of.ensures.0) (counted_none s.args.g s.args.m.now (full s.args.r s.args.f.now s.args.u.now s.args.y.now) c.if-c-gt0.false c.if-g.false),
      rw v (record { active = s.requires.1.active; some = c.period_of.ensures.1; few = omega (arith, c.period_of.ensures.2) }),
      s.requires.0,
    )
