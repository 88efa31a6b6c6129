use mathlib.Core.Path.{ap, ◌∙◌}
use native.Mathlib.Omega.{arith}
use Rattle.solver.specs.Run.{active_at, Full, full, with_run}
use Rattle.solver.proofs.Laws.{closed_out, closed_in}
use Rattle.solver.proofs.close.Goals as goal

pub returns-then-r-budget : goal.returns-then-r-budget
returns-then-r-budget c =
    let s = c in (
      rw c.with_active.ensures
          (ap (λ (v : Full). with_run v (active_at s.args.r s.args.g.n)) c.rebuild.ensures
          ∙ closed_out s.args.g s.args.m.now (full s.args.r s.args.f.now s.args.u.now s.args.y.now) s.args.budget c.if-r-budget.true),
      rw c.with_active.ensures (record { active = omega arith; some = s.requires.1.some; few = s.requires.1.few }),
    )

pub returns : goal.returns
returns c =
    let s = c in
    (closed_in s.args.g s.args.m.now (full s.args.r s.args.f.now s.args.u.now s.args.y.now) s.args.budget c.if-r-budget.false, s.requires.1)
