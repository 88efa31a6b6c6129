use mathlib.Core.Path.{ap, ◌∙◌}
use native.Mathlib.Omega.{arith}
use Rattle.solver.specs.Run.{Full, full, with_run, reopened}
use Rattle.solver.proofs.Laws.{restored_before, restored_high, restored_low}
use Rattle.solver.proofs.restore.Goals as goal

pub returns-then-r : goal.returns-then-r
returns-then-r c = let s = c in (restored_before s.args.g s.args.m.now (full s.args.r s.args.f.now s.args.u.now s.args.y.now) s.args.level c.if-r.true, s.requires.1)

pub returns-then-level-g : goal.returns-then-level-g
returns-then-level-g c =
    let s = c in (
      rw c.reopen.ensures
          (ap (λ (v : Full). with_run v (reopened s.args.r s.args.g.n)) c.rebuild.ensures
          ∙ restored_low s.args.g s.args.m.now (full s.args.r s.args.f.now s.args.u.now s.args.y.now) s.args.level c.if-r.false c.if-level-g.true),
      rw c.reopen.ensures (record { active = omega arith; some = s.requires.1.some; few = s.requires.1.few }),
    )

pub returns : goal.returns
returns c = let s = c in (restored_high s.args.g s.args.m.now (full s.args.r s.args.f.now s.args.u.now s.args.y.now) s.args.level c.if-r.false c.if-level-g.false, s.requires.1)
