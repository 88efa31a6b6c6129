use Rattle.solver.specs.Run.{full}
use Rattle.solver.proofs.Laws.{refreshed_by}
use Rattle.solver.proofs.refresh.Goals as goal

pub returns : goal.returns
returns c =
    let s = c in (
      rw c.refreshed_run.ensures.0 (refreshed_by s.args.g s.args.m.now (full s.args.r s.args.f.now s.args.u.now s.args.y.now) _ c.rebuild.ensures),
      c.refreshed_run.ensures.1,
      c.refreshed_run.ensures.2,
    )
