use Rattle.state.specs.Lists.{state}
use Rattle.state.proofs.Kept.{ready_floats}
use Rattle.solver.proofs.Laws.{trained_by}
use Rattle.solver.proofs.train.Goals as goal

pub returns : goal.returns
returns c =
    let a = c.args in
    let k = c.solve-r in
    let d = c.close in (
      trained_by a.g a.m.now a.b.now a.budget (state a.f.now a.u.now a.y.now) _ _ _ _
          (rw c.problem.ensures at c.start.ensures) c.ready.ensures.0 k.ensures.0 d.ensures.0,
      d.ensures.1,
      ready_floats k.ensures.2 _ d.auto.f,
    )
