use mathlib.Core.Path.{◌∙◌}
use Rattle.orderless.specs.Run.{orderless}
use Rattle.orderless.specs.Sheet.{ceilings_of}
use Rattle.course.specs.Filled.{diagonal_in}
use Rattle.course.proofs.Laws.{ready_long, length_diagonal, diagonal_filled, diagonal_started, fitting_started, started_is}
use Rattle.course.proofs.train.Goals as goal

pub go_on-requires : goal.go_on-requires
go_on-requires c =
    let a = c.args in
    let P = c.requires in
    let m = a.m.now in
    let y = a.y.now in
    let top = ceilings_of a.costs.pos a.costs.neg in
    let d = diagonal_in a.g m a.f.now a.g.n in
    let e = started_is a.g m y top a.p a.f.now _ _ _ _ c.diagonals.ensures c.begin.ensures c.gather.ensures c.before.before.before.«open».ensures in (
      ready_long P.0 (c.before.before.before.«open».auto.f ∙ c.gather.auto.f ∙ c.begin.auto.f ∙ c.diagonals.auto.f),
      rw e (diagonal_started a.g m y top (λ k. a.p) d (rw (length_diagonal a.g m a.f.now a.g.n) P.0.floats) (diagonal_filled a.g m a.f.now P.0.floats)),
      rw e (fitting_started a.g m y top a.p d (rw (length_diagonal a.g m a.f.now a.g.n) P.0.floats) P.3),
      P.1,
      P.2,
    )

pub returns : goal.returns
unfolding orderless
returns c =
    let a = c.args in
    let e = started_is a.g a.m.now a.y.now (ceilings_of a.costs.pos a.costs.neg) a.p a.f.now _ _ _ _ c.diagonals.ensures c.begin.ensures c.gather.ensures c.before.before.before.before.before.before.«open».ensures in
    rw e at c.go_on.ensures
