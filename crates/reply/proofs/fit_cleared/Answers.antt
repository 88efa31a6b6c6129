use mathlib.Core.Path.{refl, ◌∙◌}
use native.Mathlib.Omega.{arith}
use lib.ListN.{length-take}
use lib.Seq.{length-take-le}
use Rattle.reply.proofs.Laws.{ready_taken, cleared_by}
use Rattle.reply.proofs.fit_cleared.Goals as goal

pub slice_bounds-fit-end-2 : goal.slice_bounds-fit-end-2
slice_bounds-fit-end-2 c = simp length-take (omega arith)

pub fit-o-requires : goal.fit-o-requires
fit-o-requires c = let P = c.requires in (ready_taken P.0, P.1, P.2, P.3, P.4, P.6)

pub returns : goal.returns
returns c =
    let P = c.requires in
    cleared_by c.args.g.n _ _ c.args.h.now c.args.f.now _ _ c.fit-o.new.f c.args.y.now _ _ c.fit-o.ensures refl (c.fit-o.auto.f ∙ length-take-le _ _ P.0.floats) P.0.floats c.fill.ensures c.fill-2.ensures
