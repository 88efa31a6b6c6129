use mathlib.Core.Path.{sym, ◌∙◌}
use Rattle.solver.specs.Run.{full}
use Rattle.answer.specs.Solved.{level_at, crate_of, home_of}
use Rattle.answer.proofs.Laws.{settled_stuck, settled_fine}
use Rattle.answer.proofs.settle.Goals as goal

pub returns-then-is_stuck : goal.returns-then-is_stuck
returns-then-is_stuck c = settled_stuck _ _ _ _ _ _ _ (sym c.is_stuck.ensures ∙ c.if-is_stuck.true)

pub returns : goal.returns
unfolding level_at crate_of home_of
returns c =
    let b = c.read_both.ensures in
    let w = full c.args.r c.args.f.now c.args.u.now c.args.y.now in
    settled_fine c.args.g c.args.how c.args.l.now c.args.budget w c.args.cr.now c.args.h.now _ _ _ _
    (sym c.is_stuck.ensures ∙ c.if-is_stuck.false) c.level_at-v.ensures b.0 b.1
    (rw (c.rho_of.ensures, c.ratio_of.ensures, c.obj_of.ensures, c.objective.ensures, c.reason.ensures, c.support.ensures))
