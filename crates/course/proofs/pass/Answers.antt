use mathlib.Core.Path.{sym, ◌∙◌}
use native.Mathlib.Omega.{arith}
use Rattle.orderless.specs.Run.{passes}
use Rattle.orderless.specs.Sheet.{read_in, ceilings_of}
use Rattle.orderless.proofs.Labels.{pair_below}
use Rattle.course.proofs.Laws.{ready_long, diagonal_steps, fitting_steps}
use Rattle.course.proofs.pass.Goals as goal

pub step-requires : goal.step-requires
step-requires c =
    let a = c.args in
    let b = pair_below a.g a.m.now a.y.now (read_in a.g.nu a.g.n a.f.now) _ _ (sym c.choice.ensures ∙ c.in-Some.is) in
    (c.requires.0, b.0, b.1)

pub returns : goal.returns
unfolding passes
returns c =
    let a = c.args in
    let P = c.requires in
    let b = pair_below a.g a.m.now a.y.now (read_in a.g.nu a.g.n a.f.now) _ _ (sym c.choice.ensures ∙ c.in-Some.is) in
    (rw (← c.choice.ensures, c.in-Some.is, c.step.ensures), omega arith, ready_long P.0 c.step.auto.f, diagonal_steps a.g a.m.now a.y.now (ceilings_of a.costs.pos a.costs.neg) a.f.now _ _ _ P.0 P.1 b.0 b.1 c.step.ensures, fitting_steps a.g a.m.now a.y.now (ceilings_of a.costs.pos a.costs.neg) a.f.now _ _ _ P.0 b.0 b.1 c.step.ensures)

pub returns-in_default : goal.returns-in_default
unfolding passes
returns-in_default c = let P = c.requires in (rw (← c.choice.ensures, c.in_default.is), omega arith, P.0, P.1, P.2)
