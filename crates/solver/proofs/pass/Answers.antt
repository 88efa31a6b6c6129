use mathlib.Core.Path.{sym, ap, ◌∙◌}
use native.Mathlib.Omega.{arith}
use Rattle.state.proofs.Kept.{ready_floats}
use Rattle.solver.specs.Run.{Full, full}
use Rattle.solver.proofs.Laws.{is_going, counted_iterations, passed_on_law, passed_off}
use Rattle.solver.proofs.pass.Goals as goal

pub work-requires : goal.work-requires
work-requires c =
    let s = c in
    let d = c.count_down-q in
    let e = ap (λ (v : Full). v.run.iterations) d.ensures.0 ∙ counted_iterations s.args.g s.args.m.now (full s.args.r s.args.f.now s.args.u.now s.args.y.now) in
    (d.ensures.2, s.requires.1, d.ensures.1, omega (arith, s.requires.3))

pub returns-then-eq : goal.returns-then-eq
returns-then-eq c =
    let s = c in
    let d = c.count_down-q in
    let k = c.work in
    let e = ap (λ (v : Full). v.run.iterations) d.ensures.0 ∙ counted_iterations s.args.g s.args.m.now (full s.args.r s.args.f.now s.args.u.now s.args.y.now) in
    let h = sym (is_going _) ∙ sym c.eq.ensures ∙ c.if-eq.true in
    (k.ensures.0 ∙ passed_on_law s.args.g s.args.m.now (full s.args.r s.args.f.now s.args.u.now s.args.y.now) s.args.b.now _ d.ensures.0 h, k.ensures.1, omega (arith, k.ensures.2), ready_floats d.ensures.2 _ k.auto.f)

pub returns : goal.returns
returns c =
    let s = c in
    let d = c.count_down-q in
    let e = ap (λ (v : Full). v.run.iterations) d.ensures.0 ∙ counted_iterations s.args.g s.args.m.now (full s.args.r s.args.f.now s.args.u.now s.args.y.now) in
    let h = sym (is_going _) ∙ sym c.eq.ensures ∙ c.if-eq.false in
    (passed_off s.args.g s.args.m.now (full s.args.r s.args.f.now s.args.u.now s.args.y.now) s.args.b.now _ d.ensures.0 h, d.ensures.1, omega arith, d.ensures.2)
