use Prim.Native.Nat.{◌+◌, ◌-◌}
use mathlib.Core.Bool.{true, false}
use mathlib.Core.Path.{◌≡◌, refl, sym, ap, ◌∙◌}
use native.Mathlib.Numerals.{add-one}
use native.Mathlib.Omega.{arith}
use Rattle.solver.specs.Run.{Full, full, goes}
use Rattle.solver.specs.Pass.{runs}
use Rattle.solver.proofs.Laws.{not_going, runs_on, runs_off}
use Rattle.solver.proofs.solve.Goals as goal

pub loop-init : goal.loop-init
unfolding runs
loop-init c =
    let s = c in
    (omega (arith, s.requires.3), s.requires.2, refl, s.requires.0)

pub returns-then-ne : goal.returns-then-ne
returns-then-ne c =
    let s = c in
    let l = c.loop in
    let h : goes c.loop.r.status ≡ false = not_going _ _ c.ne.ensures ∙ rw c.if-ne.true in
    let k : s.args.budget - l.counter + l.counter ≡ s.args.budget = omega arith in
    let z = runs_off s.args.g s.args.m.now (full s.args.start s.args.f.now s.args.u.now s.args.y.now) s.args.b.now l.counter (s.args.budget - l.counter) (sym (ap (λ (v : Full). goes v.run.status) l.invariant.2) ∙ h) in
    (l.invariant.2 ∙ sym (rw k at z), l.invariant.1, l.invariant.3)

pub loop-preserved : goal.loop-preserved
loop-preserved c =
    let s = c in
    let l = c.loop in
    let k = c.pass-r in
    let h : goes c.loop.r.status ≡ true = not_going _ _ c.ne.ensures ∙ rw c.if-ne.false in (
      omega (arith, k.ensures.2, l.invariant.0),
      k.ensures.1,
      rw add-one (k.ensures.0 ∙ runs_on s.args.g s.args.m.now (full s.args.start s.args.f.now s.args.u.now s.args.y.now) s.args.b.now l.counter _ l.invariant.2 h),
      k.ensures.3,
    )
