use Rattle.std.proofs.Common.{ℕ, ◌≤◌, Option, Some, None, IfSome}
use Rattle.std.specs.Option.{unwrap_or}
use mathlib.Core.Path.{sym, subst}
use native.Mathlib.Omega.{arith}
use Rattle.shrink.specs.Drops.{drops_at}
use Rattle.shrink.specs.Walk.{Walking}
use Rattle.shrink.proofs.Kept.{ready_walked}
use Rattle.state.specs.Lists.{State, Ready}
use Rattle.state.proofs.Kept.{ready_floats}
use Rattle.solver.specs.Run.{problem_of, full}
use Rattle.solver.proofs.Laws.{shrunk_by}
use Rattle.solver.proofs.shrink_down.Goals as goal

most : (w : Option ℕ) (m : ℕ) → IfSome w (λ a. a ≤ m) → unwrap_or w 0 ≤ m
most (Some a) m h = h
most None m h = omega arith

pub returns : goal.returns
returns c =
    let s = c in
    let q = c.restore-q in
    let k = c.walk_over-w in
    let p = problem_of s.args.g s.args.m.now in
    let l = c.tops_of-t.result.limits in
    let z = ready_walked p l.ends (drops_at s.args.g.n l) q.result.active q.ensures.1.active _ q.result.active q.ensures.1.active (ready_floats s.requires.0 _ q.auto.f) in (
      shrunk_by s.args.g s.args.m.now (full s.args.r s.args.f.now s.args.u.now s.args.y.now) c.tops_of-t.result _ _ _ c.tops_of-t.ensures q.ensures.0 k.ensures.0 c.after_walk.ensures,
      rw c.after_walk.ensures (record { active = omega (arith, most k.result _ k.ensures.1, q.ensures.1.active); some = q.ensures.1.some; few = q.ensures.1.few }),
      subst (λ (x : Walking State). Ready p x.state) (sym k.ensures.0) z.kept,
    )
