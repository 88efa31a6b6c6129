use Prim.Native.Nat.{◌-◌}
use mathlib.Core.Path.{◌≡◌}
use native.Mathlib.Omega.{arith}
use Rattle.lanes.specs.Lanes.{last_in}
use Rattle.lanes.proofs.Steps.{last_more}
use borrow.Author.Rules.{rules}
use Rattle.lanes.proofs.last_in.Goals as goal
use Rattle.lanes.proofs.last_in.Goals.{then-f-k, else-f-k}

pub loop-k-init : goal.loop-k-init
unfolding last_in
loop-k-init c = (search rules, search rules, let e : c.args.t - c.args.t ≡ 0 = omega arith in rw e)

pub loop-k-preserved : goal.loop-k-preserved
loop-k-preserved c =
    let a = c.args in
    let k = c.loop-k.k in
    (search rules, search rules, rw (last_more a.f.now a.t k c.loop-k.invariant.0 a.v) (elim c.if-f-k.branch [ then-f-k w ↦ rw (w.i-is, w.if-f-k.true) | else-f-k w ↦ rw (w.i-is, w.if-f-k.false) c.loop-k.invariant.2 ]))
