use Prim.Native.Nat.{◌-◌}
use mathlib.Core.Path.{◌≡◌}
use native.Mathlib.Omega.{arith}
use Rattle.lanes.specs.Lanes.{first_in}
use Rattle.lanes.proofs.Steps.{first_more}
use Rattle.lanes.proofs.first_in.Goals as goal

pub loop-k-init : goal.loop-k-init
unfolding first_in
loop-k-init c = (omega arith, let e : c.args.e - c.args.e ≡ 0 = omega arith in rw e)

pub loop-k-preserved-then-f-k : goal.loop-k-preserved-then-f-k
loop-k-preserved-then-f-k c =
    let a = c.args in
    let k = c.loop-k.k in
    (omega arith, rw (first_more a.f.now a.v a.t k a.e (omega arith) (omega arith), c.if-f-k.true))

pub loop-k-preserved : goal.loop-k-preserved
loop-k-preserved c =
    let a = c.args in
    let k = c.loop-k.k in
    (omega arith, rw (first_more a.f.now a.v a.t k a.e (omega arith) (omega arith), c.if-f-k.false) c.loop-k.invariant.1)
