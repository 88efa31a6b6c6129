use Rattle.std.proofs.Common.{◌≡◌, ◌<◌, refl, add-one, arith, length-take-le}
use lib.Seq.{get_or-take}
use Rattle.readings.specs.Order.{scattered, weight_in}
use Rattle.readings.proofs.read_home.Goals as goal

pub loop-k-init : goal.loop-k-init
unfolding scattered
loop-k-init c = refl

pub loop-k-preserved : goal.loop-k-preserved
unfolding scattered
loop-k-preserved c =
    let a = c.args in
    let k = c.loop-k.k in
    let long = length-take-le a.n a.u.now c.requires.3.long in
    let inside : k < a.n = omega arith in
    let so_far : c.loop-k.res ≡ scattered a.u.now (weight_in a.n a.f.now) a.res.now k = c.loop-k.invariant in
    rw (add-one, ← so_far, get_or-take a.n a.u.now k 0 inside)
