use Rattle.std.proofs.Common.{◌≡◌, ◌<◌, length, add-one, sym, arith, length-take-le}
use Rattle.std.proofs.lemmas.List.{take-append-drop, set-append_left}
use Rattle.lists.specs.Filled.{filled_to}
use Rattle.lists.proofs.fill.Goals as goal

pub loop-place-init : goal.loop-place-init
unfolding filled_to
loop-place-init g c = take-append-drop c.args.n c.args.d.now

pub loop-place-preserved : goal.loop-place-preserved
unfolding filled_to
loop-place-preserved g c =
    let within : c.loop-place.place-index < length c.loop-place.place-items = rw c.loop-place.auto.place-items c.loop-place-test.true in
    rw (add-one, ← c.loop-place.invariant) (sym (set-append_left _ _ c.loop-place.place-index c.args.x within))

pub returns : goal.returns
returns g c =
    let long = length-take-le c.args.n c.args.d.now c.requires in
    let e : c.loop-place.place-index ≡ c.args.n = omega arith in
    rw e at c.loop-place.invariant
