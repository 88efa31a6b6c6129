use Rattle.std.proofs.Common.{◌≡◌, ◌+◌, ◌-◌, ◌<◌, length, take, drop, ap, ◌∙◌, add-one, arith}
use Rattle.std.proofs.lemmas.List.Edits.{length-between, get_or-between}
use lib.Ieee.{Float, nan}
use Rattle.lanes.specs.Lanes.{lower_of, least_to}
use Rattle.lanes.proofs.Steps.{infinity_is}
use Rattle.lanes.proofs.least_to.Goals as goal

pub loop-x-init : goal.loop-x-init
unfolding least_to
loop-x-init c = infinity_is

pub loop-x-preserved : goal.loop-x-preserved
unfolding least_to
loop-x-preserved c =
    let a = c.args in
    let k = c.loop-x.x-index in
    let long : length (take (a.e - a.t) (drop a.t a.f.now)) ≡ a.e - a.t = length-between a.f.now a.t a.e (omega arith) in
    let inside : a.t + k < a.e = omega arith in
    let so_far : c.loop-x.w ≡ least_to a.f.now a.t k = c.loop-x.invariant in
    rw (add-one, ← so_far) (c.lower-w.ensures ∙ ap (λ (x : Float). lower_of x c.loop-x.w) (get_or-between a.f.now a.t a.e k nan inside))
