use native.Mathlib.Omega.{arith}
use Rattle.state.specs.Lists.{given, state}
use Rattle.partner.specs.Second.{leads}
use Rattle.partner.proofs.Steps.{second_below}
use Rattle.partner.proofs.chosen.Goals as goal

pub bounds-y-j : goal.bounds-y-j
bounds-y-j c =
    let a = c.args in
    let s = state a.f.now a.u.now a.y.now in
    omega (arith, second_below (given a.p) s a.floor (leads a.positives a.negatives) a.active _ (rw c.partner.ensures at c.in_ok-j.was))
