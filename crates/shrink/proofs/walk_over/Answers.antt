use Prim.Native.Nat.{ℕ, suc}
use mathlib.Core.Bool.{true}
use mathlib.Core.Path.{◌≡◌, refl, sym, ap, ◌∙◌}
use native.Mathlib.Numerals.{add-one}
use native.Mathlib.Omega.{arith}
use Rattle.state.specs.Lists.{State, state}
use Rattle.state.specs.Moving.{moved}
use Rattle.shrink.specs.Drops.{drops_at}
use Rattle.shrink.specs.Walk.{Walking, walking, walked}
use Rattle.shrink.proofs.Laws.{walked_refused}
use Rattle.shrink.proofs.walk_over.Goals as goal

pub loop-i-init : goal.loop-i-init
unfolding walked
loop-i-init c = (omega arith, refl)

pub returns-in_err-active : goal.returns-in_err-active
unfolding walked
returns-in_err-active c =
    let a = c.args in
    let s : State = state a.f.now a.u.now a.y.now in
    let now : State = state c.visit.new.f c.visit.new.u c.visit.new.y in
    let to : ℕ → Walking State = walked a.l.ends (drops_at a.n a.l) (moved a.n) a.start s in
    let here : walking 0 true now ≡ to (suc c.loop-i.i) = rw (← c.loop-i.invariant.1) c.in_err-active.ensures.0 in
    let end = walked_refused a.l.ends (drops_at a.n a.l) (moved a.n) a.start s (suc c.loop-i.i) a.start (omega arith) (sym (ap (λ (w : Walking State). w.refused) here)) in
    rw c.from_residual.ensures (here ∙ sym end, tt)

pub loop-i-preserved : goal.loop-i-preserved
unfolding walked
loop-i-preserved c = (omega (arith, c.in_ok-active.ensures.1), rw (add-one, ← c.loop-i.invariant.1) c.in_ok-active.ensures.0)
