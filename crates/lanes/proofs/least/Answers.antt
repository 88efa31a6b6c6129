use Prim.Native.Nat.{◌*◌, ◌/◌}
use mathlib.Core.Path.{◌≡◌, sym, ◌∙◌}
use native.Mathlib.Numerals.{add-one}
use native.Mathlib.Omega.{arith}
use Rattle.extreme.specs.Best.{best}
use Rattle.lanes.proofs.Steps.{infinity_is, whole_is, rest_is, turn_taken, turn_kept}
use Rattle.lanes.proofs.least.Goals as goal
use Rattle.lanes.proofs.least.Goals.{then-less, else-less}

pub loop-sixteen-init : goal.loop-sixteen-init
unfolding best
loop-sixteen-init c = (omega arith, rw (infinity_is, best))

pub loop-sixteen-preserved : goal.loop-sixteen-preserved
loop-sixteen-preserved c =
    let a = c.args in
    let l = c.loop-sixteen in
    let f = a.f.now in
    let b = l.sixteen in
    let e : 16 * b / 16 ≡ b = omega arith in
    let q = whole_is f a.o a.n b (omega arith) ∙ sym c.least_from-w.ensures in (
      elim c.if-less.branch [ then-less z ↦ omega arith | else-less z ↦ omega arith ],
      rw add-one (elim c.if-less.branch [
        | then-less z ↦ rw (z.v-is, z.h-is) (turn_taken f a.o a.n b a.nu l.v c.least_from-w.result l.h l.invariant.1 q (sym c.less.ensures ∙ z.if-less.true))
        | else-less z ↦ rw (z.v-is, z.h-is) (turn_kept f a.o a.n b a.nu l.v c.least_from-w.result l.h l.invariant.1 q (sym c.less.ensures ∙ z.if-less.false))
      ]),
    )

pub returns-then-less-2 : goal.returns-then-less-2
returns-then-less-2 c =
    let a = c.args in
    let l = c.loop-sixteen in
    let e : l.sixteen ≡ a.n / 16 = omega arith in
    let g = rw e at l.invariant.1 in
    let q = rest_is a.f.now a.o a.n (a.n / 16) (omega arith) ∙ sym c.least_to-w.ensures in
    (turn_taken a.f.now a.o a.n (a.n / 16) a.nu l.v c.least_to-w.result l.h g q (sym c.less-2.ensures ∙ c.if-less-2.true), omega arith)

pub returns-else-less-2 : goal.returns-else-less-2
returns-else-less-2 c =
    let a = c.args in
    let l = c.loop-sixteen in
    let e : l.sixteen ≡ a.n / 16 = omega arith in
    let g = rw e at l.invariant.1 in
    let q = rest_is a.f.now a.o a.n (a.n / 16) (omega arith) ∙ sym c.least_to-w.ensures in
    (turn_kept a.f.now a.o a.n (a.n / 16) a.nu l.v c.least_to-w.result l.h g q (sym c.less-2.ensures ∙ c.if-less-2.false), omega arith)
