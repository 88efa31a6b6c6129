use mathlib.Core.Path.{sym, ◌∙◌}
use native.Mathlib.Omega.{arith}
use Rattle.shrink.proofs.Laws.{fallen_kept, fallen_dropped, fallen_end}
use Rattle.shrink.proofs.fall.Goals as goal

pub returns-then-not-drops : goal.returns-then-not-drops
returns-then-not-drops c =
    let d = sym c.drops.ensures ∙ c.if-not-drops.true in
    (fallen_kept _ _ _ _ c.loop-a-test.true d ∙ sym c.loop-a.invariant.1, omega arith)

pub loop-a-preserved : goal.loop-a-preserved
loop-a-preserved c =
    let d = sym c.drops.ensures ∙ c.if-not-drops.false in
    (omega arith, c.loop-a.invariant.1 ∙ fallen_dropped _ _ _ _ c.loop-a-test.true d)

pub returns : goal.returns
returns c = (fallen_end _ _ _ _ c.loop-a-test.false ∙ sym c.loop-a.invariant.1, omega arith)
