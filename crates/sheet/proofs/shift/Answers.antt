use mathlib.Core.Path.{refl, ◌∙◌}
use native.Mathlib.Numerals.{add-one}
use Rattle.orderless.specs.Step.{shift_in}
use borrow.Author.Rules.{rules}
use Rattle.sheet.proofs.shift.Goals as goal

pub loop-k-init : goal.loop-k-init
unfolding shift_in
loop-k-init c = (search rules, refl, refl)

pub loop-k-preserved : goal.loop-k-preserved
unfolding shift_in
loop-k-preserved c =
    let v = c.loop-k.invariant in
    (search rules, c.raise.auto.f ∙ v.1, rw (add-one, ← v.2, ← c.entry-a.ensures, ← c.entry-b.ensures) c.raise.ensures)
