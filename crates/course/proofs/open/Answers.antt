use mathlib.Core.Path.{refl, ◌∙◌}
use native.Mathlib.Numerals.{add-one}
use Rattle.orderless.specs.Run.{opened_to}
use borrow.Author.Rules.{rules}
use Rattle.course.proofs.open.Goals as goal

pub loop-k-init : goal.loop-k-init
unfolding opened_to
loop-k-init c = (search rules, refl, refl)

pub loop-k-preserved : goal.loop-k-preserved
unfolding opened_to
loop-k-preserved c = let v = c.loop-k.invariant in (search rules, c.place.auto.f ∙ v.1, rw (add-one, ← v.2) c.place.ensures)
