use mathlib.Core.Path.{refl, ◌∙◌}
use native.Mathlib.Numerals.{add-one}
use Rattle.course.specs.Filled.{joined_in}
use borrow.Author.Rules.{rules}
use Rattle.course.proofs.gather.Goals as goal

pub loop-i-init : goal.loop-i-init
unfolding joined_in
loop-i-init c = (search rules, refl, refl)

pub loop-i-preserved : goal.loop-i-preserved
unfolding joined_in
loop-i-preserved c = let v = c.loop-i.invariant in (search rules, c.join.auto.f ∙ v.1, rw (add-one, ← v.2) c.join.ensures)
