use mathlib.Core.Path.{refl}
use native.Mathlib.Numerals.{add-one}
use lib.ListN.{length-set}
use Rattle.orderless.specs.Run.{spread}
use borrow.Author.Rules.{rules}
use Rattle.course.proofs.begin.Goals as goal

pub loop-k-init : goal.loop-k-init
unfolding spread
loop-k-init c = (search rules, refl, refl)

pub loop-k-preserved : goal.loop-k-preserved
unfolding spread
loop-k-preserved c = let v = c.loop-k.invariant in (search rules, simp length-set v.1, rw (add-one, ← v.2, ← c.signed.ensures))
