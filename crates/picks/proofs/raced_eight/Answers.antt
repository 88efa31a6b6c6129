use mathlib.Core.Path.{refl}
use native.Mathlib.Numerals.{add-one}
use Rattle.picks.specs.Follow.{raced_from}
use borrow.Author.Rules.{rules}
use Rattle.picks.proofs.raced_eight.Goals as goal

pub loop-k-init : goal.loop-k-init
unfolding raced_from
loop-k-init c = (search rules, refl)

pub loop-k-preserved : goal.loop-k-preserved
unfolding raced_from
loop-k-preserved c = (search rules, rw (add-one, ← c.loop-k.invariant.1) c.raced-r.ensures)
