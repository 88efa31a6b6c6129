use mathlib.Core.Path.{refl}
use native.Mathlib.Numerals.{add-one}
use Rattle.picks.specs.Follow.{stirred_to}
use borrow.Author.Rules.{rules}
use Rattle.picks.proofs.stirs.Goals as goal

pub loop-k-init : goal.loop-k-init
unfolding stirred_to
loop-k-init c = (search rules, refl)

pub loop-k-preserved : goal.loop-k-preserved
unfolding stirred_to
loop-k-preserved c = (search rules, rw (add-one, ← c.loop-k.invariant.1, c.reaches-any.ensures, c.entry-e.ensures))
