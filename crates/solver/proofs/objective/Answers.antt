use mathlib.Core.Path.{refl}
use native.Mathlib.Numerals.{add-one}
use Rattle.solver.specs.End.{sum_to}
use borrow.Author.Rules.{rules}
use Rattle.solver.proofs.objective.Goals as goal

pub loop-k-init : goal.loop-k-init
unfolding sum_to
loop-k-init c = (search rules, refl)

pub loop-k-preserved : goal.loop-k-preserved
unfolding sum_to
loop-k-preserved c = (search rules, rw (add-one, ← c.loop-k.invariant.1))
