use mathlib.Core.Path.{◌∙◌}
use native.Mathlib.Omega.{arith}
use borrow.Author.Tests.{le-leb}
use Rattle.judge.specs.Judge.{label_good}
use Rattle.judge.proofs.First.{on}
use borrow.Author.Rules.{rules}
use Rattle.judge.proofs.labels_judged.Goals as goal

pub loop-i-preserved : goal.loop-i-preserved
unfolding label_good
loop-i-preserved c = (search rules, c.loop-i.invariant.1 ∙ on _ _ _ _ (omega arith) (le-leb _ _ (omega arith)))
