use mathlib.Core.Path.{sym, ◌∙◌}
use native.Mathlib.Omega.{arith}
use lib.Ieee.{of_bits, div, neg}
use Rattle.judge.proofs.Bits.{between}
use Rattle.judge.specs.Judge.{linear_good}
use Rattle.judge.proofs.First.{on, stop}
use borrow.Author.Rules.{rules}
use Rattle.judge.proofs.linear_judged.Goals as goal

pub loop-i-preserved : goal.loop-i-preserved
unfolding linear_good of_bits div neg
loop-i-preserved c = (search rules, c.loop-i.invariant.1 ∙ on _ _ _ _ (omega arith) (sym (between _) ∙ c.if-not-p-i.false))

pub returns-then-not-p-i : goal.returns-then-not-p-i
unfolding linear_good of_bits div neg
returns-then-not-p-i c = sym (c.loop-i.invariant.1 ∙ stop _ _ _ _ (omega arith) (sym (between _) ∙ c.if-not-p-i.true))
