use native.Mathlib.Omega.{arith}
use Rattle.judge.specs.Judge.{entry_good}
use Rattle.verdict.proofs.Quick.{none, one_more}
use borrow.Author.Rules.{rules}
use Rattle.verdict.proofs.all_small.Goals as goal

pub loop-k-init : goal.loop-k-init
loop-k-init c = (search rules, λ t. none (entry_good c.args.m.now))

pub loop-k-preserved : goal.loop-k-preserved
loop-k-preserved c = (search rules, one_more (entry_good c.args.m.now) c.loop-k.k _ _ c.loop-k.invariant.1 c.surely_small-small.ensures)

pub returns : goal.returns
returns c = λ t j u. c.loop-k.invariant.1 t j (omega arith)
