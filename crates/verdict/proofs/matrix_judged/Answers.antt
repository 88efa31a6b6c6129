use mathlib.Core.Path.{sym}
use native.Mathlib.Omega.{arith}
use Rattle.judge.specs.declared.Refusal.TheVariants.{Kernel}
use Rattle.judge.specs.Judge.{entry_good}
use Rattle.judge.proofs.First.{fine_first}
use Rattle.judge.proofs.Lengths.{square}
use Rattle.verdict.proofs.matrix_judged.Goals as goal

pub all_small-requires : goal.all_small-requires
all_small-requires c = (c.requires.1, square c.requires.0)

pub returns-then-all_small : goal.returns-then-all_small
returns-then-all_small c =
    sym (fine_first Kernel (entry_good c.args.m.now) _ 0 (λ j l u. c.all_small.ensures c.if-all_small.true j (omega arith)))

pub entries_judged-requires : goal.entries_judged-requires
entries_judged-requires c = (c.requires.1, square c.requires.0)

pub returns : goal.returns
returns c = c.entries_judged.ensures
