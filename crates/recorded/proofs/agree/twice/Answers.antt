use Rattle.std.proofs.Common.{rules, ◌+◌}
use borrow.Author.Tests.{tests}
use Rattle.recorded.proofs.Agreed.{all_same}
use Rattle.recorded.specs.Agree.{word_from}
use Rattle.recorded.proofs.agree.twice.Goals as goal

pub returns : goal.returns
returns c = all_same (word_from c.args.b.now c.args.at) (word_from c.args.b.now (c.args.at + c.args.n)) c.args.n _ _ _ c.all.ensures.ran (cc) (λ k b q h. search (rules, tests))
