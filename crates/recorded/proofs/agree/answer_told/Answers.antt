use Rattle.std.proofs.Common.{rules}
use borrow.Author.Tests.{tests}
use Rattle.recorded.proofs.Agreed.{all_same}
use Rattle.recorded.specs.Agree.{loose_in, loose_from}
use Rattle.recorded.proofs.agree.answer_told.Goals as goal

pub returns : goal.returns
returns c = all_same (loose_in c.args.z c.args.a.now) (loose_from c.args.z c.args.b.now c.args.at) 9 _ _ _ c.all.ensures.ran (cc) (λ k b q h. search (rules, tests))
