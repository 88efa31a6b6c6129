use Rattle.std.proofs.Common.{rules, length}
use borrow.Author.Tests.{tests}
use Rattle.recorded.proofs.Agreed.{all_same}
use Rattle.recorded.specs.Agree.{pattern_in, reading_of}
use Rattle.recorded.proofs.agree.reading_told.Goals as goal

pub returns : goal.returns
returns c = all_same (pattern_in c.args.d.now) (reading_of c.args.b.now c.args.at c.args.n) (length c.args.d.now) _ _ _ c.all.ensures.ran (cc) (λ k b q h. search (rules, tests))
