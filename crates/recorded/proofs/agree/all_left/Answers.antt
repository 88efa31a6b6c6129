use Rattle.std.proofs.Common.{rules, length}
use borrow.Author.Tests.{tests}
use Rattle.recorded.proofs.Agreed.{all_same}
use Rattle.recorded.specs.Agree.{pattern_by, left_of}
use Rattle.recorded.proofs.agree.all_left.Goals as goal

pub returns : goal.returns
returns g c = all_same (pattern_by g.T.Mark.pattern g.T.Mark.beyond c.args.d.now) (left_of g.T.Mark.mark_pattern_at c.args.used) (length c.args.d.now) _ _ _ c.all.ensures.ran (cc) (λ k b q h. search (rules, tests))
