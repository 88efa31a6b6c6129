use Rattle.orderless.specs.Step.{raised_in}
use Rattle.sheet.proofs.raise.Goals as goal

pub returns-then-nu : goal.returns-then-nu
unfolding raised_in
returns-then-nu c = rw c.if-nu.true

pub returns-else-nu : goal.returns-else-nu
unfolding raised_in
returns-else-nu c = rw c.if-nu.false
