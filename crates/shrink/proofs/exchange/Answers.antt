use Rattle.state.specs.Lists.{state}
use Rattle.state.specs.Moving.{moved}
use Rattle.shrink.proofs.Laws.{exchanged_far, exchanged_near}
use Rattle.shrink.proofs.exchange.Goals as goal

pub returns-then-i-a : goal.returns-then-i-a
returns-then-i-a c = rw c.swap.ensures (exchanged_far (moved c.args.n) (state c.args.f.now c.args.u.now c.args.y.now) c.args.i c.args.a c.if-i-a.true)

pub returns-else-i-a : goal.returns-else-i-a
returns-else-i-a c = exchanged_near (moved c.args.n) (state c.args.f.now c.args.u.now c.args.y.now) c.args.i c.args.a c.if-i-a.false
