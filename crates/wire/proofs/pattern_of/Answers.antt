use lib.Ieee.{to_bits}
use Rattle.wire.proofs.Nan.{differs, equals_itself}
use Rattle.wire.proofs.pattern_of.Goals as goal

pub float_to_bits-result : goal.float_to_bits-result
float_to_bits-result c = equals_itself _ c.if-x.false

pub returns-then-x : goal.returns-then-x
unfolding to_bits
returns-then-x c = rw (differs c.args.x c.if-x.true)
