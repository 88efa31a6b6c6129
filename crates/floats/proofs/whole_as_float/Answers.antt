use Rattle.std.proofs.Common.{◌^◌, refl, arith, le→leb}
use lib.Ieee.{in_float}
use Rattle.floats.proofs.whole_as_float.Goals as goal

pub int_to_float-result : goal.int_to_float-result
unfolding in_float
int_to_float-result c = le→leb c.args.n (2 ^ 53) (omega arith)

pub returns : goal.returns
returns c = refl
