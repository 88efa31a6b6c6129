use mathlib.Core.Path.{sym}
use lib.Ieee.{of_bits, div}
use Rattle.wire.proofs.Nan.{pattern_nan, pattern_number}
use Rattle.wire.proofs.float_of.Goals as goal

pub returns-then-w-gt9218868437227405312 : goal.returns-then-w-gt9218868437227405312
unfolding of_bits div
returns-then-w-gt9218868437227405312 c = sym (pattern_nan c.args.w c.if-w-gt9218868437227405312.true)

pub float_from_bits-result : goal.float_from_bits-result
float_from_bits-result c = pattern_number c.args.w c.if-w-gt9218868437227405312.false
