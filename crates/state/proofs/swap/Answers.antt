use lib.Ieee.{nan}
use native.Mathlib.Omega.{arith}
use Rattle.std.proofs.lemmas.List.Edits.{swap_is}
use Rattle.state.specs.Moving.{moved, swapped}
use Rattle.state.proofs.swap.Goals as goal

pub returns : goal.returns
unfolding moved swapped
returns c = rw (c.swap_fields.ensures nan, c.swap_fields-2.ensures 0, c.swap.ensures.after, swap_is c.args.y.now c.args.i c.args.j 0 (omega arith) (omega arith))
