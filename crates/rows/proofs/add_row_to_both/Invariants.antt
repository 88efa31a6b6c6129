use mathlib.Core.Path.{◌≡◌}
use Rattle.state.specs.Lists.{given, state}
use Rattle.rows.proofs.Both.{both}
use Rattle.rows.proofs.add_row_to_both.Given as goal

abbrev pub invariant-loop-k : goal.invariant-loop-k
invariant-loop-k l = l.f ≡ both (given l.p) (state l.initial.f l.u l.y) l.x l.z l.i l.k
