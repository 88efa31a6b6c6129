use mathlib.Core.Path.{◌≡◌}
use Rattle.state.specs.Lists.{given, state}
use Rattle.rows.specs.Added.{row_added}
use Rattle.rows.proofs.add_row.Given as goal

abbrev pub invariant-loop-k : goal.invariant-loop-k
invariant-loop-k l = l.f ≡ row_added (given l.p) (state l.initial.f l.u l.y) l.base l.x l.i l.lo l.k
