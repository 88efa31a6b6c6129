use Rattle.std.proofs.Common.{◌≡◌}
use Rattle.state.specs.Moving.{swapped_fields}
use Rattle.state.proofs.swap_fields.Given as goal

abbrev pub invariant-loop-field : goal.invariant-loop-field
invariant-loop-field g l = (d : g.row.T.Denot) → l.xs ≡ swapped_fields d l.n l.initial.xs l.i l.j l.field
