use mathlib.Core.Path.{◌≡◌}
use Rattle.start.specs.Start.{diagonal_to}
use Rattle.start.proofs.diagonals.Given as goal

abbrev pub invariant-loop-c : goal.invariant-loop-c
invariant-loop-c l = l.f ≡ diagonal_to l.p.n l.p.side l.p.matrix.now l.initial.f l.c
