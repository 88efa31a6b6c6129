use mathlib.Core.Path.{◌≡◌}
use Rattle.start.specs.Start.{laid_to}
use Rattle.start.proofs.laid.Given as goal

abbrev pub invariant-loop-k : goal.invariant-loop-k
invariant-loop-k l = l.f ≡ laid_to l.n l.initial.f l.k
