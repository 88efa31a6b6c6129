use mathlib.Core.Path.{◌≡◌}
use Rattle.state.specs.Lists.{given, state}
use Rattle.reconstruct.specs.Reconstruct.{inner_to}
use Rattle.reconstruct.proofs.all_inner.Given as goal

abbrev pub invariant-loop-i : goal.invariant-loop-i
invariant-loop-i l = l.f ≡ inner_to (given l.p) l.active (state l.initial.f l.u l.y) l.i
