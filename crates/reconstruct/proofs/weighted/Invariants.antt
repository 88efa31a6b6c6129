use mathlib.Core.Path.{◌≡◌}
use Rattle.state.specs.Lists.{given, state}
use Rattle.reconstruct.specs.Reconstruct.{weighted_to}
use Rattle.reconstruct.proofs.weighted.Given as goal

abbrev pub invariant-loop-j : goal.invariant-loop-j
invariant-loop-j l = l.g ≡ weighted_to (given l.p) l.inner (state l.f l.u l.y) l.i l.start l.j
