use mathlib.Core.Path.{◌≡◌}
use Rattle.state.specs.Lists.{given, state}
use Rattle.start.specs.Start.{gathered_to}
use Rattle.start.proofs.gather.Given as goal

abbrev pub invariant-loop-i : goal.invariant-loop-i
invariant-loop-i l = l.f ≡ gathered_to (given l.p) l.b (state l.initial.f l.u l.y) l.i
