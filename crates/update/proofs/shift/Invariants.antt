use mathlib.Core.Path.{◌≡◌}
use Rattle.state.specs.Lists.{given, state}
use Rattle.update.specs.Update.{shifted_to}
use Rattle.update.proofs.shift.Given as goal

abbrev pub invariant-loop-k : goal.invariant-loop-k
invariant-loop-k l = l.f ≡ shifted_to (given l.p) (state l.initial.f l.u l.y) l.i l.j l.xi l.xj l.k
