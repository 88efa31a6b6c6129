use mathlib.Core.Path.{◌≡◌}
use Rattle.readings.specs.Order.{gathered, weight_in}
use Rattle.readings.proofs.read_crate.Given as goal

abbrev pub invariant-loop-i : goal.invariant-loop-i
invariant-loop-i l = l.res ≡ gathered l.u (weight_in l.n l.f) l.initial.res l.i
