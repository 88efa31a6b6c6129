use mathlib.Core.Path.{◌≡◌}
use Rattle.readings.specs.Order.{scattered, weight_in}
use Rattle.readings.proofs.read_home.Given as goal

abbrev pub invariant-loop-k : goal.invariant-loop-k
invariant-loop-k l = l.res ≡ scattered l.u (weight_in l.n l.f) l.initial.res l.k
