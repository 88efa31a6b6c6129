use mathlib.Core.Path.{◌≡◌}
use Rattle.state.specs.Lists.{given, state}
use Rattle.partner.specs.Lead.{raced_to}
use Rattle.partner.proofs.race.Given as goal

abbrev pub invariant-loop-j : goal.invariant-loop-j
invariant-loop-j l = l.e ≡ raced_to (given l.p) (state l.f l.u l.y) l.floor l.active l.lp l.lq l.j
