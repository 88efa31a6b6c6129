use Prim.Native.Nat.{◌≤◌, ◌-◌}
use mathlib.Core.Path.{◌≡◌}
use Rattle.state.specs.Lists.{given, state}
use Rattle.partner.proofs.max_violating_pair.Given as goal

abbrev pub invariant-loop-k : goal.invariant-loop-k
invariant-loop-k g l = (l.from ≤ l.active) × (l.e ≡ g.E.Weighing.among (given l.p) (state l.f l.u l.y) l.from)

abbrev pub decreases-loop-k : goal.decreases-loop-k
decreases-loop-k g l = l.active - l.from
