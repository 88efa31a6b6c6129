use Prim.Native.Nat.{◌≤◌}
use mathlib.Core.Path.{◌≡◌}
use Rattle.state.specs.Lists.{given, state}
use Rattle.partner.proofs.next_stir.Given as goal

abbrev pub invariant-loop-k : goal.invariant-loop-k
invariant-loop-k g l = (l.from ≤ l.k) × (l.e ≡ g.E.Weighing.among (given l.p) (state l.f l.u l.y) l.k)
