use Prim.Native.Nat.{◌≤◌}
use mathlib.Core.Path.{◌≡◌}
use Rattle.state.specs.Lists.{state}
use Rattle.shrink.specs.Walk.{count_fallen}
use Rattle.shrink.specs.Drops.{drops_at}
use Rattle.shrink.proofs.fall.Given as goal

abbrev pub invariant-loop-a : goal.invariant-loop-a
invariant-loop-a l = (l.a ≤ l.start) × (count_fallen (drops_at l.n l.l) (state l.f l.u l.y) l.i l.start ≡ count_fallen (drops_at l.n l.l) (state l.f l.u l.y) l.i l.a)

abbrev pub decreases-loop-a : goal.decreases-loop-a
decreases-loop-a l = l.a
