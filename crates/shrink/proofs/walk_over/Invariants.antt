use Prim.Native.Nat.{◌≤◌}
use mathlib.Core.Bool.{false}
use mathlib.Core.Path.{◌≡◌}
use Rattle.state.specs.Lists.{State, state}
use Rattle.state.specs.Moving.{moved}
use Rattle.shrink.specs.Walk.{Walking, walking, walked}
use Rattle.shrink.specs.Drops.{drops_at}
use Rattle.shrink.proofs.walk_over.Given as goal

abbrev pub invariant-loop-i : goal.invariant-loop-i
invariant-loop-i l = (l.active ≤ l.start)
    × (◌≡◌ {A = Walking State} (walking l.active false (state l.f l.u l.y)) (walked l.l.ends (drops_at l.n l.l) (moved l.n) l.start (state l.initial.f l.initial.u l.initial.y) l.i))
