use Prim.Native.Nat.{◌-◌}
use mathlib.Core.Path.{◌≡◌}
use Rattle.state.specs.Lists.{given, state}
use Rattle.reconstruct.specs.Reconstruct.{outer_to}
use Rattle.reconstruct.proofs.all_outer.Given as goal

abbrev pub invariant-loop-i : goal.invariant-loop-i
invariant-loop-i l = l.f ≡ outer_to (given l.p) l.inner l.active (state l.initial.f l.u l.y) (l.i - l.active)
