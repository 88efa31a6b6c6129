use Prim.Native.Nat.{◌≤◌}
use mathlib.Core.Path.{◌≡◌}
use lib.ListN.{length}
use Rattle.course.specs.Filled.{joined_in}
use Rattle.course.proofs.gather.Given as goal

abbrev pub invariant-loop-i : goal.invariant-loop-i
invariant-loop-i l = (l.i ≤ l.n) × (length l.f ≡ length l.initial.f) × (l.f ≡ joined_in l.g l.m l.y l.initial.f l.i)
