use Prim.Native.Nat.{◌≤◌}
use mathlib.Core.Path.{◌≡◌}
use lib.ListN.{length}
use Rattle.course.specs.Filled.{diagonal_in}
use Rattle.course.proofs.diagonals.Given as goal

abbrev pub invariant-loop-k : goal.invariant-loop-k
invariant-loop-k l = (l.k ≤ l.n) × (length l.f ≡ length l.initial.f) × (l.f ≡ diagonal_in l.g l.m l.initial.f l.k)
