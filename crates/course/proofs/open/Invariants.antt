use Prim.Native.Nat.{◌≤◌}
use mathlib.Core.Path.{◌≡◌}
use lib.ListN.{length}
use Rattle.orderless.specs.Run.{opened_to}
use Rattle.orderless.specs.Sheet.{ceilings_of}
use Rattle.course.proofs.open.Given as goal

abbrev pub invariant-loop-k : goal.invariant-loop-k
invariant-loop-k l = (l.k ≤ l.n) × (length l.f ≡ length l.initial.f) × (l.f ≡ opened_to l.g l.m l.y (ceilings_of l.costs.pos l.costs.neg) l.initial.f l.k)
