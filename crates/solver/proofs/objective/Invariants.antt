use Prim.Native.Nat.{◌≤◌}
use mathlib.Core.Path.{◌≡◌}
use Rattle.solver.specs.End.{sum_to}
use Rattle.solver.proofs.objective.Given as goal

abbrev pub invariant-loop-k : goal.invariant-loop-k
invariant-loop-k l = (l.k ≤ l.n) × (l.v ≡ sum_to l.n l.f l.k)
