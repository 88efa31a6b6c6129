use Prim.Native.Nat.{◌≤◌}
use mathlib.Core.Path.{◌≡◌}
use Rattle.standing.specs.End.{sum_over}
use Rattle.retired.specs.Entry.{stands_in}
use Rattle.fit_retired.proofs.objective_over.Given as goal

abbrev pub invariant-loop-k : goal.invariant-loop-k
invariant-loop-k l = (l.k ≤ l.n) × (l.v ≡ sum_over (stands_in l.r) l.n l.f l.k)
