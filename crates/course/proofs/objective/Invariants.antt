use Prim.Native.Nat.{◌≤◌}
use mathlib.Core.Path.{◌≡◌}
use Rattle.orderless.specs.End.{sum_of}
use Rattle.orderless.specs.Sheet.{read_in, ceilings_of}
use Rattle.orderless.specs.Step.{slope}
use Rattle.course.proofs.objective.Given as goal

abbrev pub invariant-loop-k : goal.invariant-loop-k
invariant-loop-k l = (l.k ≤ l.n) × (l.v ≡ sum_of (read_in l.g.nu l.g.n l.f).weights (slope l.g l.m l.y (ceilings_of l.costs.pos l.costs.neg) (read_in l.g.nu l.g.n l.f)) (λ q. l.p) l.k)
