use Prim.Native.Nat.{◌≤◌}
use mathlib.Core.Path.{◌≡◌}
use Rattle.state.specs.Lists.{state, Ready}
use Rattle.solver.specs.Run.{problem_of, Full, full, Sound}
use Rattle.solver.specs.Pass.{runs}
use Rattle.solver.proofs.solve.Given as goal

abbrev pub invariant-loop : goal.invariant-loop
invariant-loop l = (l.r.iterations ≤ l.counter) × (Sound l.g.n l.r)
    × (◌≡◌ {A = Full} (full l.r l.f l.u l.y) (runs l.g l.m l.b (full l.initial.r l.initial.f l.initial.u l.initial.y) l.counter))
    × (Ready (problem_of l.g l.m) (state l.f l.u l.y))
