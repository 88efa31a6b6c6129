use Prim.Native.Nat.{◌≤◌}
use mathlib.Core.Path.{◌≡◌}
use Rattle.reconstruct.specs.Reconstruct.{free_to}
use Rattle.reconstruct.proofs.nfree.Given as goal

abbrev pub invariant-loop-k : goal.invariant-loop-k
invariant-loop-k l = (l.free ≡ free_to l.n l.f l.k) × (l.free ≤ l.k)
