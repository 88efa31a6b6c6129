use Prim.Native.Nat.{◌-◌}
use mathlib.Core.Path.{◌≡◌}
use Rattle.reconstruct.specs.Reconstruct.{fresh_to}
use Rattle.reconstruct.proofs.freshen.Given as goal

abbrev pub invariant-loop-k : goal.invariant-loop-k
invariant-loop-k l = l.f ≡ fresh_to l.n l.a l.initial.f (l.k - l.a)
