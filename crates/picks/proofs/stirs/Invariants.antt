use Prim.Native.Nat.{◌≤◌}
use mathlib.Core.Path.{◌≡◌}
use Rattle.picks.specs.Follow.{stirred_to}
use Rattle.picks.proofs.stirs.Given as goal

abbrev pub invariant-loop-k : goal.invariant-loop-k
invariant-loop-k l = (l.k ≤ 8) × (l.any ≡ stirred_to l.g l.m l.f (λ j. l.l) l.bar l.t l.k)
