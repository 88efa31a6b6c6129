use Prim.Native.Nat.{◌≤◌}
use mathlib.Core.Path.{◌≡◌}
use Rattle.picks.specs.Follow.{raced_from}
use Rattle.picks.proofs.raced_eight.Given as goal

abbrev pub invariant-loop-k : goal.invariant-loop-k
invariant-loop-k l = (l.k ≤ 8) × (l.r ≡ raced_from l.g l.m l.f (λ j. l.l) l.initial.r l.t l.k)
