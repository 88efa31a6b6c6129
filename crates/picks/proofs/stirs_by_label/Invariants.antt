use Prim.Native.Nat.{◌≤◌}
use mathlib.Core.Path.{◌≡◌}
use Rattle.picks.specs.Follow.{stirred_to, by_label}
use Rattle.picks.proofs.stirs_by_label.Given as goal

abbrev pub invariant-loop-k : goal.invariant-loop-k
invariant-loop-k l = (l.k ≤ 8) × (l.any ≡ stirred_to l.g l.m l.f (by_label l.y l.p l.q) l.bar l.t l.k)
