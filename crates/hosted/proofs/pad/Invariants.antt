use Prim.Native.Nat.{◌≤◌}
use mathlib.Core.Path.{◌≡◌}
use lib.ListN.{length}
use Rattle.hosted.specs.Hosted.{zeroed_to}
use Rattle.hosted.proofs.pad.Given as goal

abbrev pub invariant-loop-k : goal.invariant-loop-k
invariant-loop-k l = (l.k ≤ 7) × (length l.out ≡ length l.initial.out) × (l.out ≡ zeroed_to l.initial.out l.k)
