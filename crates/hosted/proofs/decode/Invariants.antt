use Prim.Native.Nat.{◌≤◌}
use mathlib.Core.Path.{◌≡◌}
use lib.ListN.{length}
use Rattle.hosted.specs.Hosted.{decoded_to}
use Rattle.hosted.proofs.decode.Given as goal

abbrev pub invariant-loop-k : goal.invariant-loop-k
invariant-loop-k l = (l.k ≤ l.n) × (length l.d ≡ length l.initial.d) × (l.d ≡ decoded_to l.b l.initial.d l.k)
