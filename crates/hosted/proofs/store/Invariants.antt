use Prim.Native.Nat.{◌≤◌}
use mathlib.Core.Path.{◌≡◌}
use lib.ListN.{length}
use Rattle.hosted.specs.Hosted.{stored_to}
use Rattle.hosted.proofs.store.Given as goal

abbrev pub invariant-loop-k : goal.invariant-loop-k
invariant-loop-k l = (l.k ≤ l.n) × (length l.b ≡ length l.initial.b) × (l.b ≡ stored_to l.d l.initial.b l.k)
