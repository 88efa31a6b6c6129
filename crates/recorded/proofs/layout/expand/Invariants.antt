use Prim.Native.Nat.{◌≤◌}
use mathlib.Core.Path.{◌≡◌}
use lib.ListN.{length}
use Rattle.recorded.specs.Record.{expanded_to}
use Rattle.recorded.proofs.layout.expand.Given as goal

abbrev pub invariant-loop-k : goal.invariant-loop-k
invariant-loop-k l = (l.k ≤ l.n) × (length l.m ≡ length l.initial.m) × (l.m ≡ expanded_to l.s l.initial.m l.k)
