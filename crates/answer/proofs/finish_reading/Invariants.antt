use Prim.Native.Nat.{◌≤◌}
use mathlib.Core.Path.{◌≡◌}
use lib.ListN.{length}
use Rattle.answer.specs.Answer.{finished_to}
use Rattle.answer.proofs.finish_reading.Given as goal

abbrev pub invariant-loop-k : goal.invariant-loop-k
invariant-loop-k l = (l.k ≤ l.n) × (length l.d ≡ length l.initial.d) × (l.d ≡ finished_to l.how l.l l.r l.initial.d l.k)
