use Prim.Native.Nat.{◌≤◌}
use mathlib.Core.Path.{◌≡◌}
use Rattle.answer.specs.Answer.{support_of}
use Rattle.answer.proofs.support.Given as goal

abbrev pub invariant-loop-k : goal.invariant-loop-k
invariant-loop-k l = (l.k ≤ l.n) × (l.t ≤ l.k) × (l.t ≡ support_of l.h l.k)
