use Prim.Native.Nat.{◌≤◌}
use mathlib.Core.Path.{◌≡◌}
use Rattle.judge.specs.Judge.{bytes_good}
use Rattle.judge.proofs.bytes_good.Given as goal

abbrev pub invariant-loop-k : goal.invariant-loop-k
invariant-loop-k l = (l.k ≤ l.n) × (l.good ≡ bytes_good l.r l.k)
