use Prim.Native.Nat.{◌≤◌}
use mathlib.Core.Bool.{true}
use mathlib.Core.Path.{◌≡◌}
use Rattle.judge.specs.Judge.{entry_good}
use Rattle.verdict.proofs.Quick.{Each}
use Rattle.verdict.proofs.all_small.Given as goal

abbrev pub invariant-loop-k : goal.invariant-loop-k
invariant-loop-k l = (l.k ≤ l.e) × (l.small ≡ true → Each (entry_good l.m) l.k)
