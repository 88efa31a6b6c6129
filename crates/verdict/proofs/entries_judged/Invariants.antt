use Prim.Native.Nat.{◌≤◌, ◌-◌}
use mathlib.Core.Path.{◌≡◌}
use Rattle.judge.specs.declared.Refusal.TheVariants.{Kernel}
use Rattle.judge.specs.Judge.{first, entry_good}
use Rattle.verdict.proofs.entries_judged.Given as goal

abbrev pub invariant-loop-i : goal.invariant-loop-i
invariant-loop-i l = (l.i ≤ l.e) × (first Kernel (entry_good l.m) l.e 0 ≡ first Kernel (entry_good l.m) (l.e - l.i) l.i)
