use Prim.Native.Nat.{◌≤◌, ◌-◌}
use mathlib.Core.Path.{◌≡◌}
use Rattle.judge.specs.declared.Refusal.TheVariants.{Linear}
use Rattle.judge.specs.Judge.{first, linear_good}
use Rattle.judge.proofs.linear_judged.Given as goal

abbrev pub invariant-loop-i : goal.invariant-loop-i
invariant-loop-i l = (l.i ≤ l.n) × (first Linear (linear_good l.p) l.n 0 ≡ first Linear (linear_good l.p) (l.n - l.i) l.i)
