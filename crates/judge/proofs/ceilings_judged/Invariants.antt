use Prim.Native.Nat.{◌≤◌, ◌-◌}
use mathlib.Core.Path.{◌≡◌}
use Rattle.judge.specs.declared.Refusal.TheVariants.{Ceiling}
use Rattle.judge.specs.Judge.{first, ceiling_good}
use Rattle.judge.proofs.ceilings_judged.Given as goal

abbrev pub invariant-loop-i : goal.invariant-loop-i
invariant-loop-i l = (l.i ≤ l.n) × (first Ceiling (ceiling_good l.c) l.n 0 ≡ first Ceiling (ceiling_good l.c) (l.n - l.i) l.i)
