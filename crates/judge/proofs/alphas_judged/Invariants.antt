use Prim.Native.Nat.{◌≤◌, ◌-◌}
use mathlib.Core.Path.{◌≡◌}
use Rattle.judge.specs.declared.Refusal.TheVariants.{Alpha}
use Rattle.judge.specs.Judge.{first, alpha_good}
use Rattle.judge.proofs.alphas_judged.Given as goal

abbrev pub invariant-loop-i : goal.invariant-loop-i
invariant-loop-i l = (l.i ≤ l.n) × (first Alpha (alpha_good l.a l.c) l.n 0 ≡ first Alpha (alpha_good l.a l.c) (l.n - l.i) l.i)
