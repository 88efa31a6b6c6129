use Prim.Native.Nat.{◌≤◌, ◌-◌}
use mathlib.Core.Path.{◌≡◌}
use Rattle.judge.specs.declared.Refusal.TheVariants.{Label}
use Rattle.judge.specs.Judge.{first, label_good}
use Rattle.judge.proofs.labels_judged.Given as goal

abbrev pub invariant-loop-i : goal.invariant-loop-i
invariant-loop-i l = (l.i ≤ l.n) × (first Label (label_good l.l) l.n 0 ≡ first Label (label_good l.l) (l.n - l.i) l.i)
