use Prim.Native.Nat.{◌≤◌, ◌-◌}
use mathlib.Core.Path.{◌≡◌}
use Rattle.judge.specs.Judge.{first}
use Rattle.votes.specs.declared.Refusal.TheVariants.{Counts}
use Rattle.votes.specs.Entry.{counts_good}
use Rattle.votes.proofs.counts_judged.Given as goal

abbrev pub invariant-loop-pair : goal.invariant-loop-pair
invariant-loop-pair l = (l.pair ≤ l.n) × (first Counts (counts_good l.held l.valued) l.n 0 ≡ first Counts (counts_good l.held l.valued) (l.n - l.pair) l.pair)
