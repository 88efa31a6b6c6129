use Prim.Native.Nat.{◌≤◌}
use mathlib.Core.Path.{◌≡◌}
use Rattle.votes.specs.Votes.{pair_sum_to}
use Rattle.votes.proofs.pair_sum.Given as goal

abbrev pub invariant-loop-i : goal.invariant-loop-i
invariant-loop-i l = (l.i ≤ l.n) × (l.sum ≡ pair_sum_to l.c l.v l.from l.i)
