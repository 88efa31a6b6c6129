use Prim.Native.Nat.{◌+◌, ◌≤◌, min}
use mathlib.Core.Path.{◌≡◌}
use Rattle.votes.specs.Votes.{pair_start}
use Rattle.votes.proofs.total.Given as goal

abbrev pub invariant-loop-i : goal.invariant-loop-i
invariant-loop-i l = (l.i ≤ l.n) × (l.all ≤ l.most + 1) × (l.all ≡ min (pair_start l.held l.i) (l.most + 1))
