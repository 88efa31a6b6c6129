use Prim.Native.Nat.{◌≤◌, ◌<◌}
use mathlib.Core.Path.{◌≡◌}
use lib.ListN.{get_or}
use Rattle.votes.specs.Votes.{winner_to}
use Rattle.votes.proofs.winner.Given as goal

abbrev pub invariant-loop-x : goal.invariant-loop-x
invariant-loop-x l = (l.x ≤ l.k) × (l.w < 12) × (l.w ≡ winner_to (λ y. get_or l.t y 0) l.x)
