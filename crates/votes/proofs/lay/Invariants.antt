use Prim.Native.Nat.{◌≤◌}
use mathlib.Core.Path.{◌≡◌}
use lib.ListN.{length, get_or}
use Rattle.votes.specs.Entry.{votes_laid}
use Rattle.votes.proofs.lay.Given as goal

abbrev pub invariant-loop-x : goal.invariant-loop-x
invariant-loop-x l = (l.x ≤ l.k) × (length l.votes ≡ length l.initial.votes) × (l.votes ≡ votes_laid (λ y. get_or l.t y 0) l.initial.votes l.x)
