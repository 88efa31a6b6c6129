use Prim.Native.Nat.{ℕ, ◌≤◌, ◌<◌}
use mathlib.Core.Path.{◌≡◌}
use lib.ListN.{length, get_or}
use Rattle.votes.specs.Votes.{pairs_of, panel, sides_of, pair_start, votes_to}
use Rattle.votes.proofs.tally.Given as goal

abbrev pub invariant-loop-p : goal.invariant-loop-p
invariant-loop-p l = (l.p ≤ l.n) × (l.n ≡ pairs_of l.k) × (length l.t ≡ 12) × (l.s ≡ sides_of l.k l.p) × (l.start ≡ pair_start l.held l.p) × ((x : ℕ) → x < 12 → get_or l.t x 0 ≡ votes_to l.k (panel l.c l.v l.held l.valued l.rhos) l.p x)
