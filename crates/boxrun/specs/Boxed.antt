-- What every state of a run keeps where all places have one ceiling b.
use Rattle.std.specs.Prelude.{ℕ, ◌+◌, ◌*◌, ◌≤◌, ◌<◌, List, ◌≡◌, Float, get_or}
use Rattle.std.specs.Float.{nan}
use Rattle.boxed.specs.Range.{Ceiling, Held, Entry, Divides}
use Rattle.kernel.specs.Matrix.{entry_at}
use Rattle.state.specs.Fields.{alpha, bound}
use Rattle.state.specs.Lists.{Problem, State, Ready}
use Rattle.wire.specs.Wire.{float_at}

-- what is given: one ceiling for all places, entries of magnitude 2^1000 at the most, and a floor above 0
pub record OneCeiling (p : Problem) (floor b : Float) (bs : List Float) : Type 0 where
  pub ceiling : Ceiling b
  pub places : (k : ℕ) → k < p.n → bound bs k ≡ b
  pub entries : (k : ℕ) → k < p.side * p.side → Entry (float_at p.matrix (8 * k))
  pub floor_above : Divides floor

-- before the start: every weight is from 0 to b under the ceiling b, and labels are 0 or 1
pub record LentBoxed (b : Float) (p : Problem) (s : State) : Type 0 where
  pub ready : Ready p s
  pub held : (k : ℕ) → k < p.n → Held b (alpha p s k)
  pub label : (k : ℕ) → k < p.n → get_or s.labels k 0 ≤ 1

-- from then on the diagonal field is the matrix's, too
pub record Boxed (b : Float) (p : Problem) (s : State) : Type 0 where
  pub lent : LentBoxed b p s
  pub own : (c : ℕ) → c < p.side → get_or s.floats (5 * p.n + c) nan ≡ entry_at p.side p.matrix c c
