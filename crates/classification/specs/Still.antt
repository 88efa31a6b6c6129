-- What a run with shrinking off leaves as it was.
use Rattle.std.specs.Prelude.{ℕ, false, List, ◌≡◌}
use Rattle.answer.specs.Solved.{stuck}
use Rattle.solver.specs.Run.{Full}

-- the order and kernel indices are u, all n are active, and nothing was refused
pub record Still (u : List ℕ) (n : ℕ) (w : Full) : Type 0 where
  pub order : w.state.numbers ≡ u
  pub active : w.run.active ≡ n
  pub free : stuck w.run.status ≡ false
