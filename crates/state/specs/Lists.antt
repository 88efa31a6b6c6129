-- What a run is given, and the three lent lists that it works on (the rule, section 'What a caller lends and gets').
use Rattle.std.specs.Prelude.{ℕ, ◌*◌, ◌≤◌, List, Float, length}
use Rattle.kernel.specs.Matrix.{Matrix}
use Rattle.kernel.specs.Row.{Indexed}
use Rattle.kernel.specs.declared.Kind.{Kind}
use Rattle.kernel.specs.declared.Problem.{Problem as Given}

-- n positions over a matrix of side·side entries
pub record Problem : Type 0 where
  pub n : ℕ
  pub side : ℕ
  pub kind : Kind
  pub matrix : List ℕ

abbrev pub problem : ℕ → ℕ → Kind → List ℕ → Problem
problem n side kind m = record { n = n; side = side; kind = kind; matrix = m }

-- as the code holds it
abbrev pub given : Given → Problem
given p = problem p.n p.side p.kind p.matrix.now

pub record State : Type 0 where
  pub floats : List Float
  pub numbers : List ℕ
  pub labels : List ℕ

abbrev pub state : List Float → List ℕ → List ℕ → State
state f u y = record { floats = f; numbers = u; labels = y }

-- the same numbers and labels, other floats
abbrev pub over : State → List Float → State
over s f = state f s.numbers s.labels

-- every list is long enough, and every kernel index has its column
pub record Ready (p : Problem) (s : State) : Type 0 where
  pub matrix : Matrix p.side p.matrix
  pub indexed : Indexed p.side p.n s.numbers
  pub square : p.side ≤ p.n
  pub floats : 7 * p.n ≤ length s.floats
  pub labels : p.n ≤ length s.labels
