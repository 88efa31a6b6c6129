-- What the steps of a run leave of a sample's weight.
use Rattle.std.specs.Prelude.{ℕ, ◌<◌, cond, List, [], ◌∷◌, ◌≡◌, eqb, Float}
use Rattle.readings.specs.Order.{weight_in, Perm}
use Rattle.state.specs.Fields.{sample}
use Rattle.state.specs.Lists.{Problem, State, Ready}
use Rattle.trace.specs.Trace.{Step}

-- what step e leaves of the weight x of sample s
unfoldable pub left_by : Step → ℕ → Float → Float
left_by e s x = cond (eqb s e.sample_j) e.left_j (cond (eqb s e.sample_i) e.left_i x)

-- what the last of the steps that chose sample s left, and x where none did
unfoldable pub last_left : List Step → ℕ → Float → Float
last_left [] s x = x
last_left (e ∷ es) s x = last_left es s (left_by e s x)

-- the weight at each position is what x says of its sample
pub record Told (p : Problem) (x : ℕ → Float) (s : State) : Type 0 where
  pub ready : Ready p s
  pub order : Perm p.n s.numbers
  pub weights : (k : ℕ) → k < p.n → weight_in p.n s.floats k ≡ x (sample s k)
