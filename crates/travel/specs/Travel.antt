-- What stays with a sample (the rule, sections 'Moving' and 'Two readings').
use Rattle.std.specs.Prelude.{ℕ, ◌+◌, ◌*◌, ◌≤◌, ◌<◌, List, ◌≡◌, Float, length, get_or}
use Rattle.std.specs.Float.{nan}
use Rattle.kernel.specs.Row.{kernel_index}
use Rattle.readings.specs.Order.{Perm}
use Rattle.state.specs.Fields.{gradient, gradient_fixed, alpha_in, alpha, linear, sample}
use Rattle.state.specs.Lists.{Problem, State}

-- each position's kernel index is its sample number
pub record Paired (n : ℕ) (u : List ℕ) : Type 0 where
  pub same : (k : ℕ) → k < n → get_or u k 0 ≡ kernel_index n u k

-- as lent: position k holds sample k
pub record Fresh (n : ℕ) (s : State) : Type 0 where
  pub order : (k : ℕ) → k < n → sample s k ≡ k
  pub index : (k : ℕ) → k < n → kernel_index n s.numbers k ≡ k

-- each sample stands at one place, with its own kernel index, label and linear term
pub record Travelled (n : ℕ) (labels : ℕ → ℕ) (terms : ℕ → Float) (s : State) : Type 0 where
  pub order : Perm n s.numbers
  pub paired : Paired n s.numbers
  pub label : (k : ℕ) → k < n → get_or s.labels k 0 ≡ labels (sample s k)
  pub term : (k : ℕ) → k < n → get_or s.floats (4 * n + k) nan ≡ terms (sample s k)

-- and where ceilings travel, with its own ceiling
abbrev pub OwnCeilings : ℕ → (ℕ → Float) → State → Type 0
OwnCeilings n ceilings s = (k : ℕ) → k < n → (alpha_in n s.floats k).upper ≡ ceilings (sample s k)

-- t is s with its n positions in another order: position k of t holds all that position `from k` of s held
pub record Rearranged (p : Problem) (s t : State) : Type 0 where
  pub from : ℕ → ℕ
  pub to : ℕ → ℕ
  pub from_below : (k : ℕ) → k < p.n → from k < p.n
  pub to_below : (k : ℕ) → k < p.n → to k < p.n
  pub there : (k : ℕ) → k < p.n → from (to k) ≡ k
  pub back : (k : ℕ) → k < p.n → to (from k) ≡ k
  pub gradients : (k : ℕ) → k < p.n → gradient p t k ≡ gradient p s (from k)
  pub fixed : (k : ℕ) → k < p.n → gradient_fixed p t k ≡ gradient_fixed p s (from k)
  -- the weight with its ceiling
  pub weights : (k : ℕ) → k < p.n → alpha p t k ≡ alpha p s (from k)
  pub terms : (k : ℕ) → k < p.n → linear p t k ≡ linear p s (from k)
  pub samples : (k : ℕ) → k < p.n → sample t k ≡ sample s (from k)
  pub indexes : (k : ℕ) → k < p.n → kernel_index p.n t.numbers k ≡ kernel_index p.n s.numbers (from k)
  pub labels : (k : ℕ) → k < p.n → get_or t.labels k 0 ≡ get_or s.labels (from k) 0
  -- the diagonal, which goes by kernel index, and what lies behind it
  pub behind : (q : ℕ) → 5 * p.n ≤ q → get_or t.floats q nan ≡ get_or s.floats q nan

-- no sample moves from s to t
pub record Stays (n : ℕ) (s t : State) : Type 0 where
  pub numbers : t.numbers ≡ s.numbers
  pub labels : t.labels ≡ s.labels
  pub long : length t.floats ≡ length s.floats
  pub terms : (k : ℕ) → k < n → get_or t.floats (4 * n + k) nan ≡ get_or s.floats (4 * n + k) nan
