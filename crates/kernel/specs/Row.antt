-- Row i: the matrix column of position i's sample, read at each position's sample (the rule, section 'Kernel column').
use Rattle.std.specs.Prelude.{ℕ, ◌+◌, ◌*◌, ◌≤◌, ◌<◌, Bool, true, cond, List, eqb, Float, length, get_or}
use Rattle.std.specs.Float.Ieee.{neg}
use Rattle.kernel.specs.Matrix.{entry_at, Matrix}
use Rattle.kernel.specs.declared.Kind.{Kind}
use Rattle.kernel.specs.declared.Problem.{Problem}
use Rattle.kernel.specs.declared.Kind.TheVariants.{TwoClass, OneClass}

-- the kernel index of position k: the second field of the lent numbers
abbrev pub kernel_index : ℕ → List ℕ → ℕ → ℕ
kernel_index n u k = get_or u (n + k) 0

-- n positions, each with a kernel index below the matrix's side
pub record Indexed (side n : ℕ) (u : List ℕ) : Type 0 where
  pub small : n ≤ 512
  pub long : 2 * n ≤ length u
  pub below : (k : ℕ) → k < n → kernel_index n u k < side

-- a matrix, and for each position its kernel index in u and its label in y
abbrev pub Readable : Problem → List ℕ → List ℕ → Type 0
Readable p u y = Matrix p.side p.matrix.now × Indexed p.side p.n u × (p.n ≤ length y)

-- whether an entry between labels a and b keeps its sign
abbrev pub alike_of : Kind → ℕ → ℕ → Bool
alike_of TwoClass a b = eqb a b
alike_of OneClass a b = true

abbrev pub signed_of : Bool → Float → Float
signed_of alike x = cond alike x (neg x)

-- the row of kernel index c and label a, at position k: u are the lent numbers, y the labels by position
abbrev pub reach_of : Kind → ℕ → List ℕ → ℕ → ℕ → ℕ → List ℕ → List ℕ → ℕ → Float
reach_of kind side m c a n u y k = signed_of (alike_of kind a (get_or y k 0)) (entry_at side m c (kernel_index n u k))

-- row i at position k
unfoldable pub row_at : Kind → ℕ → List ℕ → ℕ → List ℕ → List ℕ → ℕ → ℕ → Float
row_at kind side m n u y i k = reach_of kind side m (kernel_index n u i) (get_or y i 0) n u y k
