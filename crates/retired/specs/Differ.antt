-- Two trainings that differ only in what belongs to retired samples: labels, ceilings, start alphas, linear terms, kernel rows and columns.
use Rattle.std.specs.Prelude.{ℕ, ◌<◌, Bool, true, List, ◌≡◌, Float, get_or}
use Rattle.std.specs.Float.{nan}
use Rattle.answer.specs.Lent.{Lent, Whole}
use Rattle.kernel.specs.Matrix.{entry_at}
use Rattle.tuning.specs.declared.Tuning.{Tuning}
use Rattle.retired.specs.Entry.{stands_in, retired_tuned}

pub record Input : Type 0 where
  pub matrix : List ℕ
  pub labels : List ℕ
  pub ceilings : List Float
  pub weights : List Float
  pub terms : List Float

-- the entry on it, with the retired bytes r
abbrev pub retired_for : Tuning → Input → ℕ → List ℕ → Bool → Float → Bool → ℕ → Lent → Whole
retired_for t x n r nurule eps shrinking budget d = retired_tuned t n x.matrix x.labels x.ceilings x.weights x.terms r nurule eps shrinking budget d

-- wherever a sample stands, or two do, x and y have the same
pub record DifferRetired (n : ℕ) (r : List ℕ) (x y : Input) : Type 0 where
  pub labels : (k : ℕ) → k < n → stands_in r k ≡ true → get_or x.labels k 0 ≡ get_or y.labels k 0
  pub ceilings : (k : ℕ) → k < n → stands_in r k ≡ true → get_or x.ceilings k nan ≡ get_or y.ceilings k nan
  pub weights : (k : ℕ) → k < n → stands_in r k ≡ true → get_or x.weights k nan ≡ get_or y.weights k nan
  pub terms : (k : ℕ) → k < n → stands_in r k ≡ true → get_or x.terms k nan ≡ get_or y.terms k nan
  pub entries : (i k : ℕ) → i < n → k < n → stands_in r i ≡ true → stands_in r k ≡ true → entry_at n x.matrix i k ≡ entry_at n y.matrix i k
