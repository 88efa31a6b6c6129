-- What a training without an order table works on (the rule, section 'Without an order table'). Of each sample it keeps F, the label times the gradient, in copies that say
-- by themselves what the sample may do: nobody asks for a weight when a pair is chosen, and for a label only with the nu rule.
use Rattle.std.specs.Prelude.{ℕ, ◌+◌, ◌*◌, Bool, true, cond, List, Float, get_or}
use Rattle.std.specs.Float.{nan}
use Rattle.alpha.specs.Weight.{weight}
use Rattle.alpha.specs.declared.Alpha.{Alpha}
use Rattle.choose_nu.specs.Choice.{of_label}
use Rattle.kernel.specs.Matrix.{entry_at}
use Rattle.partner.specs.Sides.{rises_of}
use Rattle.rho.specs.Rho.{positive_in}
use Rattle.solver.specs.declared.Given.{Given}

-- What is read at each sample. `up t` is F where the sample may rise and be the first of a pair whose second has label t, and +infinity elsewhere: the
-- same for both labels with the C rule. `down` is F where the sample may fall, and -infinity elsewhere
pub record Sheet : Type 0 where
  pub up : Bool → ℕ → Float
  pub down : ℕ → Float
  pub weights : ℕ → Float

-- where the sheet stands in the lent floats: the one `up` or that of the positives at 0, weights at n, the diagonal at 2n, `down` at 3n, and
-- with the nu rule the `up` of the negatives at 4n
abbrev pub up_field : Bool → ℕ → Bool → ℕ
up_field nu n t = cond nu (cond t 0 (4 * n)) 0

abbrev pub sized : Bool → ℕ → ℕ
sized nu n = cond nu (5 * n) (4 * n)

abbrev pub read_in : Bool → ℕ → List Float → Sheet
read_in nu n f =
    record {
      up = λ t k. get_or f (up_field nu n t + k) nan;
      down = λ k. get_or f (3 * n + k) nan;
      weights = λ k. get_or f (n + k) nan;
    }

-- the entry of samples i and k
abbrev pub entry : Given → List ℕ → ℕ → ℕ → Float
entry g m i k = entry_at g.side m i k

-- whether a sample of label pos is sought where label t is asked: with the C rule each is
abbrev pub sought : Bool → Bool → Bool → Bool
sought nu t pos = cond nu (of_label t pos) true

-- cpos is the ceiling of the positives, cneg that of the negatives
abbrev pub ceilings_of : Float → Float → Bool → Float
ceilings_of cpos cneg t = cond t cpos cneg

-- y are the labels, top the ceiling of each label
module _ (y : List ℕ) (top : Bool → Float) where
  -- the weight of sample k under the ceiling of its label
  abbrev pub alpha_of : Sheet → ℕ → Alpha
  alpha_of o k = weight (o.weights k) (top (positive_in y k))

  abbrev pub rises : Sheet → ℕ → Bool
  rises o k = rises_of (positive_in y k) (alpha_of o k)

  -- F of sample k, from a copy that is open
  abbrev pub own : Sheet → ℕ → Float
  own o k = cond (rises o k) (o.up (positive_in y k) k) (o.down k)
