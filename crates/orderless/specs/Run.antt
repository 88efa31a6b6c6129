-- Start and run of a training without an order table (the rule, section 'Without an order table'): no counter, no second look, nothing active or inactive.
use Rattle.std.specs.Prelude.{ℕ, zero, suc, ◌+◌, Bool, true, false, cond, List, Float, get_or, set, Option, Some, None}
use Rattle.std.specs.Float.{nan, binary64}
use Rattle.std.specs.Float.Ieee.{mul, eq}
use Rattle.alpha.specs.Weight as Weight
use Rattle.kernel.specs.Row.{signed_of}
use Rattle.rho.specs.Rho.{positive_in}
use Rattle.solver.specs.declared.Given.{Given}
use Rattle.orderless.specs.Sheet.{read_in, entry}
use Rattle.orderless.specs.Choice.{choice_in}
use Rattle.orderless.specs.Step.{raised, put_in, weight_to, steps}

-- the first places, each as v says
unfoldable pub spread : (ℕ → Float) → List Float → ℕ → List Float
spread v l zero = l
spread v l (suc k) = set (spread v l k) k (v k)

-- to the first places, each what d says
unfoldable pub raised_to : (ℕ → Float) → List Float → ℕ → List Float
raised_to d l zero = l
raised_to d l (suc k) = raised (raised_to d l k) k (d k)

-- the lent floats, the steps so far, and whether there may be more
pub record Course : Type 0 where
  pub floats : List Float
  pub steps : ℕ
  pub going : Bool

abbrev pub course : List Float → ℕ → Bool → Course
course l t x = record { floats = l; steps = t; going = x }

module _ (g : Given) (m y : List ℕ) (top : Bool → Float) where
  -- ---- start: term are the linear terms, and the weights stand in l

  module _ (term : ℕ → Float) (l : List Float) where
    -- F from the linear term, and for each of the first samples that isn't at 0 its weight times its row
    unfoldable pub brought_to : ℕ → List Float
    brought_to zero = spread (λ k. signed_of (positive_in y k) (term k)) l g.n
    brought_to (suc i) =
        let f = brought_to i in
        let v = get_or f (g.n + i) nan in
        cond (eq v Weight.zero) f (raised_to (λ k. mul binary64 (signed_of (positive_in y i) v) (entry g m i k)) f g.n)

  -- the copies of the first samples, from F
  unfoldable pub opened_to : List Float → ℕ → List Float
  opened_to l zero = l
  opened_to l (suc k) =
      let f = opened_to l k in
      put_in g.nu g.n f k (positive_in y k) (weight_to g m y top k (get_or f (g.n + k) nan)) (get_or f k nan)

  abbrev pub opened : (ℕ → Float) → List Float → List Float
  opened term l = opened_to (brought_to term l g.n) g.n

  -- ---- passes

  unfoldable pub passes : Course → Option (ℕ × ℕ) → Course
  passes v (Some (i, j)) = course (steps g m y top v.floats i j) (v.steps + 1) true
  passes v None = course v.floats v.steps false

  -- the first t passes
  unfoldable pub goes_on : Course → ℕ → Course
  goes_on v zero = v
  goes_on v (suc t) = let w = goes_on v t in cond w.going (passes w (choice_in g m y (read_in g.nu g.n w.floats))) w

  -- the whole
  unfoldable pub orderless : (ℕ → Float) → List Float → ℕ → Course
  orderless term l budget = goes_on (course (opened term l) 0 true) budget
