-- What each entry trains, and the run behind its answer.
use Rattle.std.specs.Prelude.{ℕ, ◌≤◌, Bool, true, false, List, ◌≡◌, Float, length, get_or, Option}
use Rattle.std.specs.Float.{nan}
use Rattle.alpha.specs.Weight.{one, minus_one}
use Rattle.answer.specs.Answer.{coefficient_of}
use Rattle.answer.specs.Lent.{Lent}
use Rattle.answer.specs.Solved.{level_at}
use Rattle.answer.specs.declared.Finish.{Finish}
use Rattle.answer.specs.declared.Finish.TheVariants.{Plain, Signed, Scaled}
use Rattle.boxed.specs.Delta.{delta_at}
use Rattle.classification.specs.Entries.{given_by, scratch_of}
use Rattle.fits.specs.Load.{loaded}
use Rattle.fits.specs.Starts.{nothing, evenly, all_positive, costs_to, half, shared_to, one_class_to}
use Rattle.kernel.specs.declared.Kind.TheVariants.{TwoClass, OneClass}
use Rattle.solver.specs.End.{trained}
use Rattle.solver.specs.Pass.{counted_down, runs}
use Rattle.solver.specs.Run.{problem_of, Full}
use Rattle.solver.specs.declared.Given.{Given}
use Rattle.state.specs.Fields.{alpha}
use Rattle.state.specs.Lists.{State}
use Rattle.trace.specs.Trace.{Step, look_at, pair_from, start_of, traced}
use Rattle.travel.specs.Home.{last_left}
use Rattle.tuning.specs.declared.Tuning.{Tuning}

pub record Fit : Type 0 where
  pub given : Given
  pub how : Finish
  pub labels : List ℕ
  pub ceilings : List Float
  pub weights : List Float
  pub terms : List Float

abbrev pub general_fit : Tuning → ℕ → List ℕ → List Float → List Float → List Float → Bool → Float → Bool → Fit
general_fit t n l c a p nurule eps shrinking =
    record { given = given_by t n TwoClass eps shrinking nurule; how = Plain; labels = l; ceilings = c; weights = a; terms = p }

abbrev pub c_fit : Tuning → ℕ → List ℕ → Float → Float → Float → Bool → Fit
c_fit t n l cpos cneg eps shrinking =
    record { given = given_by t n TwoClass eps shrinking false; how = Signed; labels = l; ceilings = costs_to cpos cneg l nothing n; weights = nothing; terms = evenly minus_one n }

abbrev pub nu_fit : Tuning → ℕ → List ℕ → Float → Float → Bool → Fit
nu_fit t n l nu eps shrinking =
    record { given = given_by t n TwoClass eps shrinking true; how = Scaled; labels = l; ceilings = evenly one n; weights = shared_to (half nu n) l nothing n; terms = nothing }

abbrev pub one_class_fit : Tuning → ℕ → Float → Float → Bool → Fit
one_class_fit t n nu eps shrinking =
    record { given = given_by t n OneClass eps shrinking false; how = Plain; labels = all_positive n; ceilings = evenly one n; weights = one_class_to nu n nothing n; terms = nothing }

-- m is the matrix, d what is lent beside the inputs
module _ (k : Fit) (m : List ℕ) (d : Lent) where
  abbrev pub start_from : State
  start_from = loaded k.given.n k.labels k.ceilings k.weights k.terms (scratch_of d)

  -- after t passes
  abbrev pub after : ℕ → Full
  after t = runs k.given m k.ceilings (start_of k.given m k.ceilings start_from) t

  -- the weight at position i then
  abbrev pub weight_after : ℕ → ℕ → Float
  weight_after t i = (alpha (problem_of k.given m) (after t).state i).value

  -- the pair with which the next pass steps, and its step before it is clipped
  abbrev pub pair_after : ℕ → Option (ℕ × ℕ)
  pair_after t = pair_from k.given m (after t)

  abbrev pub delta_after : ℕ → ℕ → ℕ → Float
  delta_after t i j = delta_at (problem_of k.given m) (look_at k.given m (counted_down k.given m (after t))).state k.given.floor i j

  abbrev pub run_of : ℕ → Full
  run_of budget = trained k.given m k.ceilings budget start_from

  -- its steps, pass for pass
  abbrev pub steps_taken : ℕ → List Step
  steps_taken budget = traced k.given m k.ceilings (start_of k.given m k.ceilings start_from) budget

  -- a count of iterations c is that of the steps, at most the budget
  abbrev pub Counts : ℕ → ℕ → Type 0
  Counts budget c = (c ≡ length (steps_taken budget)) × (c ≤ budget)

  abbrev pub r_of : ℕ → Float
  r_of budget = (level_at k.given (run_of budget)).r

  -- sample s at home: its start weight, or what the last step that chose it left; signed and divided as the entry answers
  abbrev pub own_weight : ℕ → ℕ → Float
  own_weight budget s = coefficient_of k.how (get_or k.labels s 0) (r_of budget) (last_left (steps_taken budget) s (get_or k.weights s nan))
