-- What the entry with retired samples trains, and the run over what stands behind its answer.
use Rattle.std.specs.Prelude.{ℕ, Bool, false, List, Float, get_or, Option}
use Rattle.std.specs.Float.{nan}
use Rattle.answer.specs.Lent.{Lent}
use Rattle.answer.specs.declared.Finish.TheVariants.{Plain}
use Rattle.boxed.specs.Delta.{delta_at}
use Rattle.classification.specs.Entries.{given_by}
use Rattle.kernel.specs.declared.Kind.TheVariants.{TwoClass}
use Rattle.retired.specs.Silenced.{silenced}
use Rattle.retired.specs.Differ.{Input}
use Rattle.retired.specs.Entry.{kept}
use Rattle.solver.specs.Run.{problem_of, Full}
use Rattle.standing.specs.Run.{chosen_over, runs_over, traced_over}
use Rattle.state.specs.Fields.{alpha}
use Rattle.trace.specs.Trace.{Step, start_of}
use Rattle.travel.specs.Home.{last_left}
use Rattle.tuning.specs.declared.Tuning.{Tuning}
use Rattle.promises.specs.Fit.{Fit, start_from}

-- the input x with the retired bytes r
abbrev pub retired_fit : Tuning → ℕ → Input → List ℕ → Bool → Float → Fit
retired_fit t n x r nurule eps =
    record { given = given_by t n TwoClass eps false nurule; how = Plain; labels = x.labels; ceilings = x.ceilings; weights = kept r x.weights n; terms = kept r x.terms n }

-- what the code trains by the rule itself: the linear term of who is retired is NaN
abbrev pub silent_fit : Tuning → ℕ → Input → List ℕ → Bool → Float → Fit
silent_fit t n x r nurule eps =
    record { given = given_by t n TwoClass eps false nurule; how = Plain; labels = x.labels; ceilings = x.ceilings; weights = kept r x.weights n; terms = silenced r x.terms n }

-- m is the matrix, d what is lent beside the inputs
module _ (stands : ℕ → Bool) (k : Fit) (m : List ℕ) (d : Lent) where
  abbrev first_over : Full
  first_over = start_of k.given m k.ceilings (start_from k m d)

  -- after t passes
  abbrev pub after_over : ℕ → Full
  after_over t = runs_over stands k.given m k.ceilings first_over t

  -- the weight at position i then
  abbrev pub weight_over : ℕ → ℕ → Float
  weight_over t i = (alpha (problem_of k.given m) (after_over t).state i).value

  -- the pair that is chosen then, and its step before it is clipped
  abbrev pub pair_over : ℕ → Option (ℕ × ℕ)
  pair_over t = chosen_over stands k.given m (after_over t).state

  abbrev pub delta_over : ℕ → ℕ → ℕ → Float
  delta_over t i j = delta_at (problem_of k.given m) (after_over t).state k.given.floor i j

  -- the steps, pass for pass
  abbrev pub steps_over : ℕ → List Step
  steps_over budget = traced_over stands k.given m k.ceilings first_over budget

  -- sample s at home: its start weight, or what the last step that chose it left
  abbrev pub own_over : ℕ → ℕ → Float
  own_over budget s = last_left (steps_over budget) s (get_or k.weights s nan)
