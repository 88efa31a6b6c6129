-- The four entries: refusals, else the run and its answer (the rule, sections 'What a caller lends and gets' and 'Fits').
use Rattle.std.specs.Prelude.{ℕ, Bool, true, false, ◌&&◌, List, eqb, Float, length, ⊤, Result, Ok, Err}
use Rattle.alpha.specs.Weight.{one, minus_one}
use Rattle.answer.specs.Lent.{Lent, lent, Whole, untouched}
use Rattle.answer.specs.Solved.{solved}
use Rattle.answer.specs.declared.Finish.{Finish}
use Rattle.answer.specs.declared.Finish.TheVariants.{Plain, Signed, Scaled}
use Rattle.fits.specs.Load.{loaded}
use Rattle.fits.specs.Starts.{nothing, evenly, all_positive, costs_to, half, shared_to, one_class_to}
use Rattle.judge.specs.Judge.{general_judged, c_judged, nu_judged, one_class_judged, floor_judged}
use Rattle.judge.specs.Sizes.{sizes}
use Rattle.kernel.specs.declared.Kind.{Kind}
use Rattle.kernel.specs.declared.Kind.TheVariants.{TwoClass, OneClass}
use Rattle.solver.specs.declared.Given.{Given}
use Rattle.state.specs.Lists.{State, state}
use Rattle.tuning.specs.Tuning.{plain_tuning}
use Rattle.tuning.specs.declared.Tuning.{Tuning}
use Rattle.judge.specs.declared.Refusal.{Refusal}

abbrev pub given_by : Tuning → ℕ → Kind → Float → Bool → Bool → Given
given_by t n kind eps shrinking nu = record { n = n; side = n; kind = kind; mode = t.mode; floor = t.floor; eps = eps; shrinking = shrinking; nu = nu }

-- ---- the parts that all entries share

abbrev pub scratch_of : Lent → State
scratch_of d = state d.floats d.numbers d.bytes

-- labels l, ceilings c, start weights a, linear terms p: loaded, then solved
unfoldable pub fitted : Given → Finish → List ℕ → List ℕ → List Float → List Float → List Float → ℕ → Lent → Whole
fitted g how m l c a p budget d =
    let s = loaded g.n l c a p (scratch_of d) in
    solved g how m l c budget (lent d.crate d.home s.floats s.numbers s.labels)

-- what is refused before the run leaves d as it was
unfoldable pub decided : Result ⊤ Refusal → Whole → Lent → Whole
decided (Ok x) w d = w
decided (Err refusal) w d = untouched (Err refusal) d

-- refusals 1 and 2
abbrev pub sizes_of : ℕ → Bool → List ℕ → Lent → Result ⊤ Refusal
sizes_of n inputs m d =
    sizes n inputs (length m) (length d.crate) (length d.home) (length d.floats) (length d.numbers) (length d.bytes)

-- ---- the entries, under a tuning t; what follows the sizes stands by itself

-- labels, ceilings, start alphas and linear term as lent
unfoldable pub general_tuned_sized : Tuning → ℕ → List ℕ → List ℕ → List Float → List Float → List Float → Bool → Float → Bool → ℕ → Lent → Whole
general_tuned_sized t n m l c a p nurule eps shrinking budget d =
    decided
    (floor_judged t.floor (general_judged n m l c a p eps budget))
    (fitted (given_by t n TwoClass eps shrinking nurule) Plain m l c a p budget d)
    d

unfoldable pub general_tuned : Tuning → ℕ → List ℕ → List ℕ → List Float → List Float → List Float → Bool → Float → Bool → ℕ → Lent → Whole
general_tuned t n m l c a p nurule eps shrinking budget d =
    let inputs = eqb (length l) n && eqb (length c) n && eqb (length a) n && eqb (length p) n in
    decided (sizes_of n inputs m d) (general_tuned_sized t n m l c a p nurule eps shrinking budget d) d

-- alpha 0, linear term −1, ceilings by label; signed by label
unfoldable pub fit_c_tuned_sized : Tuning → ℕ → List ℕ → List ℕ → Float → Float → Float → Bool → ℕ → Lent → Whole
fit_c_tuned_sized t n m l cpos cneg eps shrinking budget d =
    decided
    (floor_judged t.floor (c_judged n m l cpos cneg eps budget))
    (fitted (given_by t n TwoClass eps shrinking false) Signed m l (costs_to cpos cneg l nothing n) nothing (evenly minus_one n) budget d)
    d

unfoldable pub fit_c_tuned : Tuning → ℕ → List ℕ → List ℕ → Float → Float → Float → Bool → ℕ → Lent → Whole
fit_c_tuned t n m l cpos cneg eps shrinking budget d =
    decided (sizes_of n (eqb (length l) n) m d) (fit_c_tuned_sized t n m l cpos cneg eps shrinking budget d) d

-- alpha shared out by label, linear term 0, ceilings 1; signed by label and divided by r
unfoldable pub fit_nu_tuned_sized : Tuning → ℕ → List ℕ → List ℕ → Float → Float → Bool → ℕ → Lent → Whole
fit_nu_tuned_sized t n m l nu eps shrinking budget d =
    decided
    (floor_judged t.floor (nu_judged n m l nu eps budget))
    (fitted (given_by t n TwoClass eps shrinking true) Scaled m l (evenly one n) (shared_to (half nu n) l nothing n) nothing budget d)
    d

unfoldable pub fit_nu_tuned : Tuning → ℕ → List ℕ → List ℕ → Float → Float → Bool → ℕ → Lent → Whole
fit_nu_tuned t n m l nu eps shrinking budget d =
    decided (sizes_of n (eqb (length l) n) m d) (fit_nu_tuned_sized t n m l nu eps shrinking budget d) d

-- no labels: all are positive, and no entry is negated
unfoldable pub fit_one_class_tuned_sized : Tuning → ℕ → List ℕ → Float → Float → Bool → ℕ → Lent → Whole
fit_one_class_tuned_sized t n m nu eps shrinking budget d =
    decided
    (floor_judged t.floor (one_class_judged n m nu eps budget))
    (fitted (given_by t n OneClass eps shrinking false) Plain m (all_positive n) (evenly one n) (one_class_to nu n nothing n) nothing budget d)
    d

unfoldable pub fit_one_class_tuned : Tuning → ℕ → List ℕ → Float → Float → Bool → ℕ → Lent → Whole
fit_one_class_tuned t n m nu eps shrinking budget d = decided (sizes_of n true m d) (fit_one_class_tuned_sized t n m nu eps shrinking budget d) d

-- ---- as the published Rust runs

abbrev pub given_of : ℕ → Kind → Float → Bool → Bool → Given
given_of = given_by plain_tuning

abbrev pub general_of : ℕ → List ℕ → List ℕ → List Float → List Float → List Float → Bool → Float → Bool → ℕ → Lent → Whole
general_of = general_tuned plain_tuning

abbrev pub fit_c_of : ℕ → List ℕ → List ℕ → Float → Float → Float → Bool → ℕ → Lent → Whole
fit_c_of = fit_c_tuned plain_tuning

abbrev pub fit_nu_of : ℕ → List ℕ → List ℕ → Float → Float → Bool → ℕ → Lent → Whole
fit_nu_of = fit_nu_tuned plain_tuning

abbrev pub fit_one_class_of : ℕ → List ℕ → Float → Float → Bool → ℕ → Lent → Whole
fit_one_class_of = fit_one_class_tuned plain_tuning
