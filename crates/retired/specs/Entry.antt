-- The entry with retired samples (the rule, section 'Retired samples'): refusals, else the run over what stands, and its answer.
use Rattle.std.specs.Prelude.{ℕ, zero, suc, Bool, false, ◌&&◌, cond, List, eqb, Float, length, get_or, set, Ok}
use Rattle.std.specs.Float.{nan}
use Rattle.alpha.specs.Weight as Weight
use Rattle.answer.specs.Answer.{support_of, ratio_of, reason_of}
use Rattle.answer.specs.Lent.{Lent, Whole, whole, cleared}
use Rattle.answer.specs.declared.Answer.{Answer}
use Rattle.classification.specs.Entries.{given_by, scratch_of, decided, sizes_of}
use Rattle.fits.specs.Load.{loaded}
use Rattle.fits.specs.Starts.{nothing}
use Rattle.judge.specs.Judge.{retired_judged}
use Rattle.kernel.specs.declared.Kind.TheVariants.{TwoClass}
use Rattle.readings.specs.Order.{crate_reading, home_reading, weight_in}
use Rattle.standing.specs.End.{level_over, objective_over}
use Rattle.standing.specs.Run.{trained_over}
use Rattle.modes.specs.Modes.{repaired}
use Rattle.rho.specs.declared.Level.{Level}
use Rattle.solver.specs.Run.{Full}
use Rattle.solver.specs.declared.Given.{Given}
use Rattle.tuning.specs.Tuning.{plain_tuning}
use Rattle.tuning.specs.declared.Tuning.{Tuning}

-- r are the retired bytes: sample k stands where its byte is 0
abbrev pub stands_in : List ℕ → ℕ → Bool
stands_in r k = eqb (get_or r k 0) 0

-- the first places of d are those of a, but x where a sample is retired
unfoldable pub kept_to : List ℕ → Float → List Float → List Float → ℕ → List Float
kept_to r x a d zero = d
kept_to r x a d (suc k) = set (kept_to r x a d k) k (cond (stands_in r k) (get_or a k nan) x)

-- a retired sample starts at alpha 0 with linear term 0
unfoldable pub kept : List ℕ → List Float → ℕ → List Float
kept r a n = kept_to r Weight.zero a nothing n

-- ---- the run and its answer

abbrev pub answer_over : (ℕ → Bool) → Given → ℕ → Full → Level → List Float → Answer
answer_over stands g budget w v home = record {
  rho = v.rho;
  r = ratio_of g.nu v;
  obj = objective_over stands g.n w.state.floats;
  iterations = w.run.iterations;
  exit_reason = reason_of w.run.iterations budget;
  support = support_of home g.n;
}

-- w is the run; both readings, and the scratch cleared
unfoldable pub answered_over : (ℕ → Bool) → Given → ℕ → Full → Lent → Whole
answered_over stands g budget w d =
    let z = cleared g.n (scratch_of d) in
    let weights = weight_in g.n w.state.floats in
    let home = home_reading g.n w.state.numbers weights d.home in
    let v = level_over stands g.n w.state.floats w.state.labels g.nu (repaired g.mode) in
    whole (Ok (answer_over stands g budget w v home)) (crate_reading g.n w.state.numbers weights d.crate) home z.floats z.numbers z.labels

-- labels l, ceilings c, start weights a, linear terms p: loaded, then trained over what stands
unfoldable pub fitted_over : (ℕ → Bool) → Given → List ℕ → List ℕ → List Float → List Float → List Float → ℕ → Lent → Whole
fitted_over stands g m l c a p budget d = answered_over stands g budget (trained_over stands g m c budget (loaded g.n l c a p (scratch_of d))) d

unfoldable pub retired_tuned_sized : Tuning → ℕ → List ℕ → List ℕ → List Float → List Float → List Float → List ℕ → Bool → Float → Bool → ℕ → Lent → Whole
retired_tuned_sized t n m l c a p r nurule eps shrinking budget d =
    decided (retired_judged t.floor n m l c a p r eps shrinking budget)
    (fitted_over (stands_in r) (given_by t n TwoClass eps false nurule) m l c (kept r a n) (kept r p n) budget d) d

unfoldable pub retired_tuned : Tuning → ℕ → List ℕ → List ℕ → List Float → List Float → List Float → List ℕ → Bool → Float → Bool → ℕ → Lent → Whole
retired_tuned t n m l c a p r nurule eps shrinking budget d =
    let inputs = eqb (length l) n && eqb (length c) n && eqb (length a) n && eqb (length p) n && eqb (length r) n in
    decided (sizes_of n inputs m d) (retired_tuned_sized t n m l c a p r nurule eps shrinking budget d) d

abbrev pub retired_of : ℕ → List ℕ → List ℕ → List Float → List Float → List Float → List ℕ → Bool → Float → Bool → ℕ → Lent → Whole
retired_of = retired_tuned plain_tuning
