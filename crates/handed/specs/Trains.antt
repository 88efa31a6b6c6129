-- What each C function trains under a tuning t, by the bytes that it is lent, and the numbers that it may answer.
use Rattle.std.specs.Prelude.{ℕ, ◌≤◌, false, cond, List, ◌⊎◌, ◌≡◌, Float}
use Rattle.judge.specs.Judge.{floor_good}
use Rattle.hosted.specs.Hosted.{is_on, as_float, floats_of}
use Rattle.promises.specs.Fit.{Fit, general_fit, c_fit, nu_fit, one_class_fit}
use Rattle.tuning.specs.declared.Tuning.{Tuning}

-- labels, ceilings, start alphas, linear terms
abbrev pub general_trains : Tuning → ℕ → (l c a p : List ℕ) → (nurule eps shrinking : ℕ) → Fit
general_trains t n l c a p nurule eps shrinking = general_fit t n l (floats_of c n) (floats_of a n) (floats_of p n) (is_on nurule) (as_float eps) (is_on shrinking)

abbrev pub c_trains : Tuning → ℕ → List ℕ → (cpos cneg eps shrinking : ℕ) → Fit
c_trains t n l cpos cneg eps shrinking = c_fit t n l (as_float cpos) (as_float cneg) (as_float eps) (is_on shrinking)

abbrev pub nu_trains : Tuning → ℕ → List ℕ → (nu eps shrinking : ℕ) → Fit
nu_trains t n l nu eps shrinking = nu_fit t n l (as_float nu) (as_float eps) (is_on shrinking)

abbrev pub one_class_trains : Tuning → ℕ → (nu eps shrinking : ℕ) → Fit
one_class_trains t n nu eps shrinking = one_class_fit t n (as_float nu) (as_float eps) (is_on shrinking)

-- 11 only with shrinking on
abbrev pub largest : ℕ → ℕ
largest shrinking = cond (is_on shrinking) 11 10

-- .. and 14 only where the floor x isn't good
abbrev pub MayAnswer : Float → ℕ → ℕ → Type 0
MayAnswer x shrinking k = (k ≤ largest shrinking) ⊎ ((k ≡ 14) × (floor_good x ≡ false))

-- with retired samples 12 and 13, never 11
abbrev pub RetiredMayAnswer : Float → ℕ → Type 0
RetiredMayAnswer x k = ((k ≤ 13) × (k ≡ 11 → ⊥)) ⊎ ((k ≡ 14) × (floor_good x ≡ false))
