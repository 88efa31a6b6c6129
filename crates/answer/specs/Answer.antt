-- What a run answers (the rule, sections 'What a caller lends and gets' and 'Fits').
use Rattle.std.specs.Prelude.{ℕ, zero, suc, ◌+◌, Bool, cond, List, [], ◌∷◌, eqb, Float, get_or, set, Option, Some, None, Result, Ok, Err}
use Rattle.std.specs.Float.{nan, binary64}
use Rattle.std.specs.Float.Ieee.{of_bits, to_bits, neg, mul, div, lt}
use Rattle.floats.specs.Helpers.{abs_of}
use Rattle.rho.specs.declared.Level.{Level}
use Rattle.answer.specs.declared.Answer.{Answer}
use Rattle.answer.specs.declared.ExitReason.{ExitReason}
use Rattle.answer.specs.declared.ExitReason.TheVariants.{ReachedThreshold, ReachedIterations}
use Rattle.answer.specs.declared.Finish.{Finish}
use Rattle.answer.specs.declared.Finish.TheVariants.{Plain, Signed, Scaled}
use Rattle.judge.specs.Refusals.{number, index_of}
use Rattle.judge.specs.declared.Refusal.{Refusal}

-- ---- the coefficients

abbrev pub signed_by : ℕ → Float → Float
signed_by label x = cond (eqb label 1) x (neg x)

-- a weight of a sample with that label
unfoldable pub coefficient_of : Finish → ℕ → Float → Float → Float
coefficient_of Plain label r x = x
coefficient_of Signed label r x = signed_by label x
coefficient_of Scaled label r x = div binary64 (signed_by label x) r

-- the first places of a reading d, each by its sample's original label
unfoldable pub finished_to : Finish → List ℕ → Float → List Float → ℕ → List Float
finished_to how l r d zero = d
finished_to how l r d (suc k) = set (finished_to how l r d k) k (coefficient_of how (get_or l k 0) r (get_or (finished_to how l r d k) k nan))

-- ---- the support count

-- 100·2^-52
abbrev pub support_limit : Float
support_limit = of_bits binary64 0x3d19_0000_0000_0000

-- strictly above the limit in magnitude, which a NaN isn't
abbrev pub supports : Float → Bool
supports x = lt support_limit (abs_of x)

abbrev pub counted_by : Float → ℕ → ℕ
counted_by x t = cond (supports x) (t + 1) t

unfoldable pub support_of : List Float → ℕ → ℕ
support_of h zero = 0
support_of h (suc k) = counted_by (get_or h k nan) (support_of h k)

-- ---- the fields

unfoldable pub rho_of : Finish → Level → Float
rho_of Plain v = v.rho
rho_of Signed v = v.rho
rho_of Scaled v = div binary64 v.rho v.r

unfoldable pub obj_of : Finish → Level → Float → Float
obj_of Plain v obj = obj
obj_of Signed v obj = obj
obj_of Scaled v obj = div binary64 obj (mul binary64 v.r v.r)

unfoldable pub ratio_of : Bool → Level → Option Float
ratio_of nu v = cond nu (Some v.r) None

-- iterations exactly when the count equals the budget
unfoldable pub reason_of : ℕ → ℕ → ExitReason
reason_of iterations budget = cond (eqb iterations budget) ReachedIterations ReachedThreshold

-- ---- each case's number and values, as the rule has them

unfoldable pub reason_number : ExitReason → ℕ
reason_number ReachedThreshold = 0
reason_number ReachedIterations = 1

unfoldable pub ratio_there : Option Float → ℕ
ratio_there None = 0
ratio_there (Some r) = 1

unfoldable pub ratio_bits : Option Float → ℕ
ratio_bits None = 0
ratio_bits (Some r) = to_bits binary64 r

-- refusal number, index, rho, whether r is there, r, obj, iterations, reason, support count: absent and refused fields are 0
unfoldable pub words_of : Result Answer Refusal → List ℕ
words_of (Ok a) =
    0 ∷ 0 ∷ to_bits binary64 a.rho ∷ ratio_there a.r ∷ ratio_bits a.r ∷ to_bits binary64 a.obj ∷ a.iterations ∷ reason_number a.exit_reason ∷ a.support ∷ []
words_of (Err refusal) = number refusal ∷ index_of refusal ∷ 0 ∷ 0 ∷ 0 ∷ 0 ∷ 0 ∷ 0 ∷ 0 ∷ []
