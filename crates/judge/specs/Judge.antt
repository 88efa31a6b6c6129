-- Refusals 3 to 10 and 12 to 14: what an input must be, and which refusal is given where it isn't (the rule, section 'What a caller lends and gets').
use Rattle.std.specs.Prelude.{ℕ, zero, suc, ◌*◌, Bool, true, not, ◌&&◌, cond, List, ltb, leb, get_or, Float, ⊤, Result, Ok, Err}
use Rattle.std.specs.Float.{nan}
use Rattle.std.specs.Float.Ieee.{neg, lt, le}
use Rattle.std.specs.Float.Ieee.Scale.{finite}
use Rattle.alpha.specs.Weight.{limit, zero as nought, one}
use Rattle.rounding.specs.Units.{negative}
use Rattle.wire.specs.Wire.{float_at}
use Rattle.judge.specs.declared.Refusal.{Refusal}
use Rattle.judge.specs.declared.Refusal.TheVariants.{Kernel, Label, Ceiling, Alpha, Linear, Eps, Nu, Budget, Retired, RetiredShrinking, Floor}

-- ---- what is refused

-- of the m places from i on, the first that isn't good
unfoldable pub first : {E : Type 0} → (ℕ → E) → (ℕ → Bool) → ℕ → ℕ → Result ⊤ E
first refusal good zero i = Ok tt
first refusal good (suc m) i = cond (good i) (first refusal good m (suc i)) (Err (refusal i))

abbrev pub need : {E : Type 0} → E → Bool → Result ⊤ E
need refusal good = cond good (Ok tt) (Err refusal)

-- b counts only where nothing was wrong before it: the first refusal is given
unfoldable pub and_then : {E : Type 0} → Result ⊤ E → Result ⊤ E → Result ⊤ E
and_then (Ok x) b = b
and_then (Err refusal) b = Err refusal

-- ---- what is good: no comparison with a NaN holds

abbrev pub in_limit : Float → Bool
in_limit x = le (neg limit) x && le x limit

abbrev pub is_ceiling : Float → Bool
is_ceiling c = lt nought c && le c limit

abbrev pub is_start : Float → Float → Bool
is_start a c = le nought a && le a c

-- 3: entry k of the lent matrix
unfoldable pub entry_good : List ℕ → ℕ → Bool
entry_good m k = in_limit (float_at m (8 * k))

-- 4
unfoldable pub label_good : List ℕ → ℕ → Bool
label_good l k = leb (get_or l k 0) 1

-- 5
unfoldable pub ceiling_good : List Float → ℕ → Bool
ceiling_good c k = is_ceiling (get_or c k nan)

-- 5 in the C entry: 0 is cpos and 1 is cneg
unfoldable pub cost_good : Float → Float → ℕ → Bool
cost_good cpos cneg zero = is_ceiling cpos
cost_good cpos cneg (suc k) = is_ceiling cneg

-- 6
unfoldable pub alpha_good : List Float → List Float → ℕ → Bool
alpha_good a c k = is_start (get_or a k nan) (get_or c k nan)

-- 7
unfoldable pub linear_good : List Float → ℕ → Bool
linear_good p k = finite (get_or p k nan)

-- 8: −0 has its sign bit set
unfoldable pub eps_good : Float → Bool
eps_good eps = finite eps && not (negative eps)

-- 9
unfoldable pub nu_good : Float → Bool
nu_good nu = lt nought nu && le nu one

-- 10
unfoldable pub budget_good : ℕ → Bool
budget_good budget = ltb 0 budget && leb budget 10000000

-- 14: what may stand for a curvature that isn't above 0
unfoldable pub floor_good : Float → Bool
floor_good x = lt nought x && le x one

-- 12: the first bytes are 0 or 1
unfoldable pub bytes_good : List ℕ → ℕ → Bool
bytes_good r zero = true
bytes_good r (suc k) = bytes_good r k && leb (get_or r k 0) 1

-- ---- the entries

-- 14, behind all that an entry without a tuning judges: j is its verdict
abbrev pub floor_judged : Float → Result ⊤ Refusal → Result ⊤ Refusal
floor_judged x j = and_then j (need Floor (floor_good x))

-- 3 and 4
abbrev pub samples_judged : ℕ → List ℕ → List ℕ → Result ⊤ Refusal
samples_judged n m l = and_then (first Kernel (entry_good m) (n * n) 0) (first Label (label_good l) n 0)

-- 3 to 8 and 10
unfoldable pub general_judged : ℕ → List ℕ → List ℕ → List Float → List Float → List Float → Float → ℕ → Result ⊤ Refusal
general_judged n m l c a p eps budget =
    let j5 = and_then (samples_judged n m l) (first Ceiling (ceiling_good c) n 0) in
    let j6 = and_then j5 (first Alpha (alpha_good a c) n 0) in
    let j7 = and_then j6 (first Linear (linear_good p) n 0) in
    and_then (and_then j7 (need Eps (eps_good eps))) (need Budget (budget_good budget))

-- .. 14, 12 and 13: x is the floor, r are the retired bytes
unfoldable pub retired_judged : Float → ℕ → List ℕ → List ℕ → List Float → List Float → List Float → List ℕ → Float → Bool → ℕ → Result ⊤ Refusal
retired_judged x n m l c a p r eps shrinking budget =
    and_then (and_then (floor_judged x (general_judged n m l c a p eps budget)) (need Retired (bytes_good r n))) (need RetiredShrinking (not shrinking))

-- 3, 4, 5, 8 and 10
unfoldable pub c_judged : ℕ → List ℕ → List ℕ → Float → Float → Float → ℕ → Result ⊤ Refusal
c_judged n m l cpos cneg eps budget =
    let j5 = and_then (samples_judged n m l) (first Ceiling (cost_good cpos cneg) 2 0) in
    and_then (and_then j5 (need Eps (eps_good eps))) (need Budget (budget_good budget))

-- 3, 4 and 8 to 10
unfoldable pub nu_judged : ℕ → List ℕ → List ℕ → Float → Float → ℕ → Result ⊤ Refusal
nu_judged n m l nu eps budget =
    let j8 = and_then (samples_judged n m l) (need Eps (eps_good eps)) in
    and_then (and_then j8 (need Nu (nu_good nu))) (need Budget (budget_good budget))

-- 3 and 8 to 10
unfoldable pub one_class_judged : ℕ → List ℕ → Float → Float → ℕ → Result ⊤ Refusal
one_class_judged n m nu eps budget =
    let j8 = and_then (first Kernel (entry_good m) (n * n) 0) (need Eps (eps_good eps)) in
    and_then (and_then j8 (need Nu (nu_good nu))) (need Budget (budget_good budget))
