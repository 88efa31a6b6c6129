-- The entries without an order table: refusals, else the fit and its answer (the rule, sections 'What a caller lends and gets' and 'Without an order table').
use Rattle.std.specs.Prelude.{ℕ, ◌*◌, ◌≤◌, Bool, true, false, not, ◌&&◌, cond, List, ◌≡◌, leb, eqb, Float, length, ⊤, Result, Ok, Err}
use Rattle.alpha.specs.Weight as Weight
use Rattle.classification.specs.Entries.{given_by}
use Rattle.judge.specs.Judge.{need, and_then, c_judged, nu_judged, one_class_judged, floor_judged}
use Rattle.judge.specs.Sizes.{count_good}
use Rattle.kernel.specs.declared.Kind.TheVariants.{TwoClass, OneClass}
use Rattle.lists.specs.Filled.{filled_to}
use Rattle.tuning.specs.declared.Tuning.{Tuning}
use Rattle.still.specs.Answered.{Reply}
use Rattle.still.specs.Fits.{still_c, still_nu, still_one_class}
use Rattle.answer.specs.declared.Answer.{Answer}
use Rattle.judge.specs.declared.Refusal.{Refusal}
use Rattle.judge.specs.declared.Refusal.TheVariants.{Samples, Length, RetiredShrinking}

-- ---- what is lent to be written

pub record StillLent : Type 0 where
  pub result : List Float
  pub floats : List Float
  pub bytes : List ℕ

abbrev pub still_lent : List Float → List Float → List ℕ → StillLent
still_lent h f y = record { result = h; floats = f; bytes = y }

-- an outcome, with what the lists hold then
pub record StillWhole : Type 0 where
  pub out : Result Answer Refusal
  pub left : StillLent

abbrev pub still_whole : Result Answer Refusal → List Float → List Float → List ℕ → StillWhole
still_whole o h f y = record { out = o; left = still_lent h f y }

abbrev pub still_untouched : Result Answer Refusal → StillLent → StillWhole
still_untouched o e = record { out = o; left = e }

-- ---- the parts that the entries share

-- a reply, and the used scratch all +0
abbrev pub still_left : ℕ → Reply → StillLent → StillWhole
still_left n r e = still_whole r.out r.result (filled_to Weight.zero e.floats (5 * n)) (filled_to 0 e.bytes n)

-- m bytes of matrix, h places for the result, f floats and y bytes of scratch
abbrev pub still_room_good : ℕ → ℕ → ℕ → ℕ → ℕ → Bool
still_room_good n m h f y = eqb m (8 * (n * n)) && leb n h && leb (5 * n) f && leb n y

-- `inputs` says whether every other input list has n places
unfoldable pub still_sizes_by : ℕ → Bool → ℕ → ℕ → ℕ → ℕ → Result ⊤ Refusal
still_sizes_by n inputs m h f y = cond (count_good n) (cond (inputs && still_room_good n m h f y) (Ok tt) (Err Length)) (Err Samples)

abbrev pub still_sizes : ℕ → Bool → List ℕ → StillLent → Result ⊤ Refusal
still_sizes n inputs m e = still_sizes_by n inputs (length m) (length e.result) (length e.floats) (length e.bytes)

-- what an Ok says of the lengths
pub record StillRoom (n m h f y : ℕ) : Type 0 where
  pub some : 1 ≤ n
  pub most : n ≤ 512
  pub matrix : m ≡ 8 * (n * n)
  pub result : n ≤ h
  pub floats : 5 * n ≤ f
  pub bytes : n ≤ y

-- 14 and 13, behind all that an entry without a tuning judges: x is the floor, j its verdict
abbrev pub still_judged : Float → Bool → Result ⊤ Refusal → Result ⊤ Refusal
still_judged x shrinking j = and_then (floor_judged x j) (need RetiredShrinking (not shrinking))

-- what is refused before the run leaves e as it was
unfoldable pub still_decided : Result ⊤ Refusal → StillWhole → StillLent → StillWhole
still_decided (Ok x) w e = w
still_decided (Err refusal) w e = still_untouched (Err refusal) e

-- ---- the entries, under a tuning t; what follows the sizes stands by itself

unfoldable pub still_c_tuned_sized : Tuning → ℕ → List ℕ → List ℕ → Float → Float → Float → Bool → ℕ → StillLent → StillWhole
still_c_tuned_sized t n m l cpos cneg eps shrinking budget e =
    still_decided
    (still_judged t.floor shrinking (c_judged n m l cpos cneg eps budget))
    (still_left n (still_c (given_by t n TwoClass eps false false) m l cpos cneg budget e.floats e.result) e)
    e

unfoldable pub still_c_tuned : Tuning → ℕ → List ℕ → List ℕ → Float → Float → Float → Bool → ℕ → StillLent → StillWhole
still_c_tuned t n m l cpos cneg eps shrinking budget e =
    still_decided (still_sizes n (eqb (length l) n) m e) (still_c_tuned_sized t n m l cpos cneg eps shrinking budget e) e

unfoldable pub still_nu_tuned_sized : Tuning → ℕ → List ℕ → List ℕ → Float → Float → Bool → ℕ → StillLent → StillWhole
still_nu_tuned_sized t n m l nu eps shrinking budget e =
    still_decided
    (still_judged t.floor shrinking (nu_judged n m l nu eps budget))
    (still_left n (still_nu (given_by t n TwoClass eps false true) m l nu budget e.floats e.result) e)
    e

unfoldable pub still_nu_tuned : Tuning → ℕ → List ℕ → List ℕ → Float → Float → Bool → ℕ → StillLent → StillWhole
still_nu_tuned t n m l nu eps shrinking budget e =
    still_decided (still_sizes n (eqb (length l) n) m e) (still_nu_tuned_sized t n m l nu eps shrinking budget e) e

unfoldable pub still_one_class_tuned_sized : Tuning → ℕ → List ℕ → Float → Float → Bool → ℕ → StillLent → StillWhole
still_one_class_tuned_sized t n m nu eps shrinking budget e =
    still_decided
    (still_judged t.floor shrinking (one_class_judged n m nu eps budget))
    (still_left n (still_one_class (given_by t n OneClass eps false false) m nu budget e.floats e.result) e)
    e

unfoldable pub still_one_class_tuned : Tuning → ℕ → List ℕ → Float → Float → Bool → ℕ → StillLent → StillWhole
still_one_class_tuned t n m nu eps shrinking budget e = still_decided (still_sizes n true m e) (still_one_class_tuned_sized t n m nu eps shrinking budget e) e
