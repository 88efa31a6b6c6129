-- What is promised of the entries without an order table: what an acceptance says, which number a refusal has, what is left in the lent lists.
use Rattle.std.specs.Prelude.{ℕ, ◌*◌, ◌<◌, Bool, true, false, ◌&&◌, ◌||◌, List, ◌⊎◌, ◌≡◌, leb, eqb, Float, get_or, Result, Ok, Err}
use Rattle.std.specs.Float.{nan}
use Rattle.alpha.specs.Weight as Weight
use Rattle.answer.specs.Answer.{words_of}
use Rattle.answer.specs.Lent.{Lent, Whole}
use Rattle.answer.specs.declared.Answer.{Answer}
use Rattle.classification.specs.Entries.{sizes_of}
use Rattle.judge.specs.Refusals.{number as number_of}
use Rattle.still.specs.Entries.{StillLent, StillWhole, still_sizes}
use Rattle.promises.specs.Leaves.{Beyond}
use Rattle.promises.specs.Numbers.{FloorBad}
use Rattle.judge.specs.declared.Refusal.{Refusal}
use Rattle.judge.specs.declared.Refusal.TheVariants.{RetiredShrinking}

-- ---- accepted

-- with the answer x, and e lent; w is the rule's entry beside it with shrinking off, by what is lent there
pub record StillAccepts (n : ℕ) (inputs : Bool) (m : List ℕ) (shrinking : Bool) (w : Lent → Whole) (e : StillLent) (x : Answer) : Type 0 where
  pub off : shrinking ≡ false
  pub room : still_sizes n inputs m e ≡ Ok tt
  -- over all lists that suffice it the rule's entry accepts with the same answer, and there are such lists
  pub beside : (d : Lent) → sizes_of n inputs m d ≡ Ok tt → (w d).out ≡ Ok x
  pub enough : (d : Lent) × (sizes_of n inputs m d ≡ Ok tt)

-- ---- refused

-- the numbers that are given for sizes and input by C, by nu and by one-class
abbrev pub c_number : ℕ → Bool
c_number k = (leb 1 k && leb k 5) || eqb k 8 || eqb k 10

abbrev pub nu_number : ℕ → Bool
nu_number k = (leb 1 k && leb k 4) || (leb 8 k && leb k 10)

abbrev pub one_class_number : ℕ → Bool
one_class_number k = (leb 1 k && leb k 3) || (leb 8 k && leb k 10)

-- its own, 14 only where the floor x isn't good, 13 only where shrinking is asked for
abbrev pub StillNumbered : (ℕ → Bool) → Float → Bool → ℕ → Type 0
StillNumbered own x shrinking k = (own k ≡ true) ⊎ FloorBad x k ⊎ ((k ≡ 13) × (shrinking ≡ true))

-- own are the entry's own numbers, o is the outcome by whether shrinking is asked for
pub record StillNumbers (own : ℕ → Bool) (x : Float) (o : Bool → Result Answer Refusal) : Type 0 where
  pub number : (shrinking : Bool) (refusal : Refusal) → o shrinking ≡ Err refusal → StillNumbered own x shrinking (number_of refusal)
  -- 13 exactly where shrinking is asked for and the same call without it is accepted
  pub thirteen : (a : Answer) → o false ≡ Ok a → o true ≡ Err RetiredShrinking
  pub only : (shrinking : Bool) → o shrinking ≡ Err RetiredShrinking → (shrinking ≡ true) × (a : Answer) × (o false ≡ Ok a)
  -- any other refusal comes before it
  pub last : (refusal : Refusal) → o false ≡ Err refusal → o true ≡ Err refusal
  -- 0 is answered only where the call is accepted
  pub nought : (shrinking : Bool) → get_or (words_of (o shrinking)) 0 0 ≡ 0 → (a : Answer) × (o shrinking ≡ Ok a)

-- ---- what is left

-- the scratch that n samples use holds +0; a place that isn't there would read NaN, or 1
pub record StillClear (n : ℕ) (e : StillLent) : Type 0 where
  pub floats : (k : ℕ) → k < 5 * n → get_or e.floats k nan ≡ Weight.zero
  pub bytes : (k : ℕ) → k < n → get_or e.bytes k 1 ≡ 0

-- e as it was lent, v the outcome with what is left; w is the rule's entry beside it with shrinking off, by what is lent there
pub record StillLeaves (n : ℕ) (inputs : Bool) (m : List ℕ) (w : Lent → Whole) (e : StillLent) (v : StillWhole) : Type 0 where
  -- refused: no list is written
  pub untouched : (refusal : Refusal) → v.out ≡ Err refusal → v.left ≡ e
  -- accepted: each coefficient is what the rule's entry has at home, over all lists that suffice it; and the used scratch is cleared
  pub coefficients : (x : Answer) → v.out ≡ Ok x → (d : Lent) → sizes_of n inputs m d ≡ Ok tt → (k : ℕ) → k < n → get_or v.left.result k nan ≡ get_or (w d).left.home k nan
  pub cleared : (x : Answer) → v.out ≡ Ok x → StillClear n v.left
  -- in every outcome: what lies behind the used part of each
  pub result : Beyond nan n e.result v.left.result
  pub floats : Beyond nan (5 * n) e.floats v.left.floats
  pub bytes : Beyond 0 n e.bytes v.left.bytes
