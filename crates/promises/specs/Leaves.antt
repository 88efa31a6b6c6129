-- What a call leaves in the five lists that were lent to be written.
use Rattle.std.specs.Prelude.{ℕ, ◌*◌, ◌≤◌, ◌<◌, Bool, true, false, List, ◌≡◌, eqb, length, get_or, Result, Ok, Err}
use Rattle.std.specs.Float.{nan}
use Rattle.alpha.specs.Weight as Weight
use Rattle.judge.specs.Refusals.{number}
use Rattle.answer.specs.Lent.{Lent, Whole}
use Rattle.answer.specs.declared.Answer.{Answer}
use Rattle.judge.specs.declared.Refusal.{Refusal}

-- t is as long as s and holds the same from place k on; x is what a place past the end is read as
pub record Beyond {A : Type 0} (x : A) (k : ℕ) (s t : List A) : Type 0 where
  pub long : length t ≡ length s
  pub at : (j : ℕ) → k ≤ j → get_or t j x ≡ get_or s j x

-- there was a run: accepted, or refused with 11
unfoldable pub has_run : Result Answer Refusal → Bool
has_run (Ok a) = true
has_run (Err refusal) = eqb (number refusal) 11

-- the scratch that n samples use holds +0; a place that isn't there would read NaN, or 1
pub record Clear (n : ℕ) (d : Lent) : Type 0 where
  pub floats : (k : ℕ) → k < 7 * n → get_or d.floats k nan ≡ Weight.zero
  pub numbers : (k : ℕ) → k < 2 * n → get_or d.numbers k 1 ≡ 0
  pub bytes : (k : ℕ) → k < n → get_or d.bytes k 1 ≡ 0

-- n samples, d as it was lent, w the outcome with what is left
pub record Leaves (n : ℕ) (d : Lent) (w : Whole) : Type 0 where
  -- refused, but not with 11: no list is written
  pub untouched : has_run w.out ≡ false → w.left ≡ d
  -- refused, with 11 too: both result lists are as they were
  pub results : (refusal : Refusal) → w.out ≡ Err refusal → (w.left.crate ≡ d.crate) × (w.left.home ≡ d.home)
  -- accepted, or refused with 11
  pub cleared : has_run w.out ≡ true → Clear n w.left
  -- in every outcome: what lies behind the used part of each
  pub crate : Beyond nan n d.crate w.left.crate
  pub home : Beyond nan n d.home w.left.home
  pub floats : Beyond nan (7 * n) d.floats w.left.floats
  pub numbers : Beyond 0 (2 * n) d.numbers w.left.numbers
  pub bytes : Beyond 0 n d.bytes w.left.bytes
