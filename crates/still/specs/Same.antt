-- An entry without an order table answers as the rule's entry beside it.
use Rattle.std.specs.Prelude.{ℕ, ◌<◌, ◌≡◌, get_or, Ok}
use Rattle.std.specs.Float.{nan}
use Rattle.answer.specs.Lent.{Lent, Whole}
use Rattle.answer.specs.declared.Answer.{Answer}
use Rattle.still.specs.Entries.{StillLent, StillWhole}

-- w is what the rule's entry answers and leaves of d, v the other's of e
pub record Same (n : ℕ) (d : Lent) (e : StillLent) (w : Whole) (v : StillWhole) : Type 0 where
  pub out : w.out ≡ v.out
  pub places : (x : Answer) → w.out ≡ Ok x → (k : ℕ) → k < n → get_or w.left.home k nan ≡ get_or v.left.result k nan
  pub lists : d.home ≡ e.result → w.left.home ≡ v.left.result
  pub crates : d.crate ≡ e.result → w.left.crate ≡ v.left.result
