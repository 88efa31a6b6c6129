-- Where an entry accepts, nothing was refused, and its outcome is that of its fit. Assumes nothing.
use mathlib.Core.Path.{◌≡◌, refl}
use Rattle.answer.specs.Lent.{Lent, Whole}
use Rattle.answer.specs.declared.Answer.{Answer}
use Rattle.classification.specs.Entries.{decided}
use Rattle.std.specs.Prelude.{⊤, Result, Ok, Err}
use Rattle.judge.specs.declared.Refusal.{Refusal}

pub refused_apart : (refusal : Refusal) (x : Answer) → ◌≡◌ {A = Result Answer Refusal} (Err refusal) (Ok x) → ⊥
refused_apart refusal x e = cc

-- refusals 1 to 10 and 12 to 14
pub decided_in : (w : Whole) (d : Lent) (x : Answer) (j : Result ⊤ Refusal) → (decided j w d).out ≡ Ok x → (j ≡ Ok tt) × (decided j w d ≡ w)
unfolding decided
decided_in w d x (Ok p) h = (refl, refl)
decided_in w d x (Err refusal) h = let z : ⊥ = cc in absurd z
