-- The five lists that are lent to be written.
use Rattle.std.specs.Prelude.{ℕ, ◌*◌, List, Float, Result}
use Rattle.alpha.specs.Weight as Weight
use Rattle.lists.specs.Filled.{filled_to}
use Rattle.state.specs.Lists.{State}
use Rattle.answer.specs.declared.Answer.{Answer}
use Rattle.judge.specs.declared.Refusal.{Refusal}

pub record Lent : Type 0 where
  pub crate : List Float
  pub home : List Float
  pub floats : List Float
  pub numbers : List ℕ
  pub bytes : List ℕ

abbrev pub lent : List Float → List Float → List Float → List ℕ → List ℕ → Lent
lent c h f u y = record { crate = c; home = h; floats = f; numbers = u; bytes = y }

-- an outcome, with what the lists hold then
pub record Whole : Type 0 where
  pub out : Result Answer Refusal
  pub left : Lent

abbrev pub whole : Result Answer Refusal → List Float → List Float → List Float → List ℕ → List ℕ → Whole
whole o c h f u y = record { out = o; left = lent c h f u y }

abbrev pub untouched : Result Answer Refusal → Lent → Whole
untouched o d = record { out = o; left = d }

-- the used scratch is all +0
abbrev pub cleared : ℕ → State → State
cleared n s =
    record { floats = filled_to Weight.zero s.floats (7 * n); numbers = filled_to 0 s.numbers (2 * n); labels = filled_to 0 s.labels n }
