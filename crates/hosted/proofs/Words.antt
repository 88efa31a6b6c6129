-- Told by its number and index, a refusal has the rule's words. Assumes nothing.
use mathlib.Core.Path.{◌≡◌, refl}
use Rattle.answer.specs.Answer.{words_of}
use Rattle.hosted.specs.Hosted.{words_by}
use Rattle.judge.specs.Refusals.{number, index_of}
use Rattle.std.specs.Prelude.{Result, Ok, Err}
use Rattle.answer.specs.declared.Answer.{Answer}
use Rattle.judge.specs.declared.Refusal.{Refusal}

pub words_told : (o : Result Answer Refusal) → words_by number index_of o ≡ words_of o
unfolding words_of
words_told (Ok a) = refl
words_told (Err refusal) = refl
