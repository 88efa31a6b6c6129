-- A reply by its two parts.
use Rattle.std.specs.Prelude.{List, Float, Result}
use Rattle.still.specs.Answered.{Reply}
use Rattle.answer.specs.declared.Answer.{Answer}
use Rattle.judge.specs.declared.Refusal.{Refusal}

abbrev pub replied : Result Answer Refusal → List Float → Reply
replied o h = record { out = o; result = h }
