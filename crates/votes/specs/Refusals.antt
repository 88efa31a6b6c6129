-- Each refusal's number and index, as the bytes of an answer have them (the rule, section 'Several languages').
use Rattle.std.specs.Prelude.{ℕ}
use Rattle.votes.specs.declared.Refusal.{Refusal}
use Rattle.votes.specs.declared.Refusal.TheVariants.{Languages, Length, Counts}

abbrev pub votes_number : Refusal → ℕ
votes_number Languages = 1
votes_number Length = 2
votes_number (Counts p) = 2

-- 0 where there is none
abbrev pub votes_index : Refusal → ℕ
votes_index Languages = 0
votes_index Length = 0
votes_index (Counts p) = p
