-- What `altuliscia_votes` hands back.
use Rattle.std.specs.Prelude.{ℕ, ◌+◌, ◌≤◌, ◌<◌, List, ◌≡◌, length}
use Rattle.altuliscia.specs.Functions.{VotesHanded}
use Rattle.promises.specs.Leaves.{Beyond}
use Rattle.votes.specs.Votes.{Panel, pairs_of, word_in, votes_for, winner_to}

-- where it answers 0, the words that it wrote: the votes for each of k languages, and the winner's number
pub record GivesVotes (k : ℕ) (l : Panel) (o : VotesHanded) : Type 0 where
  pub votes : (x : ℕ) → x < k → word_in o.votes x ≡ votes_for k l x
  pub winner : word_in o.answer 2 ≡ winner_to (votes_for k l) k + 1

-- whatever it answers: the bytes as they were lent, what is handed back
pub record HandsVotes (votes_bytes answer_bytes : List ℕ) (o : VotesHanded) : Type 0 where
  -- the result isn't 0: the votes are as they were
  pub votes : (o.code ≡ 0 → ⊥) → o.votes ≡ votes_bytes
  pub long : length o.votes ≡ length votes_bytes
  -- behind the answer's 24 bytes
  pub answer : Beyond 0 24 answer_bytes o.answer
  -- a shorter answer isn't written
  pub short : length answer_bytes < 24 → o.answer ≡ answer_bytes
  -- any other begins with the result, and where that isn't 0, names no winner
  pub told : 24 ≤ length answer_bytes → word_in o.answer 0 ≡ o.code
  pub nobody : 24 ≤ length answer_bytes → (o.code ≡ 0 → ⊥) → word_in o.answer 2 ≡ 0

-- pair i is the first whose two counts differ
pub record FirstUnlike (k : ℕ) (l : Panel) (i : ℕ) : Type 0 where
  pub below : i < pairs_of k
  pub differ : word_in l.held i ≡ word_in l.valued i → ⊥
  pub before : (p : ℕ) → p < i → word_in l.held p ≡ word_in l.valued p
