-- The votes' entry: its refusals, what it answers and what it leaves (the rule, section 'Several languages').
use Rattle.std.specs.Prelude.{ℕ, zero, suc, ◌+◌, ◌*◌, ◌≤◌, Bool, ◌&&◌, List, ◌≡◌, eqb, leb, length, ⊤, Result, Ok, Err}
use Rattle.judge.specs.Judge.{first, need, and_then}
use Rattle.wire.specs.Wire.{with_digits}
use Rattle.votes.specs.declared.Refusal.{Refusal}
use Rattle.votes.specs.declared.Refusal.TheVariants.{Languages, Length, Counts}
use Rattle.votes.specs.Refusals.{votes_number, votes_index}
use Rattle.votes.specs.Votes.{Panel, pairs_of, word_in, pair_start, votes_for, winner_to}

-- 1
abbrev pub languages_good : ℕ → Bool
languages_good k = leb 2 k && leb k 12

-- 2: b has n numbers, of eight bytes each
abbrev pub eight_each : ℕ → List ℕ → Bool
eight_each n b = eqb (length b) (8 * n)

-- 2, with the pair for its index: as many kernel values as coefficients
unfoldable pub counts_good : List ℕ → List ℕ → ℕ → Bool
counts_good held valued p = eqb (word_in held p) (word_in valued p)

-- the first that applies
unfoldable pub votes_judged : ℕ → Panel → List ℕ → Result ⊤ Refusal
votes_judged k l votes =
    let n = pairs_of k in
    let all = pair_start l.held n in
    and_then (need Languages (languages_good k))
    (and_then (need Length (eight_each n l.held && eight_each n l.valued))
    (and_then (first Counts (counts_good l.held l.valued) n 0)
    (need Length (eight_each all l.coefficients && eight_each all l.values && eight_each n l.rhos && eight_each k votes))))

-- what is known of the lists where nothing is refused
pub record Sized (k : ℕ) (l : Panel) : Type 0 where
  pub some : 2 ≤ k
  pub most : k ≤ 12
  pub held : length l.held ≡ 8 * pairs_of k
  pub coefficients : length l.coefficients ≡ 8 * pair_start l.held (pairs_of k)
  pub values : length l.values ≡ 8 * pair_start l.held (pairs_of k)
  pub rhos : length l.rhos ≡ 8 * pairs_of k

-- b with the votes of the first languages, eight bytes each
unfoldable pub votes_laid : (ℕ → ℕ) → List ℕ → ℕ → List ℕ
votes_laid v b zero = b
votes_laid v b (suc x) = with_digits (votes_laid v b x) (8 * x) (v x) 8

-- what the entry answers, and the list of votes
pub record Voted : Type 0 where
  pub out : Result ℕ Refusal
  pub votes : List ℕ

abbrev pub voted : Result ℕ Refusal → List ℕ → Voted
voted e b = record { out = e; votes = b }

-- refused: no winner, and the votes untouched. Else the winner's number, from 1 on
unfoldable pub voted_by : Result ⊤ Refusal → ℕ → Panel → List ℕ → Voted
voted_by (Err refusal) k l votes = voted (Err refusal) votes
voted_by (Ok x) k l votes = voted (Ok (winner_to (votes_for k l) k + 1)) (votes_laid (votes_for k l) votes k)

unfoldable pub voted_on : ℕ → Panel → List ℕ → Voted
voted_on k l votes = voted_by (votes_judged k l votes) k l votes

-- the result that C gets: 0 where there is a winner
abbrev pub election_number : Result ℕ Refusal → ℕ
election_number (Ok w) = 0
election_number (Err refusal) = votes_number refusal

-- out with the answer's three words in its first 24 bytes: number, index and winner, those that aren't there 0
abbrev pub three_told : ℕ → ℕ → ℕ → List ℕ → List ℕ
three_told q i w out = with_digits (with_digits (with_digits out 0 q 8) 8 i 8) 16 w 8

unfoldable pub election_told : Result ℕ Refusal → List ℕ → List ℕ
election_told (Ok w) out = three_told 0 0 w out
election_told (Err refusal) out = three_told (votes_number refusal) (votes_index refusal) 0 out
