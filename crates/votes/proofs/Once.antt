-- Any two outcomes that the contract allows are equal: the answer and the list of votes. Stated of the contract itself, as the check reads it.
use mathlib.Core.Path.{◌≡◌, sym, ◌∙◌}
use contract.Lifetimes.{Lfts}
use borrow.Fn.World.{ArgsD, ResD}
use borrow.Fn.Kinds.{ended_of}
use denote.Triple.Clauses.{AtExit}
use Rattle.votes.specs.Entry.{Voted, voted}
use Rattle.votes.specs.contracts.vote.{signature}
use Rattle.votes.proofs.vote.Kinds as kinds
use Rattle.votes.proofs.vote.Reads as reads

abbrev left : (κs : Lfts 6) → ResD signature κs → AtExit (ended_of 6 kinds.ps kinds.r) κs → Voted
left κs r s = voted r s.1.1.1.1.1.1.0.now

pub vote_once : (κs : Lfts 6) (a : ArgsD signature κs) (r r' : ResD signature κs) (s s' : AtExit (ended_of 6 kinds.ps kinds.r) κs)
    → reads.Post κs a r s → reads.Post κs a r' s' → ◌≡◌ {A = Voted} (left κs r s) (left κs r' s')
vote_once κs a r r' s s' p q = p ∙ sym q
