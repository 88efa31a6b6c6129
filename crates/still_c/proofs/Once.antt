-- Any two outcomes that the contract allows are equal: the answer and every list that is lent to be written. Stated of the contract itself, as the check reads it.
use mathlib.Core.Path.{◌≡◌, sym, ◌∙◌}
use contract.Lifetimes.{Lfts}
use borrow.Fn.World.{ArgsD, ResD}
use borrow.Fn.Kinds.{ended_of}
use denote.Triple.Clauses.{AtExit}
use Rattle.still.specs.Entries.{StillWhole, still_whole}
use Rattle.still_c.specs.contracts.still_c_tuned.{signature}
use Rattle.still_c.proofs.still_c_tuned.Kinds as kinds
use Rattle.still_c.proofs.still_c_tuned.Reads as reads

-- what a call answers and leaves
abbrev left : (κs : Lfts 5) → ResD signature κs → AtExit (ended_of 5 kinds.ps kinds.r) κs → StillWhole
left κs r s = still_whole r s.1.1.1.1.1.1.1.0.now s.1.1.1.1.1.1.1.1.0.now s.1.1.1.1.1.1.1.1.1.0.now

pub still_c_once : (κs : Lfts 5) (a : ArgsD signature κs) (r r' : ResD signature κs) (s s' : AtExit (ended_of 5 kinds.ps kinds.r) κs)
    → reads.Post κs a r s → reads.Post κs a r' s' → ◌≡◌ {A = StillWhole} (left κs r s) (left κs r' s')
still_c_once κs a r r' s s' p q = p ∙ sym q
