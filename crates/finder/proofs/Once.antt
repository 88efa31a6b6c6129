-- Any two outcomes that a contract allows are equal. Stated of the contract itself, as the check reads it.
use mathlib.Core.Path.{◌≡◌, sym, ◌∙◌}
use contract.Lifetimes.{Lfts}
use borrow.Fn.World.{ArgsD, ResD}
use borrow.Fn.Kinds.{ended_of}
use denote.Triple.Clauses.{AtExit}
use Rattle.update.specs.declared.Pair.{Pair}
use Rattle.finder.specs.contracts.find_pair.{signature}
use Rattle.finder.proofs.find_pair.Kinds as kinds
use Rattle.finder.proofs.find_pair.Reads as reads

pub found_once : (κs : Lfts 0) (a : ArgsD signature κs) (r r' : ResD signature κs) (s s' : AtExit (ended_of 0 kinds.ps kinds.r) κs)
    → reads.Post κs a r s → reads.Post κs a r' s' → ◌≡◌ {A = Pair} r r'
found_once κs a r r' s s' p q = p ∙ sym q
