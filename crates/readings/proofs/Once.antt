-- Any two outcomes that a contract allows are equal. Stated of the contract itself, as the check reads it.
use mathlib.Core.Path.{◌≡◌, sym, ◌∙◌}
use contract.Lifetimes.{Lfts}
use borrow.Fn.World.{ArgsD, ResD}
use borrow.Fn.Kinds.{ended_of}
use denote.Triple.Clauses.{AtExit}
use Rattle.readings.specs.contracts.shown.{signature}
use Rattle.readings.proofs.shown.Kinds as kinds
use Rattle.readings.proofs.shown.Reads as reads

-- the part that is shown
pub shown_once : (κs : Lfts 1) (a : ArgsD signature κs) (r r' : ResD signature κs) (s s' : AtExit (ended_of 1 kinds.ps kinds.r) κs)
    → reads.Post κs a r s → reads.Post κs a r' s' → r.now ≡ r'.now
shown_once κs a r r' s s' p q = p ∙ sym q
