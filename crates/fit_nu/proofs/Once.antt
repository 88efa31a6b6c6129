-- Any two outcomes that a contract allows are equal, with a tuning and without: the answer and every list that is lent to be written. Stated of the contract itself,
-- as the check reads it.
use mathlib.Core.Path.{◌≡◌, sym, ◌∙◌}
use contract.Lifetimes.{Lfts}
use borrow.Fn.World.{ArgsD, ResD}
use borrow.Fn.Kinds.{ended_of}
use denote.Triple.Clauses.{AtExit}
use Rattle.answer.specs.Lent.{Whole, whole}
use Rattle.fit_nu.specs.contracts.fit_nu.{signature}
use Rattle.fit_nu.proofs.fit_nu.Kinds as kinds
use Rattle.fit_nu.proofs.fit_nu.Reads as reads
use Rattle.fit_nu.specs.contracts.fit_nu_tuned.{signature as signature-tuned}
use Rattle.fit_nu.proofs.fit_nu_tuned.Kinds as kinds-tuned
use Rattle.fit_nu.proofs.fit_nu_tuned.Reads as reads-tuned

-- what a call answers and leaves
abbrev left : (κs : Lfts 7) → ResD signature κs → AtExit (ended_of 7 kinds.ps kinds.r) κs → Whole
left κs r s = whole r s.1.1.1.1.1.0.now s.1.1.1.1.1.1.0.now s.1.1.1.1.1.1.1.0.now s.1.1.1.1.1.1.1.1.0.now s.1.1.1.1.1.1.1.1.1.0.now

pub nu_once : (κs : Lfts 7) (a : ArgsD signature κs) (r r' : ResD signature κs) (s s' : AtExit (ended_of 7 kinds.ps kinds.r) κs)
    → reads.Post κs a r s → reads.Post κs a r' s' → ◌≡◌ {A = Whole} (left κs r s) (left κs r' s')
nu_once κs a r r' s s' p q = p ∙ sym q

abbrev left_tuned : (κs : Lfts 7) → ResD signature-tuned κs → AtExit (ended_of 7 kinds-tuned.ps kinds-tuned.r) κs → Whole
left_tuned κs r s = whole r s.1.1.1.1.1.1.0.now s.1.1.1.1.1.1.1.0.now s.1.1.1.1.1.1.1.1.0.now s.1.1.1.1.1.1.1.1.1.0.now s.1.1.1.1.1.1.1.1.1.1.0.now

pub nu_tuned_once : (κs : Lfts 7) (a : ArgsD signature-tuned κs) (r r' : ResD signature-tuned κs) (s s' : AtExit (ended_of 7 kinds-tuned.ps kinds-tuned.r) κs)
    → reads-tuned.Post κs a r s → reads-tuned.Post κs a r' s' → ◌≡◌ {A = Whole} (left_tuned κs r s) (left_tuned κs r' s')
nu_tuned_once κs a r r' s s' p q = p ∙ sym q
