-- Of the exports, as crates/altuliscia/proofs/Once.antt has it of the functions that they call: any two outcomes that a contract allows are equal. Stated of the contracts,
-- as the check reads them.
use mathlib.Core.Path.{◌≡◌, sym, ◌∙◌}
use contract.Lifetimes.{Lfts}
use borrow.Fn.World.{ArgsD, ResD}
use borrow.Fn.Kinds.{ended_of}
use denote.Triple.Clauses.{AtExit}
use Prim.Native.Nat.{ℕ}
use Rattle.hosted.specs.Hosted.{Handed, handed}
use Rattle.altuliscia_c.specs.contracts.altuliscia_general.{signature as general-signature}
use Rattle.altuliscia_c.proofs.altuliscia_general.Kinds as general-kinds
use Rattle.altuliscia_c.proofs.altuliscia_general.Reads as general-reads
use Rattle.altuliscia_c.specs.contracts.altuliscia_general_tuned.{signature as general-tuned-signature}
use Rattle.altuliscia_c.proofs.altuliscia_general_tuned.Kinds as general-tuned-kinds
use Rattle.altuliscia_c.proofs.altuliscia_general_tuned.Reads as general-tuned-reads
use Rattle.altuliscia_c.specs.contracts.altuliscia_retired.{signature as retired-signature}
use Rattle.altuliscia_c.proofs.altuliscia_retired.Kinds as retired-kinds
use Rattle.altuliscia_c.proofs.altuliscia_retired.Reads as retired-reads
use Rattle.altuliscia_c.specs.contracts.altuliscia_c.{signature as c-signature}
use Rattle.altuliscia_c.proofs.altuliscia_c.Kinds as c-kinds
use Rattle.altuliscia_c.proofs.altuliscia_c.Reads as c-reads
use Rattle.altuliscia_c.specs.contracts.altuliscia_c_tuned.{signature as c-tuned-signature}
use Rattle.altuliscia_c.proofs.altuliscia_c_tuned.Kinds as c-tuned-kinds
use Rattle.altuliscia_c.proofs.altuliscia_c_tuned.Reads as c-tuned-reads
use Rattle.altuliscia_c.specs.contracts.altuliscia_nu.{signature as nu-signature}
use Rattle.altuliscia_c.proofs.altuliscia_nu.Kinds as nu-kinds
use Rattle.altuliscia_c.proofs.altuliscia_nu.Reads as nu-reads
use Rattle.altuliscia_c.specs.contracts.altuliscia_nu_tuned.{signature as nu-tuned-signature}
use Rattle.altuliscia_c.proofs.altuliscia_nu_tuned.Kinds as nu-tuned-kinds
use Rattle.altuliscia_c.proofs.altuliscia_nu_tuned.Reads as nu-tuned-reads
use Rattle.altuliscia_c.specs.contracts.altuliscia_one_class.{signature as one-class-signature}
use Rattle.altuliscia_c.proofs.altuliscia_one_class.Kinds as one-class-kinds
use Rattle.altuliscia_c.proofs.altuliscia_one_class.Reads as one-class-reads
use Rattle.altuliscia_c.specs.contracts.altuliscia_one_class_tuned.{signature as one-class-tuned-signature}
use Rattle.altuliscia_c.proofs.altuliscia_one_class_tuned.Kinds as one-class-tuned-kinds
use Rattle.altuliscia_c.proofs.altuliscia_one_class_tuned.Reads as one-class-tuned-reads
use Rattle.altuliscia.specs.Functions.{PairHanded, pair_handed, VotesHanded, votes_handed}
use Rattle.altuliscia_c.specs.contracts.altuliscia_pair.{signature as pair-signature}
use Rattle.altuliscia_c.proofs.altuliscia_pair.Kinds as pair-kinds
use Rattle.altuliscia_c.proofs.altuliscia_pair.Reads as pair-reads
use Rattle.altuliscia_c.specs.contracts.altuliscia_votes.{signature as votes-signature}
use Rattle.altuliscia_c.proofs.altuliscia_votes.Kinds as votes-kinds
use Rattle.altuliscia_c.proofs.altuliscia_votes.Reads as votes-reads
use Rattle.altuliscia_c.specs.contracts.altuliscia_version.{signature as version-signature}
use Rattle.altuliscia_c.proofs.altuliscia_version.Kinds as version-kinds
use Rattle.altuliscia_c.proofs.altuliscia_version.Reads as version-reads

-- what a call answers and leaves
abbrev general_left : (κs : Lfts 8) → ResD general-signature κs → AtExit (ended_of 8 general-kinds.ps general-kinds.r) κs → Handed
general_left κs r s = handed r s.1.1.1.1.1.1.1.1.1.1.0.now s.1.1.1.1.1.1.1.1.1.1.1.0.now s.1.1.1.1.1.1.1.1.1.1.1.1.0.now

pub general_once : (κs : Lfts 8) (a : ArgsD general-signature κs) (r r' : ResD general-signature κs) (s s' : AtExit (ended_of 8 general-kinds.ps general-kinds.r) κs)
    → general-reads.Post κs a r s → general-reads.Post κs a r' s' → ◌≡◌ {A = Handed} (general_left κs r s) (general_left κs r' s')
general_once κs a r r' s s' p q = p ∙ sym q

abbrev general_tuned_left : (κs : Lfts 9) → ResD general-tuned-signature κs → AtExit (ended_of 9 general-tuned-kinds.ps general-tuned-kinds.r) κs → Handed
general_tuned_left κs r s = handed r s.1.1.1.1.1.1.1.1.1.1.1.0.now s.1.1.1.1.1.1.1.1.1.1.1.1.0.now s.1.1.1.1.1.1.1.1.1.1.1.1.1.0.now

pub general_tuned_once : (κs : Lfts 9) (a : ArgsD general-tuned-signature κs) (r r' : ResD general-tuned-signature κs) (s s' : AtExit (ended_of 9 general-tuned-kinds.ps general-tuned-kinds.r) κs)
    → general-tuned-reads.Post κs a r s → general-tuned-reads.Post κs a r' s' → ◌≡◌ {A = Handed} (general_tuned_left κs r s) (general_tuned_left κs r' s')
general_tuned_once κs a r r' s s' p q = p ∙ sym q

abbrev retired_left : (κs : Lfts 10) → ResD retired-signature κs → AtExit (ended_of 10 retired-kinds.ps retired-kinds.r) κs → Handed
retired_left κs r s = handed r s.1.1.1.1.1.1.1.1.1.1.1.1.0.now s.1.1.1.1.1.1.1.1.1.1.1.1.1.0.now s.1.1.1.1.1.1.1.1.1.1.1.1.1.1.0.now

pub retired_once : (κs : Lfts 10) (a : ArgsD retired-signature κs) (r r' : ResD retired-signature κs) (s s' : AtExit (ended_of 10 retired-kinds.ps retired-kinds.r) κs)
    → retired-reads.Post κs a r s → retired-reads.Post κs a r' s' → ◌≡◌ {A = Handed} (retired_left κs r s) (retired_left κs r' s')
retired_once κs a r r' s s' p q = p ∙ sym q

abbrev c_left : (κs : Lfts 5) → ResD c-signature κs → AtExit (ended_of 5 c-kinds.ps c-kinds.r) κs → Handed
c_left κs r s = handed r s.1.1.1.1.1.1.1.1.0.now s.1.1.1.1.1.1.1.1.1.0.now s.1.1.1.1.1.1.1.1.1.1.0.now

pub c_once : (κs : Lfts 5) (a : ArgsD c-signature κs) (r r' : ResD c-signature κs) (s s' : AtExit (ended_of 5 c-kinds.ps c-kinds.r) κs)
    → c-reads.Post κs a r s → c-reads.Post κs a r' s' → ◌≡◌ {A = Handed} (c_left κs r s) (c_left κs r' s')
c_once κs a r r' s s' p q = p ∙ sym q

abbrev c_tuned_left : (κs : Lfts 6) → ResD c-tuned-signature κs → AtExit (ended_of 6 c-tuned-kinds.ps c-tuned-kinds.r) κs → Handed
c_tuned_left κs r s = handed r s.1.1.1.1.1.1.1.1.1.0.now s.1.1.1.1.1.1.1.1.1.1.0.now s.1.1.1.1.1.1.1.1.1.1.1.0.now

pub c_tuned_once : (κs : Lfts 6) (a : ArgsD c-tuned-signature κs) (r r' : ResD c-tuned-signature κs) (s s' : AtExit (ended_of 6 c-tuned-kinds.ps c-tuned-kinds.r) κs)
    → c-tuned-reads.Post κs a r s → c-tuned-reads.Post κs a r' s' → ◌≡◌ {A = Handed} (c_tuned_left κs r s) (c_tuned_left κs r' s')
c_tuned_once κs a r r' s s' p q = p ∙ sym q

abbrev nu_left : (κs : Lfts 5) → ResD nu-signature κs → AtExit (ended_of 5 nu-kinds.ps nu-kinds.r) κs → Handed
nu_left κs r s = handed r s.1.1.1.1.1.1.1.0.now s.1.1.1.1.1.1.1.1.0.now s.1.1.1.1.1.1.1.1.1.0.now

pub nu_once : (κs : Lfts 5) (a : ArgsD nu-signature κs) (r r' : ResD nu-signature κs) (s s' : AtExit (ended_of 5 nu-kinds.ps nu-kinds.r) κs)
    → nu-reads.Post κs a r s → nu-reads.Post κs a r' s' → ◌≡◌ {A = Handed} (nu_left κs r s) (nu_left κs r' s')
nu_once κs a r r' s s' p q = p ∙ sym q

abbrev nu_tuned_left : (κs : Lfts 6) → ResD nu-tuned-signature κs → AtExit (ended_of 6 nu-tuned-kinds.ps nu-tuned-kinds.r) κs → Handed
nu_tuned_left κs r s = handed r s.1.1.1.1.1.1.1.1.0.now s.1.1.1.1.1.1.1.1.1.0.now s.1.1.1.1.1.1.1.1.1.1.0.now

pub nu_tuned_once : (κs : Lfts 6) (a : ArgsD nu-tuned-signature κs) (r r' : ResD nu-tuned-signature κs) (s s' : AtExit (ended_of 6 nu-tuned-kinds.ps nu-tuned-kinds.r) κs)
    → nu-tuned-reads.Post κs a r s → nu-tuned-reads.Post κs a r' s' → ◌≡◌ {A = Handed} (nu_tuned_left κs r s) (nu_tuned_left κs r' s')
nu_tuned_once κs a r r' s s' p q = p ∙ sym q

abbrev one_class_left : (κs : Lfts 4) → ResD one-class-signature κs → AtExit (ended_of 4 one-class-kinds.ps one-class-kinds.r) κs → Handed
one_class_left κs r s = handed r s.1.1.1.1.1.1.0.now s.1.1.1.1.1.1.1.0.now s.1.1.1.1.1.1.1.1.0.now

pub one_class_once : (κs : Lfts 4) (a : ArgsD one-class-signature κs) (r r' : ResD one-class-signature κs) (s s' : AtExit (ended_of 4 one-class-kinds.ps one-class-kinds.r) κs)
    → one-class-reads.Post κs a r s → one-class-reads.Post κs a r' s' → ◌≡◌ {A = Handed} (one_class_left κs r s) (one_class_left κs r' s')
one_class_once κs a r r' s s' p q = p ∙ sym q

abbrev one_class_tuned_left : (κs : Lfts 5) → ResD one-class-tuned-signature κs → AtExit (ended_of 5 one-class-tuned-kinds.ps one-class-tuned-kinds.r) κs → Handed
one_class_tuned_left κs r s = handed r s.1.1.1.1.1.1.1.0.now s.1.1.1.1.1.1.1.1.0.now s.1.1.1.1.1.1.1.1.1.0.now

pub one_class_tuned_once : (κs : Lfts 5) (a : ArgsD one-class-tuned-signature κs) (r r' : ResD one-class-tuned-signature κs) (s s' : AtExit (ended_of 5 one-class-tuned-kinds.ps one-class-tuned-kinds.r) κs)
    → one-class-tuned-reads.Post κs a r s → one-class-tuned-reads.Post κs a r' s' → ◌≡◌ {A = Handed} (one_class_tuned_left κs r s) (one_class_tuned_left κs r' s')
one_class_tuned_once κs a r r' s s' p q = p ∙ sym q

abbrev pair_left : (κs : Lfts 1) → ResD pair-signature κs → AtExit (ended_of 1 pair-kinds.ps pair-kinds.r) κs → PairHanded
pair_left κs r s = pair_handed r s.1.1.1.1.1.1.1.1.1.1.0.now

pub pair_once : (κs : Lfts 1) (a : ArgsD pair-signature κs) (r r' : ResD pair-signature κs) (s s' : AtExit (ended_of 1 pair-kinds.ps pair-kinds.r) κs)
    → pair-reads.Post κs a r s → pair-reads.Post κs a r' s' → ◌≡◌ {A = PairHanded} (pair_left κs r s) (pair_left κs r' s')
pair_once κs a r r' s s' p q = p ∙ sym q

abbrev votes_left : (κs : Lfts 7) → ResD votes-signature κs → AtExit (ended_of 7 votes-kinds.ps votes-kinds.r) κs → VotesHanded
votes_left κs r s = votes_handed r s.1.1.1.1.1.1.0.now s.1.1.1.1.1.1.1.0.now

pub votes_once : (κs : Lfts 7) (a : ArgsD votes-signature κs) (r r' : ResD votes-signature κs) (s s' : AtExit (ended_of 7 votes-kinds.ps votes-kinds.r) κs)
    → votes-reads.Post κs a r s → votes-reads.Post κs a r' s' → ◌≡◌ {A = VotesHanded} (votes_left κs r s) (votes_left κs r' s')
votes_once κs a r r' s s' p q = p ∙ sym q

pub version_once : (κs : Lfts 0) (a : ArgsD version-signature κs) (r r' : ResD version-signature κs) (s s' : AtExit (ended_of 0 version-kinds.ps version-kinds.r) κs)
    → version-reads.Post κs a r s → version-reads.Post κs a r' s' → ◌≡◌ {A = ℕ} r r'
version_once κs a r r' s s' p q = p ∙ sym q
