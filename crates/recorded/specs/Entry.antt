-- The numbers of a record that name an entry or a form.
use Rattle.std.specs.Prelude.{◌≡◌, ℕ, ◌<◌, cond, eqb, Result, MatchResult}
use Rattle.recorded.specs.declared.entry.Entry.{Entry}
use Rattle.recorded.specs.declared.entry.Entry.TheVariants.{General, C, Nu, OneClass, Retired}
use Rattle.recorded.specs.declared.entry.Form.{Form}
use Rattle.recorded.specs.declared.entry.Form.TheVariants.{Floats, SignedBytes}
use Rattle.recorded.specs.declared.entry.UnknownEntry.{UnknownEntry}

abbrev pub number_of : Entry → ℕ
number_of General = 0
number_of C = 1
number_of Nu = 2
number_of OneClass = 3
number_of Retired = 4

-- the entry with this number, or a number that no entry has
abbrev pub Names : ℕ → Result Entry UnknownEntry → Type 0
Names w r = MatchResult r (λ entry. number_of entry ≡ w) (λ unknown. (unknown.0 ≡ w) × (4 < w))

abbrev pub form_of : ℕ → Form
form_of w = cond (eqb w 1) SignedBytes Floats
