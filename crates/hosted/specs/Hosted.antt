-- Lists and answers as the host's bytes (the rule, section 'What a caller lends and gets').
use Rattle.std.specs.Prelude.{ℕ, zero, suc, ◌+◌, ◌*◌, ◌/◌, ◌%◌, Bool, false, not, ◌&&◌, cond, List, [], ◌∷◌, eqb, leb, Float, length, get_or, set, replicate, ⊤, Result, Ok, Err}
use Rattle.std.specs.Float.{nan, binary64}
use Rattle.std.specs.Float.Ieee.{of_bits}
use Rattle.alpha.specs.Weight as Weight
use Rattle.answer.specs.Answer.{words_of}
use Rattle.answer.specs.Lent.{Lent, lent, Whole}
use Rattle.judge.specs.Refusals.{number, index_of}
use Rattle.judge.specs.Sizes.{sizes}
use Rattle.modes.specs.declared.Mode.{Mode}
use Rattle.modes.specs.declared.Mode.TheVariants.{Crate, Travelling}
use Rattle.tuning.specs.Tuning.{tuned}
use Rattle.tuning.specs.declared.Tuning.{Tuning}
use Rattle.wire.specs.Wire.{digits, float_at, with_digits, with_float}
use Rattle.answer.specs.declared.Answer.{Answer}
use Rattle.judge.specs.declared.Refusal.{Refusal}

-- d with the first floats of the bytes b
unfoldable pub decoded_to : List ℕ → List Float → ℕ → List Float
decoded_to b d zero = d
decoded_to b d (suc k) = set (decoded_to b d k) k (float_at b (8 * k))

-- b with the first floats of d
unfoldable pub stored_to : List Float → List ℕ → ℕ → List ℕ
stored_to d b zero = b
stored_to d b (suc k) = with_float (stored_to d b k) (8 * k) (get_or d k nan)

-- out with the first words of w
unfoldable pub words_to : List ℕ → List ℕ → ℕ → List ℕ
words_to w out zero = out
words_to w out (suc k) = with_digits (words_to w out k) (8 * k) (get_or w k 0) 8

-- the answer's 72 bytes
abbrev pub answered_by : Result Answer Refusal → List ℕ → List ℕ
answered_by o out = words_to (words_of o) out 9

-- .. and of the tuned functions' 128: the seven words behind it are 0
unfoldable pub zeroed_to : List ℕ → ℕ → List ℕ
zeroed_to out zero = out
zeroed_to out (suc k) = with_digits (zeroed_to out k) (72 + 8 * k) 0 8

abbrev pub padded : List ℕ → List ℕ
padded out = zeroed_to out 7

-- a refusal's words: any number and any index
abbrev pub refused_words : ℕ → ℕ → List ℕ
refused_words q i = q ∷ i ∷ 0 ∷ 0 ∷ 0 ∷ 0 ∷ 0 ∷ 0 ∷ 0 ∷ []

abbrev pub refused_by : ℕ → ℕ → List ℕ → List ℕ
refused_by q i out = words_to (refused_words q i) out 9

-- .. and of an outcome whose refusals are told by a number and an index
abbrev pub words_by : {R : Type 0} → (R → ℕ) → (R → ℕ) → Result Answer R → List ℕ
words_by numbered indexed (Ok a) = words_of (Ok a)
words_by numbered indexed (Err refusal) = refused_words (numbered refusal) (indexed refusal)

-- a flag is on when it isn't 0
abbrev pub is_on : ℕ → Bool
is_on flag = not (eqb flag 0)

-- a single float travels as a number that holds its eight bytes
abbrev pub as_float : ℕ → Float
as_float w = of_bits binary64 w

-- a tuning has whole words, and no more than are known
abbrev pub words_at_most : ℕ → List ℕ → Bool
words_at_most most t = eqb (length t % 8) 0 && leb (length t / 8) most

-- two: the floor, and whether ceilings travel; where samples may be retired the floor alone
abbrev pub tuning_known : List ℕ → Bool
tuning_known = words_at_most 2

abbrev pub floor_known : List ℕ → Bool
floor_known = words_at_most 1

-- a word that isn't there is its default
unfoldable pub floor_of : List ℕ → Float
floor_of t = cond (leb 8 (length t)) (float_at t 0) Weight.floor

unfoldable pub word_on : List ℕ → ℕ → Bool
word_on t at = cond (leb (at + 8) (length t)) (is_on (digits t at 8)) false

unfoldable pub mode_of : List ℕ → Mode
mode_of t = cond (word_on t 8) Travelling Crate

abbrev pub tuning_of : List ℕ → Tuning
tuning_of t = tuned (floor_of t) (mode_of t)

-- k bytes are n floats
abbrev pub eights : ℕ → ℕ → Bool
eights n k = eqb (k / 8) n && eqb (k % 8) 0

-- refusals 1 and 2: result lists in bytes, an answer of 72 bytes at least, and the working room that the call brings
unfoldable pub host_sizes : ℕ → Bool → ℕ → ℕ → ℕ → ℕ → Result ⊤ Refusal
host_sizes n inputs m cr h an = sizes n (inputs && leb 72 an) m (cr / 8) (h / 8) 3584 1024 512

abbrev pub byte_sizes : ℕ → Bool → List ℕ → List ℕ → List ℕ → List ℕ → Result ⊤ Refusal
byte_sizes n inputs m cr h an = host_sizes n inputs (length m) (length cr) (length h) (length an)

abbrev pub general_inputs : ℕ → List ℕ → List ℕ → List ℕ → List ℕ → Bool
general_inputs n l c a p = eqb (length l) n && eights n (length c) && eights n (length a) && eights n (length p)

-- that room: lists of zeros for 512 samples
unfoldable pub fresh_places : List Float
fresh_places = replicate 512 Weight.zero

unfoldable pub fresh_floats : List Float
fresh_floats = replicate 3584 Weight.zero

unfoldable pub fresh_numbers : List ℕ
fresh_numbers = replicate 1024 0

unfoldable pub fresh_bytes : List ℕ
fresh_bytes = replicate 512 0

abbrev pub room : Lent
room = lent fresh_places fresh_places fresh_floats fresh_numbers fresh_bytes

-- the floats of a training without an order table
unfoldable pub fresh_sheet : List Float
fresh_sheet = replicate 2560 Weight.zero

-- n floats from their bytes
abbrev pub floats_of : List ℕ → ℕ → List Float
floats_of b n = decoded_to b fresh_places n

-- the result, and the three lists that the host lends to be written
pub record Handed : Type 0 where
  pub code : ℕ
  pub crate : List ℕ
  pub home : List ℕ
  pub answer : List ℕ

abbrev pub handed : ℕ → List ℕ → List ℕ → List ℕ → Handed
handed k cr h an = record { code = k; crate = cr; home = h; answer = an }

-- the readings c and r go out only where the run is accepted
unfoldable pub delivered_with : {R : Type 0} → (R → ℕ) → (R → ℕ) → ℕ → Result Answer R → List Float → List Float → List ℕ → List ℕ → List ℕ → Handed
delivered_with numbered indexed n (Ok a) c r cr h an = handed 0 (stored_to c cr n) (stored_to r h n) (answered_by (Ok a) an)
delivered_with numbered indexed n (Err refusal) c r cr h an = handed (numbered refusal) cr h (refused_by (numbered refusal) (indexed refusal) an)

abbrev pub delivered_by : ℕ → Result Answer Refusal → List Float → List Float → List ℕ → List ℕ → List ℕ → Handed
delivered_by = delivered_with number index_of

unfoldable pub delivered : ℕ → Whole → List ℕ → List ℕ → List ℕ → Handed
delivered n w cr h an = delivered_by n w.out w.left.crate w.left.home cr h an

-- refusals 1 and 2: an answer that is too short stays as it is
unfoldable pub turned_away_by : ℕ → ℕ → List ℕ → List ℕ
turned_away_by q i an = cond (leb 72 (length an)) (refused_by q i an) an

abbrev pub turned_away : Refusal → List ℕ → List ℕ
turned_away refusal = turned_away_by (number refusal) (index_of refusal)

unfoldable pub hosted_by : Result ⊤ Refusal → Handed → List ℕ → List ℕ → List ℕ → Handed
hosted_by (Ok x) w cr h an = w
hosted_by (Err refusal) w cr h an = handed (number refusal) cr h (turned_away refusal an)

-- .. with an answer of 128 bytes
abbrev pub widened : Handed → Handed
widened w = handed w.code w.crate w.home (padded w.answer)

unfoldable pub turned_wide_by : ℕ → ℕ → List ℕ → List ℕ
turned_wide_by q i an = cond (leb 128 (length an)) (padded (refused_by q i an)) an

abbrev pub turned_wide : Refusal → List ℕ → List ℕ
turned_wide refusal = turned_wide_by (number refusal) (index_of refusal)

unfoldable pub hosted_wide : Result ⊤ Refusal → Handed → List ℕ → List ℕ → List ℕ → Handed
hosted_wide (Ok x) w cr h an = widened w
hosted_wide (Err refusal) w cr h an = handed (number refusal) cr h (turned_wide refusal an)
