-- When what a call left agrees with what is recorded.
use Rattle.std.specs.Prelude.{ℕ, zero, suc, ◌+◌, ◌%◌, Bool, true, cond, ◌&&◌, List, ltb, eqb, get_or, set, Float}
use Rattle.std.specs.Float.{binary64, nan}
use Rattle.std.specs.Float.Ieee.{of_bits, to_bits}
use Rattle.recorded.specs.Record.{word_of}

-- x and y are the same at each of the first m places
unfoldable pub same_below : (ℕ → ℕ) → (ℕ → ℕ) → ℕ → Bool
same_below x y zero = true
same_below x y (suc k) = same_below x y k && eqb (x k) (y k)

abbrev pub pattern_in : List Float → ℕ → ℕ
pattern_in f k = to_bits binary64 (get_or f k nan)

abbrev pub number_in : List ℕ → ℕ → ℕ
number_in u k = get_or u k 0

-- the pattern, by p, of place k of a list, which past its end is read as x
abbrev pub pattern_by : {A : Type 0} → (A → ℕ) → A → List A → ℕ → ℕ
pattern_by p x d k = p (get_or d k x)

abbrev pub word_from : List ℕ → ℕ → ℕ → ℕ
word_from b at k = word_of b (at + k)

-- what is written to place k before a call: the pattern of the float 2^52 + k, or a byte that is no label
unfoldable pub mark_of : ℕ → ℕ
mark_of k = 0x4330000000000000 + k % 4096

unfoldable pub byte_mark_of : ℕ → ℕ
byte_mark_of k = 2 + k % 251

abbrev pub float_mark_of : ℕ → Float
float_mark_of k = of_bits binary64 (mark_of k)

unfoldable pub marks_to : {A : Type 0} → (ℕ → A) → List A → ℕ → List A
marks_to mark u zero = u
marks_to mark u (suc k) = set (marks_to mark u k) k (mark k)

-- what must stand at place k after it: +0 in the used places of the scratch, else the mark
unfoldable pub left_of : (ℕ → ℕ) → ℕ → ℕ → ℕ
left_of mark used k = cond (ltb k used) 0 (mark k)

-- in a reading: n words from word `at` on, then the marks
unfoldable pub reading_of : List ℕ → ℕ → ℕ → ℕ → ℕ
reading_of b at n k = cond (ltb k n) (word_of b (at + k)) (mark_of k)

-- a word of the answer; where a run met zeros of different sign (z is 1), a rho of −0 counts as +0
unfoldable pub loose_of : ℕ → ℕ → ℕ → ℕ
loose_of z i w = cond (eqb z 1 && eqb i 2 && eqb w 0x8000000000000000) 0 w

abbrev pub loose_in : ℕ → List ℕ → ℕ → ℕ
loose_in z a k = loose_of z k (number_in a k)

abbrev pub loose_from : ℕ → List ℕ → ℕ → ℕ → ℕ
loose_from z b at k = loose_of z k (word_from b at k)
