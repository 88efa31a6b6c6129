-- A record of the oracle's answers, in words of eight bytes (oracle/recorded/README.md).
use Rattle.std.specs.Prelude.{ℕ, zero, suc, ◌+◌, ◌*◌, ◌/◌, ◌-◌, cond, List, ltb, leb, eqb, length, take, drop, get_or, set, replicate, Float}
use Rattle.std.specs.Float.{binary64}
use Rattle.std.specs.Float.Ieee.{of_bits, neg}
use Rattle.floats.specs.Helpers.{whole_as_float}
use Rattle.wire.specs.Wire.{digits, with_float}

-- word k, and 0 where the record ends before it
unfoldable pub word_of : List ℕ → ℕ → ℕ
word_of b k = cond (ltb k (length b / 8)) (digits b (8 * k) 8) 0

-- word k as a number of places, and `most` where it is more
unfoldable pub count_of : List ℕ → ℕ → ℕ → ℕ
count_of b k most = cond (ltb (word_of b k) most) (word_of b k) most

-- how many bytes the matrix takes in the record: in form 1 one for each entry
unfoldable pub stored_of : List ℕ → ℕ
stored_of b = cond (eqb (word_of b 19) 1) (count_of b 9 2097152 / 8) (count_of b 9 2097152)

-- the first word of each list that is lent, and of the answer
unfoldable pub labels_at : List ℕ → ℕ
labels_at b = 20 + (stored_of b + 7) / 8

unfoldable pub ceilings_at : List ℕ → ℕ
ceilings_at b = labels_at b + (count_of b 10 1024 + 7) / 8

unfoldable pub alphas_at : List ℕ → ℕ
alphas_at b = ceilings_at b + count_of b 11 1024

unfoldable pub linear_at : List ℕ → ℕ
linear_at b = alphas_at b + count_of b 12 1024

-- the word that counts the retired bytes, which follow it; entry 4 alone has them
unfoldable pub retired_at : List ℕ → ℕ
retired_at b = linear_at b + count_of b 13 1024

unfoldable pub answer_at : List ℕ → ℕ
answer_at b = cond (eqb (word_of b 1) 4) (retired_at b + 1 + (count_of b (retired_at b) 1024 + 7) / 8) (retired_at b)

-- how many places each reading has in the record
unfoldable pub told_of : List ℕ → ℕ
told_of b = cond (eqb (word_of b (answer_at b)) 0) (count_of b 2 512) 0

-- the n of the scratch that was used: in runs alone, those that end in refusal 11 too
unfoldable pub used_of : List ℕ → ℕ
used_of b = cond (eqb (word_of b (answer_at b)) 11) (count_of b 2 512) (told_of b)

-- the n bytes from word `at` on, and none where the record ends before them
unfoldable pub part_of : List ℕ → ℕ → ℕ → List ℕ
part_of b at n = cond (leb (8 * at + n) (length b)) (take n (drop (8 * at) b)) (take 0 b)

-- room for floats
abbrev pub no_floats : List Float
no_floats = replicate 1024 (of_bits binary64 0)

-- d with n words, as floats, from word `at` on
unfoldable pub floats_to : List ℕ → ℕ → List Float → ℕ → List Float
floats_to b at d zero = d
floats_to b at d (suc k) = set (floats_to b at d k) k (of_bits binary64 (word_of b (at + k)))

-- a signed byte as a float
unfoldable pub signed_byte : ℕ → Float
signed_byte x = cond (ltb x 128) (whole_as_float x) (neg (whole_as_float (256 - x)))

-- m with n entries of eight bytes, one for each signed byte of s
unfoldable pub expanded_to : List ℕ → List ℕ → ℕ → List ℕ
expanded_to s m zero = m
expanded_to s m (suc k) = with_float (expanded_to s m k) (8 * k) (signed_byte (get_or s k 0))
