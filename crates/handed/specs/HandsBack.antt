-- What a C function leaves in the three lists that the host lends to be written, whatever it answers.
use Rattle.std.specs.Prelude.{ℕ, ◌+◌, ◌*◌, ◌≤◌, ◌<◌, List, ◌≡◌, length}
use Rattle.hosted.specs.Hosted.{Handed}
use Rattle.promises.specs.Leaves.{Beyond}
use Rattle.wire.specs.Wire.{digits}

-- n samples, an answer of so many bytes, the bytes as they were lent, what is handed back
pub record HandsBack (n wide : ℕ) (crate_bytes home_bytes answer_bytes : List ℕ) (o : Handed) : Type 0 where
  -- the result isn't 0: both result lists are as they were
  pub results : (o.code ≡ 0 → ⊥) → (o.crate ≡ crate_bytes) × (o.home ≡ home_bytes)
  -- behind n doubles, and behind the answer
  pub crate : Beyond 0 (8 * n) crate_bytes o.crate
  pub home : Beyond 0 (8 * n) home_bytes o.home
  pub answer : Beyond 0 wide answer_bytes o.answer
  -- a shorter answer isn't written
  pub short : length answer_bytes < wide → o.answer ≡ answer_bytes
  -- any other begins with the result
  pub told : wide ≤ length answer_bytes → digits o.answer 0 8 ≡ o.code

-- the tuned functions' answer has 128 bytes; behind its nine words are seven that are 0
pub record HandsWide (n : ℕ) (crate_bytes home_bytes answer_bytes : List ℕ) (o : Handed) : Type 0 where
  pub back : HandsBack n 128 crate_bytes home_bytes answer_bytes o
  pub later : 128 ≤ length answer_bytes → (s : ℕ) → s < 7 → digits o.answer (72 + 8 * s) 8 ≡ 0
