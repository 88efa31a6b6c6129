-- Refusals 1 and 2: how many samples, and the lengths of what is lent (the rule, section 'What a caller lends and gets').
use Rattle.std.specs.Prelude.{ℕ, ◌*◌, ◌≤◌, Bool, ◌&&◌, cond, ◌≡◌, ltb, leb, eqb, ⊤, Result, Ok, Err}
use Rattle.judge.specs.declared.Refusal.{Refusal}
use Rattle.judge.specs.declared.Refusal.TheVariants.{Samples, Length}

abbrev pub count_good : ℕ → Bool
count_good n = ltb 0 n && leb n 512

-- m bytes of matrix, rc and rh places for the crate's and the home reading, f floats, u numbers and y bytes of scratch
abbrev pub room_good : ℕ → ℕ → ℕ → ℕ → ℕ → ℕ → ℕ → Bool
room_good n m rc rh f u y = eqb m (8 * (n * n)) && leb n rc && leb n rh && leb (7 * n) f && leb (2 * n) u && leb n y

-- `inputs` says whether every other input list has n places
unfoldable pub sizes : ℕ → Bool → ℕ → ℕ → ℕ → ℕ → ℕ → ℕ → Result ⊤ Refusal
sizes n inputs m rc rh f u y = cond (count_good n) (cond (inputs && room_good n m rc rh f u y) (Ok tt) (Err Length)) (Err Samples)

-- what an Ok says of the lengths
pub record Room (n m rc rh f u y : ℕ) : Type 0 where
  pub some : 1 ≤ n
  pub most : n ≤ 512
  pub matrix : m ≡ 8 * (n * n)
  pub crate : n ≤ rc
  pub home : n ≤ rh
  pub floats : 7 * n ≤ f
  pub numbers : 2 * n ≤ u
  pub bytes : n ≤ y
