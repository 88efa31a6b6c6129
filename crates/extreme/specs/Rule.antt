-- An extreme in the words of the written rule: what is true of the one that holds it, with no running best (the rule, sections 'Pair choice').
-- A NaN is no number, and is passed over; the infinities are numbers.
use Rattle.std.specs.Prelude.{ℕ, ◌<◌, Bool, true, ◌⊎◌, ◌≡◌, T, Float}
use Rattle.std.specs.Float.{inf}
use Rattle.std.specs.Float.Ieee.{lt, le}
use Rattle.rounding.specs.Units.{NotNan}

-- among the eligible of the first m, i has a number that is R-best, and S-better than each later one
pub record Last (R S : Float → Float → Bool) (may : ℕ → Bool) (value : ℕ → Float) (m i : ℕ) : Type 0 where
  pub inside : i < m
  pub eligible : T (may i)
  pub number : NotNan (value i)
  pub most : (k : ℕ) → k < m → T (may k) → NotNan (value k) → T (R (value k) (value i))
  pub last : (k : ℕ) → i < k → k < m → T (may k) → NotNan (value k) → T (S (value k) (value i))

-- every eligible number is at most i's, and each later one is below it
abbrev pub LastGreatest : (ℕ → Bool) → (ℕ → Float) → ℕ → ℕ → Type 0
LastGreatest = Last le lt

-- every eligible number is at least i's, and each later one is above it
abbrev pub LastLeast : (ℕ → Bool) → (ℕ → Float) → ℕ → ℕ → Type 0
LastLeast = Last (λ x y. le y x) (λ x y. lt y x)

-- every eligible number is at most i's, each earlier one is below it, and i's is above minus infinity
pub record FirstGreatest (may : ℕ → Bool) (value : ℕ → Float) (m i : ℕ) : Type 0 where
  pub inside : i < m
  pub eligible : T (may i)
  pub number : T (lt (inf true) (value i))
  pub most : (k : ℕ) → k < m → T (may k) → NotNan (value k) → T (le (value k) (value i))
  pub first : (k : ℕ) → k < i → T (may k) → NotNan (value k) → T (lt (value k) (value i))

-- x is the extreme: the value of the one that holds it, and minus infinity where nobody does
abbrev pub Top : (ℕ → Type 0) → (ℕ → Float) → Float → Type 0
Top Holds value x = ((i : ℕ) × Holds i × (x ≡ value i)) ⊎ (((i : ℕ) → Holds i → ⊥) × (x ≡ inf true))

-- who is asked where nobody is retired
abbrev pub everybody : ℕ → Bool
everybody k = true
