-- Floats as whole numbers of their format's smallest value, 2 ^ -low (2 ^ -1074 for an f64): the words in which the laws of proofs/ are stated.
use Rattle.std.specs.Prelude.{◌≡◌, ◌↔◌, Bool, false, not, cond, ℕ, ◌+◌, ◌-◌, ◌*◌, ◌/◌, ◌^◌, ◌≤◌, ◌<◌, pos, T, Float}
use Rattle.std.specs.Float.{nan, inf, fin, Format}
use Rattle.std.specs.Float.Ieee.{low, up, down, round, fits, is_nan, lt, le, eq}
use Rattle.std.specs.Float.Ieee.Scale.{overflow}

-- +0
abbrev pub nought : Float
nought = fin false 0 (pos 0)

-- 2
abbrev pub exact_two : Float
exact_two = fin false 1 (pos 1)

-- no NaN
abbrev pub NotNan : Float → Type 0
NotNan x = T (not (is_nan x))

-- a value of the format that is no NaN
pub record Number (f : Format) (x : Float) : Type 0 where
  pub fit : T (fits f x)
  pub real : NotNan x

-- ---- a value in units

-- the sign, a zero's too
abbrev pub negative : Float → Bool
negative nan = false
negative (inf s) = s
negative (fin s m e) = s

-- an infinity counts as twice what overflows: with a finite value taken off, it still overflows
abbrev pub infinite : Format → ℕ
infinite f = overflow f + overflow f

-- the magnitude in units: exact, where the format holds the value
abbrev pub magnitude : Format → Float → ℕ
magnitude f nan = 0
magnitude f (inf s) = infinite f
magnitude f (fin s m e) = m * up e * 2 ^ low f / down e

-- how far x lies above zero
unfoldable pub plus : Format → Float → ℕ
plus f x = cond (negative x) 0 (magnitude f x)

-- how far x lies below zero
unfoldable pub minus : Format → Float → ℕ
minus f x = cond (negative x) (magnitude f x) 0

-- x is a number, a units above zero and b below: one of the two is 0
pub record Parts (f : Format) (x : Float) (a b : ℕ) : Type 0 where
  pub number : Number f x
  pub plus_is : plus f x ≡ a
  pub minus_is : minus f x ≡ b

-- x is a number of magnitude 2 ^ k units at the most
pub record Within (f : Format) (k : ℕ) (x : Float) : Type 0 where
  pub number : Number f x
  pub above : plus f x ≤ 2 ^ k
  pub below : minus f x ≤ 2 ^ k

-- ---- rounding

-- what n units become when they are rounded once
unfoldable pub rounded : Format → ℕ → ℕ
rounded f n = plus f (round f false n (2 ^ low f))

-- x is a − b units, rounded once
abbrev pub Rounds : Format → Float → ℕ → ℕ → Type 0
Rounds f x a b = Parts f x (rounded f (a - b)) (rounded f (b - a))

-- ---- the order

-- x and y compare as the whole numbers a and b do
pub record Compared (x y : Float) (a b : ℕ) : Type 0 where
  pub less : T (lt x y) ↔ (a < b)
  pub most : T (le x y) ↔ (a ≤ b)
  pub same : T (eq x y) ↔ (a ≡ b)
  pub not_less : T (not (lt x y)) ↔ (b ≤ a)
  pub not_most : T (not (le x y)) ↔ (b < a)
