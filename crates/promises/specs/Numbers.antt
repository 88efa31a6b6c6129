-- Which number a refusal has.
use Rattle.std.specs.Prelude.{ℕ, ◌≤◌, Bool, false, cond, ◌⊎◌, ◌≡◌, Float}
use Rattle.judge.specs.Judge.{floor_good}

-- 14 only where the floor x isn't good
abbrev pub FloorBad : Float → ℕ → Type 0
FloorBad x k = (k ≡ 14) × (floor_good x ≡ false)

-- 1 to 10, and 11 where shrinking is on
abbrev pub Numbered : Float → Bool → ℕ → Type 0
Numbered x shrinking k = ((1 ≤ k) × (k ≤ cond shrinking 11 10)) ⊎ FloorBad x k

-- with retired samples: 1 to 10, 12 and 13
abbrev pub RetiredNumbered : Float → ℕ → Type 0
RetiredNumbered x k = ((1 ≤ k) × (k ≤ 13) × (k ≡ 11 → ⊥)) ⊎ FloorBad x k
