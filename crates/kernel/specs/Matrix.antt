-- The lent matrix: 8·side·side bytes, column by column (the rule, section 'Kernel column').
use Rattle.std.specs.Prelude.{ℕ, ◌+◌, ◌*◌, ◌≤◌, ◌<◌, not, List, T, Float, length}
use Rattle.std.specs.Float.{binary64}
use Rattle.std.specs.Float.Ieee.{nan_bits}
use Rattle.wire.specs.Wire.{digits, float_at}

-- the entry of column c, row r
abbrev pub entry_at : ℕ → List ℕ → ℕ → ℕ → Float
entry_at side m c r = float_at m (8 * (c * side + r))

-- long enough for its side, and no entry a NaN's pattern
pub record Matrix (side : ℕ) (m : List ℕ) : Type 0 where
  pub small : side ≤ 512
  pub long : 8 * (side * side) ≤ length m
  pub number : (k : ℕ) → k < side * side → T (not (nan_bits binary64 (digits m (8 * k) 8)))
