-- An entry's number lies below the square. Assumes nothing.
use Prim.Native.Nat.{ℕ, ◌+◌, ◌*◌, ◌≤◌, ◌<◌}
use mathlib.Core.List.{List}
use native.Mathlib.Nat.{mul-le-mul}
use lib.Arith.{digits_lt}
use Rattle.kernel.specs.Matrix.{Matrix}

pub record Inside (side c r : ℕ) : Type 0 where
  pub entry : c * side + r < side * side
  pub square : side * side ≤ 262144

pub inside : {side : ℕ} {m : List ℕ} → Matrix side m → (c r : ℕ) → c < side → r < side → Inside side c r
inside w c r hc hr = record { entry = digits_lt hc hr; square = mul-le-mul w.small w.small }
