-- A place of a field lies in its list. Assumes nothing.
use Prim.Native.Nat.{ℕ, ◌+◌, ◌*◌, ◌≤◌, ◌<◌}
use native.Mathlib.Nat.{mul-le-mul}
use lib.Arith.{digits_lt}

pub record Within (n f i count : ℕ) : Type 0 where
  pub place : f * n + i < count * n
  pub few : count * n ≤ 3584

pub within : (n f i count : ℕ) → i < n → n ≤ 512 → f < count → count ≤ 7 → Within n f i count
within n f i count h l k m = record { place = digits_lt k h; few = mul-le-mul m l }
