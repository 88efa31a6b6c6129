-- The gradients after a step, place by place. Assumes nothing.
--
-- Main theorems:
--   shifted_to_at: each of the first k gradients is what it was, plus the sum of both rows' changes, which is rounded first
--   shifted_to_other: all from place k on is as it was
--   length_shifted_to: the list is as long as before
use Prim.Native.Nat.{ℕ, ◌≤◌, ◌<◌}
use mathlib.Core.Path.{◌≡◌, refl}
use native.Mathlib.Omega.{arith}
use lib.Ieee.{Float, nan, binary64, add, mul}
use lib.ListN.{length, get_or}
use Rattle.rows.proofs.Filled.{filled_length, filled_other, filled_at}
use Rattle.state.specs.Lists.{Problem, State}
use Rattle.state.specs.Fields.{row}
use Rattle.update.specs.Update.{shifted_to}

module _ (p : Problem) (s : State) (i j : ℕ) (xi xj : Float) where
  both : ℕ → Float → Float
  both k g = add binary64 g (add binary64 (mul binary64 (row p s i k) xi) (mul binary64 (row p s j k) xj))

  pub length_shifted_to : (k : ℕ) → length (shifted_to p s i j xi xj k) ≡ length s.floats
  unfolding shifted_to both
  length_shifted_to = filled_length (shifted_to p s i j xi xj) (λ k. k) both (λ k. refl) (λ h k g e. omega arith)

  pub shifted_to_other : (k q : ℕ) → k ≤ q → get_or (shifted_to p s i j xi xj k) q nan ≡ get_or s.floats q nan
  unfolding shifted_to both
  shifted_to_other k q l = filled_other (shifted_to p s i j xi xj) (λ k. k) both (λ k. refl) (λ h k g e. omega arith) k q (λ h g e. omega arith)

  pub shifted_to_at : (k h : ℕ) → h < k → h < length s.floats
      → get_or (shifted_to p s i j xi xj k) h nan ≡ add binary64 (get_or s.floats h nan) (add binary64 (mul binary64 (row p s i h) xi) (mul binary64 (row p s j h) xj))
  unfolding shifted_to both
  shifted_to_at = filled_at (shifted_to p s i j xi xj) (λ k. k) both (λ k. refl) (λ h k g e. omega arith)
