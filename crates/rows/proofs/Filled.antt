-- A multiple of a row, place by place: each turn stores one place, made of what stands there. Assumes nothing.
use Prim.Native.Nat.{ℕ, zero, suc, ◌+◌, ◌<◌}
use mathlib.Core.List.{List}
use mathlib.Core.Path.{◌≡◌, refl, sym, ap, ◌∙◌}
use mathlib.Core.Logic.{inl, inr}
use native.Mathlib.Nat.{eq-or-lt_of_le, le_of_suc-le-suc}
use native.Mathlib.Omega.{arith}
use lib.Ieee.{Float, nan, binary64, add, mul}
use lib.ListN.{length, get_or, set, length-set}
use lib.Seq.{get_or-set_same, get_or-set_other}
use Rattle.rows.specs.Added.{row_added}
use Rattle.state.specs.Lists.{Problem, State}
use Rattle.state.specs.Fields.{row}

module _ (fill : ℕ → List Float) (place : ℕ → ℕ) (new : ℕ → Float → Float)
    (turn : (k : ℕ) → fill (suc k) ≡ set (fill k) (place k) (new k (get_or (fill k) (place k) nan)))
    (apart : (h k : ℕ) → h < k → place k ≡ place h → ⊥) where
  pub filled_length : (k : ℕ) → length (fill k) ≡ length (fill 0)
  filled_length zero = refl
  filled_length (suc k) = rw (turn k) (simp length-set (filled_length k))

  pub filled_other : (k q : ℕ) → ((h : ℕ) → h < k → q ≡ place h → ⊥) → get_or (fill k) q nan ≡ get_or (fill 0) q nan
  filled_other zero q out = refl
  filled_other (suc k) q out =
      rw (turn k) (get_or-set_other (fill k) (place k) q _ nan (out k (omega arith)) ∙ filled_other k q (λ h g. out h (omega arith)))

  pub filled_at : (k h : ℕ) → h < k → place h < length (fill 0) → get_or (fill k) (place h) nan ≡ new h (get_or (fill 0) (place h) nan)
  filled_at zero h g l = let z : ⊥ = omega arith in absurd z
  filled_at (suc k) h g l =
      rw (turn k) (elim (eq-or-lt_of_le (le_of_suc-le-suc g)) [
        | inl e ↦
            let m : place k < length (fill k) = rw (filled_length k, ← e) l in
            rw e (get_or-set_same (fill k) (place k) _ nan m ∙ ap (new k) (filled_other k (place k) (λ h g. apart h k g)))
        | inr i ↦ get_or-set_other (fill k) (place k) (place h) _ nan (λ e. apart h k i (sym e)) ∙ filled_at k h i l
      ])

-- ---- a multiple of a row

module _ (p : Problem) (s : State) (base : ℕ) (x : Float) (i lo : ℕ) where
  -- what place k becomes
  more : ℕ → Float → Float
  more k g = add binary64 g (mul binary64 x (row p s i (lo + k)))

  pub length_row_added : (k : ℕ) → length (row_added p s base x i lo k) ≡ length s.floats
  unfolding row_added more
  length_row_added = filled_length (row_added p s base x i lo) (λ k. base + (lo + k)) more (λ k. refl) (λ h k g e. omega arith)

  pub row_added_other : (k q : ℕ) → ((h : ℕ) → h < k → q ≡ base + (lo + h) → ⊥) → get_or (row_added p s base x i lo k) q nan ≡ get_or s.floats q nan
  unfolding row_added more
  row_added_other = filled_other (row_added p s base x i lo) (λ k. base + (lo + k)) more (λ k. refl) (λ h k g e. omega arith)

  pub row_added_at : (k h : ℕ) → h < k → base + (lo + h) < length s.floats
      → get_or (row_added p s base x i lo k) (base + (lo + h)) nan ≡ add binary64 (get_or s.floats (base + (lo + h)) nan) (mul binary64 x (row p s i (lo + h)))
  unfolding row_added more
  row_added_at = filled_at (row_added p s base x i lo) (λ k. base + (lo + k)) more (λ k. refl) (λ h k g e. omega arith)
