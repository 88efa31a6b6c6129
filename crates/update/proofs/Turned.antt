-- What a position's new weight brings to the fixed gradient. Assumes nothing.
--
-- Main theorems:
--   taken_away: a negated multiple that is added is the multiple that is taken away, bit for bit
--   turned_by_at: what a fixed gradient becomes; `turned_by_other`: all else is as it was; `length_turned_by`: the length too
use Prim.Native.Nat.{ℕ, ◌+◌, ◌<◌}
use native.Mathlib.Nat.{zero-add}
use native.Mathlib.Omega.{arith}
use mathlib.Core.Bool.{Bool, true, false, beq, cond}
use mathlib.Core.List.{List}
use mathlib.Core.Path.{◌≡◌, refl, ap, ◌∙◌}
use lib.Ieee.{Float, nan, binary64, neg, add, sub, mul}
use lib.ListN.{length, get_or}
use Rattle.alpha.specs.Weight.{at_upper}
use Rattle.alpha.specs.declared.Alpha.{Alpha}
use Rattle.rounding.proofs.Products.{mul_neg}
use Rattle.rows.specs.Added.{row_added}
use Rattle.state.specs.Lists.{Problem, State}
use Rattle.state.specs.Fields.{row}
use Rattle.update.specs.Update.{turn_signed, turned_by}
use Rattle.rows.proofs.Filled.{length_row_added, row_added_other, row_added_at}

-- a negated multiple that is added is the multiple that is taken away, bit for bit
pub taken_away : (g x r : Float) → add binary64 g (mul binary64 (neg x) r) ≡ sub binary64 g (mul binary64 x r)
unfolding sub
taken_away g x r = ap (add binary64 g) (mul_neg binary64 x r)

signed_added : (up : Bool) (g x r : Float) → add binary64 g (mul binary64 (turn_signed up x) r) ≡ cond up (sub binary64 g (mul binary64 x r)) (add binary64 g (mul binary64 x r))
signed_added true g x r = taken_away g x r
signed_added false g x r = refl

-- what a fixed gradient g becomes where the row has r, as the Rust has it
abbrev pub turned_place : Bool → Alpha → Float → Float → Float
turned_place up w g r =
    cond (beq up (at_upper w)) g (cond up (sub binary64 g (mul binary64 w.upper r)) (add binary64 g (mul binary64 w.upper r)))

module _ (p : Problem) (s : State) (k : ℕ) (up : Bool) (w : Alpha) (count : ℕ) where
  by_turn : (P : List Float → Type 0) → P s.floats → P (row_added p s p.n (turn_signed up w.upper) k 0 count) → P (turned_by p s k up w count)
  unfolding turned_by
  by_turn P h g = go (beq up (at_upper w))
    where
      go : (t : Bool) → P (cond t s.floats (row_added p s p.n (turn_signed up w.upper) k 0 count))
      go true = h
      go false = g

  -- ---- place by place

  pub length_turned_by : length (turned_by p s k up w count) ≡ length s.floats
  length_turned_by = by_turn (λ f. length f ≡ length s.floats) refl (length_row_added p s p.n (turn_signed up w.upper) k 0 count)

  pub turned_by_other : (q : ℕ) → ((h : ℕ) → h < count → q ≡ p.n + h → ⊥) → get_or (turned_by p s k up w count) q nan ≡ get_or s.floats q nan
  turned_by_other q out =
      by_turn (λ f. get_or f q nan ≡ get_or s.floats q nan) refl
      (row_added_other p s p.n (turn_signed up w.upper) k 0 count q (λ h g e. out h g (omega arith)))

  pub turned_by_at : (h : ℕ) → h < count → p.n + h < length s.floats
      → get_or (turned_by p s k up w count) (p.n + h) nan ≡ turned_place up w (get_or s.floats (p.n + h) nan) (row p s k h)
  unfolding turned_by
  turned_by_at h l m = go (beq up (at_upper w))
    where
      x : Float
      x = turn_signed up w.upper

      g : Float
      g = get_or s.floats (p.n + h) nan

      r : Float
      r = row p s k h

      added : get_or (row_added p s p.n x k 0 count) (p.n + h) nan ≡ add binary64 g (mul binary64 x r)
      added = rw zero-add at (row_added_at p s p.n x k 0 count h l (rw zero-add m))

      go : (t : Bool) → get_or (cond t s.floats (row_added p s p.n x k 0 count)) (p.n + h) nan
          ≡ cond t g (cond up (sub binary64 g (mul binary64 w.upper r)) (add binary64 g (mul binary64 w.upper r)))
      go true = refl
      go false = added ∙ signed_added up g w.upper r
