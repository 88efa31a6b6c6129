-- A pair that the choice gives is a chosen one, under either rule: so its step is no NaN. Assumes nothing.
use Prim.Native.Nat.{ℕ, zero, suc, ◌≤◌}
use mathlib.Core.Bool.{Bool, true, false, beq}
use mathlib.Core.List.{List}
use mathlib.Core.Logic.{inl, inr}
use mathlib.Core.Path.{◌≡◌, refl}
use native.Mathlib.Omega.{arith}
use lib.Dec.{T, eqb}
use lib.Ieee.{Float, lt}
use lib.ListN.{get_or}
use Rattle.std.specs.Prelude.{Some}
use Rattle.alpha.specs.Weight.{zero as nought, weight}
use Rattle.choose_c.specs.Choice.{choice_c}
use Rattle.choose_c.proofs.Rule as C
use Rattle.choose_nu.specs.Choice.{choice_nu}
use Rattle.choose_nu.proofs.Rule as Nu
use Rattle.modes.specs.declared.Mode.{Mode}
use Rattle.partner.specs.Curvature.{gap_of}
use Rattle.modes.specs.declared.Mode.{Mode}
use Rattle.partner.specs.Sides.{rise_of}
use Rattle.rounding.specs.Units.{NotNan}
use Rattle.state.specs.Fields.{gradient, alpha, diagonal, row, positive}
use Rattle.state.specs.Lists.{Problem, State}
use Rattle.update.specs.Update.{ceiling, pair_at}
use Rattle.boxed.specs.Delta.{delta_at}
use Rattle.boxed.specs.Range.{Ceiling, Held, BothHeld, Entry, Divides, Chosen}
use Rattle.boxed.proofs.Kept.{pair_held}
use Rattle.boxed.proofs.Step.{curvature_divides, step_real}

-- by the two labels
ahead : (x y : Bool) (gi gj : Float) → T (lt nought (gap_of y (rise_of x gi) gj)) → Chosen (beq x y) gi gj
ahead true true gi gj h = inl h
ahead true false gi gj h = inl h
ahead false true gi gj h = inr h
ahead false false gi gj h = inr h

module _ (p : Problem) (s : State) (floor eps : Float) (a i j : ℕ) where
  pub chosen_c : choice_c p s floor eps a ≡ Some (i, j) → Chosen (beq (positive s i) (positive s j)) (gradient p s i) (gradient p s j)
  chosen_c e =
      let r = ((C.pair_rule p s a floor eps i j).0 e).1.second in
      ahead (positive s i) (positive s j) (gradient p s i) (gradient p s j) r.after.ahead

  pub chosen_nu : choice_nu p s floor eps a ≡ Some (i, j) → Chosen (beq (positive s i) (positive s j)) (gradient p s i) (gradient p s j)
  chosen_nu e =
      let r = ((Nu.pair_rule p s a floor eps i j).0 e).1.second in
      ahead (positive s i) (positive s j) (gradient p s i) (gradient p s j) r.after.ahead

-- label bytes that are 0 or 1 are equal exactly where the signs are
pub labels_agree : (x y : ℕ) → x ≤ 1 → y ≤ 1 → eqb x y ≡ beq (eqb x 1) (eqb y 1)
labels_agree zero zero h k = refl
labels_agree zero (suc zero) h k = refl
labels_agree (suc zero) zero h k = refl
labels_agree (suc zero) (suc zero) h k = refl
labels_agree (suc (suc x)) y h k = let z : ⊥ = omega arith in absurd z
labels_agree zero (suc (suc y)) h k = let z : ⊥ = omega arith in absurd z
labels_agree (suc zero) (suc (suc y)) h k = let z : ⊥ = omega arith in absurd z

-- ---- the step of positions i and j, as the update takes it

module _ (p : Problem) (s : State) (floor : Float) (i j : ℕ) where
  abbrev alike : Bool
  alike = eqb (get_or s.labels i 0) (get_or s.labels j 0)

  -- what is asked of the two positions: labels that are 0 or 1, and entries of magnitude 2^1000 at the most
  pub record Plain : Type 0 where
    pub label_i : get_or s.labels i 0 ≤ 1
    pub label_j : get_or s.labels j 0 ≤ 1
    pub diagonal_i : Entry (diagonal p s i)
    pub diagonal_j : Entry (diagonal p s j)
    pub entry : Entry (row p s i j)
    pub above : Divides floor

  step_real_at : Plain → Chosen (beq (positive s i) (positive s j)) (gradient p s i) (gradient p s j) → NotNan (delta_at p s floor i j)
  step_real_at w h =
      step_real alike (gradient p s i) (gradient p s j) _ (rw (labels_agree (get_or s.labels i 0) (get_or s.labels j 0) w.label_i w.label_j) h)
      (curvature_divides alike (diagonal p s i) (diagonal p s j) (row p s i j) floor w.diagonal_i w.diagonal_j w.entry w.above)

  -- no step of a pair that the choice gives is NaN
  pub no_nan_c : (eps : Float) (a : ℕ) → Plain → choice_c p s floor eps a ≡ Some (i, j) → NotNan (delta_at p s floor i j)
  no_nan_c eps a w e = step_real_at w (chosen_c p s floor eps a i j e)

  pub no_nan_nu : (eps : Float) (a : ℕ) → Plain → choice_nu p s floor eps a ≡ Some (i, j) → NotNan (delta_at p s floor i j)
  no_nan_nu eps a w e = step_real_at w (chosen_nu p s floor eps a i j e)

  -- and under one ceiling such a step leaves both weights in the box
  pub pair_in_box : (mode : Mode) (b : Float) (bs : List Float) → Ceiling b → Held b (weight (alpha p s i).value (ceiling p mode bs s i)) → Held b (weight (alpha p s j).value (ceiling p mode bs s j)) → NotNan (delta_at p s floor i j)
      → BothHeld b (pair_at p bs mode floor s i j)
  unfolding pair_at
  pair_in_box mode b bs c hi hj h = pair_held b c _ _ hi hj (gradient p s i) (gradient p s j) (diagonal p s i) (diagonal p s j) (row p s i j) alike floor h
