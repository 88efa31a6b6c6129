-- An update by a pair that stands leaves alike what was alike. Assumes nothing.
use Prim.Native.Nat.{ℕ, ◌+◌, ◌*◌, ◌<◌, ◌≤◌}
use mathlib.Core.Bool.{Bool, true, false, cond}
use mathlib.Core.List.{List}
use mathlib.Core.Path.{◌≡◌, sym, ap, ◌∙◌}
use native.Mathlib.Decide.{ℕ_discrete}
use native.Mathlib.Omega.{arith}
use lib.Dec.{eqb}
use lib.Ieee.{Float, binary64, add, sub, mul}
use lib.ListN.{length}
use Rattle.alpha.specs.Weight.{weight}
use Rattle.alpha.specs.declared.Alpha.{Alpha}
use Rattle.kernel.specs.Row.{kernel_index}
use Rattle.kernel.specs.declared.Kind.{Kind}
use Rattle.modes.specs.Modes.{travels}
use Rattle.modes.specs.declared.Mode.{Mode}
use Rattle.state.specs.Fields.{gradient, alpha, bound}
use Rattle.state.specs.Lists.{Problem, problem, State}
use Rattle.update.specs.Pair.{pair_of}
use Rattle.update.specs.Update.{ceiling_in, ceiling, pair_at, updated_state}
use Rattle.update.specs.declared.Pair.{Pair}
use Rattle.update.proofs.Left.{alpha_i, alpha_j, alpha_other, behind, gradient_active}
use Rattle.standing.proofs.Alike.{Alike, SameBounds}

module _ (stands : ℕ → Bool) (n side : ℕ) (kind : Kind) (m m' : List ℕ) (b c : List Float) (B : SameBounds stands n b c) (mode : Mode) (floor : Float) where
  abbrev p : Problem
  p = problem n side kind m

  abbrev q : Problem
  q = problem n side kind m'

  module _ (s t : State) (A : Alike stands p q s t) (long : 7 * n ≤ length s.floats) (long' : 7 * n ≤ length t.floats)
      (i j : ℕ) (I : i < n) (J : j < n) (hi : stands i ≡ true) (hj : stands j ≡ true) where
    pair_by : (x x' y y' z z' v v' gi gi' gj gj' di di' dj dj' r r' : Float) (a a' e e' : ℕ)
        → x ≡ x' → y ≡ y' → z ≡ z' → v ≡ v' → gi ≡ gi' → gj ≡ gj' → di ≡ di' → dj ≡ dj' → r ≡ r' → a ≡ a' → e ≡ e'
        → pair_of (weight x y) (weight z v) gi gj di dj r (eqb a e) floor ≡ pair_of (weight x' y') (weight z' v') gi' gj' di' dj' r' (eqb a' e') floor
    pair_by x x' y y' z z' v v' gi gi' gj gj' di di' dj dj' r r' a a' e e' q1 q2 q3 q4 q5 q6 q7 q8 q9 q10 q11 = rw (q1, q2, q3, q4, q5, q6, q7, q8, q9, q10, q11)

    -- whichever ceiling the mode takes
    ceiling_same : (k : ℕ) → k < n → stands k ≡ true → ceiling p mode b s k ≡ ceiling q mode c t k
    unfolding ceiling_in
    ceiling_same k K h = go (travels mode)
      where
        go : (x : Bool) → cond x (alpha p s k).upper (bound b k) ≡ cond x (alpha q t k).upper (bound c k)
        go true = A.uppers k K h
        go false = B k K h

    pair_same : pair_at p b mode floor s i j ≡ pair_at q c mode floor t i j
    unfolding pair_at
    pair_same =
        pair_by _ _ _ _ _ _ _ _ _ _ _ _ _ _ _ _ _ _ _ _ _ _ (A.weights i I) (ceiling_same i I hi) (A.weights j J) (ceiling_same j J hj) (A.gradients i I hi) (A.gradients j J hj)
        (A.diagonals i I hi) (A.diagonals j J hj) (A.rows i j I J hi hj) (A.labels i I hi) (A.labels j J hj)

    moved_by : (u u' : Pair) (x x' y y' g g' r r' o o' : Float) → u ≡ u' → x ≡ x' → y ≡ y' → g ≡ g' → r ≡ r' → o ≡ o'
        → add binary64 g (add binary64 (mul binary64 r (sub binary64 u.i.value x)) (mul binary64 o (sub binary64 u.j.value y)))
        ≡ add binary64 g' (add binary64 (mul binary64 r' (sub binary64 u'.i.value x')) (mul binary64 o' (sub binary64 u'.j.value y')))
    moved_by u u' x x' y y' g g' r r' o o' q1 q2 q3 q4 q5 q6 = rw (q1, q2, q3, q4, q5, q6)

    abbrev s1 : State
    s1 = updated_state p b mode floor s i j n

    abbrev t1 : State
    t1 = updated_state q c mode floor t i j n

    gradient_same : (k : ℕ) → k < n → stands k ≡ true → gradient p s1 k ≡ gradient q t1 k
    gradient_same k K h =
        gradient_active p b mode floor s i j n I J (omega arith) long k K
        ∙ moved_by (pair_at p b mode floor s i j) (pair_at q c mode floor t i j) _ _ _ _ _ _ _ _ _ _
        pair_same (A.weights i I) (A.weights j J) (A.gradients k K h) (A.rows i k I K hi h) (A.rows j k J K hj h)
        ∙ sym (gradient_active q c mode floor t i j n I J (omega arith) long' k K)

    -- the record of a position, by whether it is of the pair
    weight_same : (k : ℕ) → k < n → Dec (k ≡ j) → Dec (k ≡ i) → ((alpha p s1 k).value ≡ (alpha q t1 k).value) × (stands k ≡ true → (alpha p s1 k).upper ≡ (alpha q t1 k).upper)
    weight_same k K (yes z) y = rw z (
      ap (λ (w : Alpha). w.value) (alpha_j p b mode floor s i j n I J (omega arith) long) ∙ ap (λ (u : Pair). u.j.value) pair_same
          ∙ sym (ap (λ (w : Alpha). w.value) (alpha_j q c mode floor t i j n I J (omega arith) long')),
      λ h. ap (λ (w : Alpha). w.upper) (alpha_j p b mode floor s i j n I J (omega arith) long) ∙ ceiling_same j J hj
          ∙ sym (ap (λ (w : Alpha). w.upper) (alpha_j q c mode floor t i j n I J (omega arith) long')),
    )
    weight_same k K (no z) (yes y) = rw y (
      ap (λ (w : Alpha). w.value) (alpha_i p b mode floor s i j n I J (omega arith) long (λ e. z (y ∙ e))) ∙ ap (λ (u : Pair). u.i.value) pair_same
          ∙ sym (ap (λ (w : Alpha). w.value) (alpha_i q c mode floor t i j n I J (omega arith) long' (λ e. z (y ∙ e)))),
      λ h. ap (λ (w : Alpha). w.upper) (alpha_i p b mode floor s i j n I J (omega arith) long (λ e. z (y ∙ e))) ∙ ceiling_same i I hi
          ∙ sym (ap (λ (w : Alpha). w.upper) (alpha_i q c mode floor t i j n I J (omega arith) long' (λ e. z (y ∙ e)))),
    )
    weight_same k K (no z) (no y) = (
      ap (λ (w : Alpha). w.value) (alpha_other p b mode floor s i j n I J (omega arith) long k K y z) ∙ A.weights k K
          ∙ sym (ap (λ (w : Alpha). w.value) (alpha_other q c mode floor t i j n I J (omega arith) long' k K y z)),
      λ h. ap (λ (w : Alpha). w.upper) (alpha_other p b mode floor s i j n I J (omega arith) long k K y z) ∙ A.uppers k K h
          ∙ sym (ap (λ (w : Alpha). w.upper) (alpha_other q c mode floor t i j n I J (omega arith) long' k K y z)),
    )

    pub updated_alike : Alike stands p q s1 t1
    updated_alike = record {
      gradients = gradient_same;
      weights = λ k K. (weight_same k K (ℕ_discrete k j) (ℕ_discrete k i)).0;
      uppers = λ k K h. (weight_same k K (ℕ_discrete k j) (ℕ_discrete k i)).1 h;
      terms = λ k K h. behind p b mode floor s i j n I J (omega arith) long (4 * n + k) (omega arith) ∙ A.terms k K h
          ∙ sym (behind q c mode floor t i j n I J (omega arith) long' (4 * n + k) (omega arith));
      labels = A.labels;
      diagonals = λ k K h. behind p b mode floor s i j n I J (omega arith) long (5 * n + kernel_index n s.numbers k) (omega arith) ∙ A.diagonals k K h
          ∙ sym (behind q c mode floor t i j n I J (omega arith) long' (5 * n + kernel_index n t.numbers k) (omega arith));
      rows = A.rows;
    }
