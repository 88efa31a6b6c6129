-- Two states that are alike over what stands choose the same pair. Assumes nothing.
use Prim.Native.Nat.{ℕ, ◌<◌, ◌≤◌}
use mathlib.Core.Bool.{Bool, true, false, ◌&&◌}
use mathlib.Core.Path.{◌≡◌, refl, ap, ap₂, ◌∙◌}
use native.Mathlib.Omega.{arith}
use lib.Dec.{eqb}
use lib.Ieee.{Float, inf, lt}
use Rattle.std.proofs.lemmas.Option.{none-some}
use Rattle.std.specs.Prelude.{Option, Some, None, is_some}
use Rattle.alpha.specs.Weight.{weight, zero}
use Rattle.alpha.specs.declared.Alpha.{Alpha}
use Rattle.choose_c.specs.Choice.{stop_c}
use Rattle.choose_c.specs.declared.Extremes.{Extremes}
use Rattle.choose_nu.specs.Choice.{of_label, stop_nu}
use Rattle.extreme.specs.Best.{at_least, above, at_most}
use Rattle.extreme.specs.declared.Extreme.{Extreme}
use Rattle.extreme.proofs.Alike.{over_alike, best_eligible}
use Rattle.partner.specs.Curvature.{gap_of}
use Rattle.partner.specs.Second.{place_of, follows, gain_of, paired, paired_with}
use Rattle.partner.proofs.Rule.{at_place, paired_is}
use Rattle.partner.specs.Sides.{rises_of, falls_of, rise_of, fall_of, may_rise, may_fall, rise, fall}
use Rattle.rounding.proofs.Order.{holds}
use Rattle.state.specs.Fields.{gradient, alpha, positive}
use Rattle.state.specs.Lists.{Problem, State}
use Rattle.standing.proofs.Alike.{Alike}
use Rattle.standing.specs.Over.{second_over, choice_over, extremes_over, choice_c_over, risen_over, fallen_over, choice_nu_over}

first_true : (x y : Bool) → (x && y) ≡ true → x ≡ true
first_true true y e = refl
first_true false y e = e

pub stop_by : (u u' d d' : Bool → Extreme) (eps : Float) → ((x : Bool) → u x ≡ u' x) → ((x : Bool) → d x ≡ d' x) → stop_nu u d eps ≡ stop_nu u' d' eps
stop_by u u' d d' eps h k = rw (h true, h false, k true, k false)

module _ (stands : ℕ → Bool) (p q : Problem) (s t : State) (A : Alike stands p q s t) where
  pub positive_same : (k : ℕ) → k < p.n → stands k ≡ true → positive s k ≡ positive t k
  positive_same k l h = ap (λ y. eqb y 1) (A.labels k l h)

  pub alpha_same : (k : ℕ) → k < p.n → stands k ≡ true → alpha p s k ≡ alpha q t k
  alpha_same k l h = ap₂ weight (A.weights k l) (A.uppers k l h)

  may_rise_law : (k : ℕ) → k < p.n → stands k ≡ true → may_rise p s k ≡ may_rise q t k
  may_rise_law k l h = ap₂ rises_of (positive_same k l h) (alpha_same k l h)

  may_fall_law : (k : ℕ) → k < p.n → stands k ≡ true → may_fall p s k ≡ may_fall q t k
  may_fall_law k l h = ap₂ falls_of (positive_same k l h) (alpha_same k l h)

  rise_same : (k : ℕ) → k < p.n → stands k ≡ true → rise p s k ≡ rise q t k
  rise_same k l h = ap₂ rise_of (positive_same k l h) (A.gradients k l h)

  fall_same : (k : ℕ) → k < p.n → stands k ≡ true → fall p s k ≡ fall q t k
  fall_same k l h = ap₂ fall_of (positive_same k l h) (A.gradients k l h)

  module _ (a : ℕ) (l : a ≤ p.n) where
    -- ---- the extremes

    pub extremes_alike : extremes_over stands p s a ≡ extremes_over stands q t a
    unfolding extremes_over
    extremes_alike =
        ap₂ (λ (x y : Extreme). record { gmax1 = x; gmax2 = y })
        (over_alike at_least (inf true) stands (may_rise p s) (may_rise q t) (rise p s) (rise q t) a (λ k c h. (may_rise_law k (omega arith) h, λ z. rise_same k (omega arith) h)))
        (over_alike at_least (inf true) stands (may_fall p s) (may_fall q t) (fall p s) (fall q t) a (λ k c h. (may_fall_law k (omega arith) h, λ z. fall_same k (omega arith) h)))

    pub risen_alike : (x : Bool) → risen_over stands p s a x ≡ risen_over stands q t a x
    unfolding risen_over
    risen_alike x =
        over_alike above (inf true) stands (λ k. of_label x (positive s k) && may_rise p s k) (λ k. of_label x (positive t k) && may_rise q t k) (rise p s) (rise q t) a
        (λ k c h. (ap₂ (λ (y z : Bool). of_label x y && z) (positive_same k (omega arith) h) (may_rise_law k (omega arith) h), λ z. rise_same k (omega arith) h))

    pub fallen_alike : (x : Bool) → fallen_over stands p s a x ≡ fallen_over stands q t a x
    unfolding fallen_over
    fallen_alike x =
        over_alike above (inf true) stands (λ k. of_label x (positive s k) && may_fall p s k) (λ k. of_label x (positive t k) && may_fall q t k) (fall p s) (fall q t) a
        (λ k c h. (ap₂ (λ (y z : Bool). of_label x y && z) (positive_same k (omega arith) h) (may_fall_law k (omega arith) h), λ z. fall_same k (omega arith) h))

    -- ---- the second, and the choice: the holders of the leads stand

    module _ (floor : Float) (lead lead' : Bool → Extreme) (same : (x : Bool) → lead x ≡ lead' x)
        (holder : (x : Bool) (i : ℕ) → (lead x).holder ≡ Some i → (i < a) × (stands i ≡ true)) where
      follows_by : (x x' : Bool) (e e' : Extreme) (w w' : Alpha) (g g' : Float) → x ≡ x' → e ≡ e' → w ≡ w' → g ≡ g'
          → (is_some e.holder && (falls_of x w && lt zero (gap_of x e.value g))) ≡ (is_some e'.holder && (falls_of x' w' && lt zero (gap_of x' e'.value g')))
      follows_by x x' e e' w w' g g' c d f h = rw (c, d, f, h)

      lead_same : (j : ℕ) → j < p.n → stands j ≡ true → lead (positive s j) ≡ lead' (positive t j)
      lead_same j c h = ap lead (positive_same j c h) ∙ same (positive t j)

      follows_same : (j : ℕ) → j < p.n → stands j ≡ true → follows p s lead j ≡ follows q t lead' j
      follows_same j c h =
          follows_by (positive s j) (positive t j) (lead (positive s j)) (lead' (positive t j)) (alpha p s j) (alpha q t j) (gradient p s j) (gradient q t j)
          (positive_same j c h) (lead_same j c h) (alpha_same j c h) (A.gradients j c h)

      gain_by : (top : Float) (i j : ℕ) → i < p.n → j < p.n → stands i ≡ true → stands j ≡ true → gain_of p s floor top i j ≡ gain_of q t floor top i j
      gain_by top i j ci cj hi hj =
          rw (positive_same i ci hi, positive_same j cj hj, A.gradients j cj hj, A.diagonals i ci hi, A.diagonals j cj hj, A.rows i j ci cj hi hj)

      gain_same : (j : ℕ) → j < p.n → stands j ≡ true → follows p s lead j ≡ true
          → gain_of p s floor (lead (positive s j)).value (place_of (lead (positive s j)).holder) j
          ≡ gain_of q t floor (lead' (positive t j)).value (place_of (lead' (positive t j)).holder) j
      gain_same j c h f =
          let e = lead (positive s j) in
          let u = holder (positive s j) (place_of e.holder) (at_place e.holder ((holds _).1 (first_true (is_some e.holder) _ f))) in
          gain_by e.value (place_of e.holder) j (omega (arith, u.0)) c u.1 h
          ∙ ap (λ (x : Extreme). gain_of q t floor x.value (place_of x.holder) j) (lead_same j c h)

      second_alike : second_over stands p s floor lead a ≡ second_over stands q t floor lead' a
      unfolding second_over
      second_alike =
          over_alike at_most (inf false) stands (follows p s lead) (follows q t lead')
          (λ j. gain_of p s floor (lead (positive s j)).value (place_of (lead (positive s j)).holder) j)
          (λ j. gain_of q t floor (lead' (positive t j)).value (place_of (lead' (positive t j)).holder) j) a
          (λ j c h. (follows_same j (omega arith) h, gain_same j (omega arith) h))

      second_stands : (j : ℕ) → (second_over stands p s floor lead a).holder ≡ Some j → (j < a) × (stands j ≡ true)
      unfolding second_over
      second_stands j e =
          let r = best_eligible at_most (inf false) (λ j. stands j && follows p s lead j) (λ j. gain_of p s floor (lead (positive s j)).value (place_of (lead (positive s j)).holder) j) a j e in
          (r.0, first_true (stands j) (follows p s lead j) r.1)

      pub choice_alike : (stop : Bool) → choice_over stands p s floor lead stop a ≡ choice_over stands q t floor lead' stop a
      unfolding choice_over
      choice_alike true = refl
      choice_alike false = go (second_over stands p s floor lead a).holder refl ∙ ap (λ (e : Extreme). paired_with (λ j. (lead' (positive t j)).holder) e.holder) second_alike
        where
          go : (h : Option ℕ) → (second_over stands p s floor lead a).holder ≡ h → paired_with (λ j. (lead (positive s j)).holder) h ≡ paired_with (λ j. (lead' (positive t j)).holder) h
          go (Some j) e = let r = second_stands j e in ap (λ (x : Extreme). paired x.holder j) (lead_same j (omega (arith, r.0)) r.1)
          go None e = refl

      -- both of a pair stand
      pub pair_stands : (stop : Bool) (i j : ℕ) → choice_over stands p s floor lead stop a ≡ Some (i, j) → ((i < a) × (stands i ≡ true)) × ((j < a) × (stands j ≡ true))
      unfolding choice_over
      pair_stands true i j e = absurd (none-some (i, j) e)
      pair_stands false i j e = go (second_over stands p s floor lead a).holder refl e
        where
          go : (h : Option ℕ) → (second_over stands p s floor lead a).holder ≡ h → paired_with (λ j. (lead (positive s j)).holder) h ≡ Some (i, j)
              → ((i < a) × (stands i ≡ true)) × ((j < a) × (stands j ≡ true))
          go (Some k) z w =
              let r = paired_is (lead (positive s k)).holder k i j w in
              (holder (positive s k) i r.0, second_stands j (z ∙ ap Some r.1))
          go None z w = absurd (none-some (i, j) w)

    -- ---- by rule

    gmax1_stands : (i : ℕ) → (extremes_over stands p s a).gmax1.holder ≡ Some i → (i < a) × (stands i ≡ true)
    unfolding extremes_over
    gmax1_stands i e =
        let r = best_eligible at_least (inf true) (λ k. stands k && may_rise p s k) (rise p s) a i e in (r.0, first_true (stands i) (may_rise p s i) r.1)

    risen_stands : (x : Bool) (i : ℕ) → (risen_over stands p s a x).holder ≡ Some i → (i < a) × (stands i ≡ true)
    unfolding risen_over
    risen_stands x i e =
        let r = best_eligible above (inf true) (λ k. stands k && (of_label x (positive s k) && may_rise p s k)) (rise p s) a i e in (r.0, first_true (stands i) _ r.1)

    pub choice_c_alike : (floor eps : Float) → choice_c_over stands p s floor eps a ≡ choice_c_over stands q t floor eps a
    unfolding choice_c_over
    choice_c_alike floor eps =
        choice_alike floor (λ x. (extremes_over stands p s a).gmax1) (λ x. (extremes_over stands q t a).gmax1) (λ x. ap (λ (e : Extremes). e.gmax1) extremes_alike) (λ x. gmax1_stands)
        (stop_c (extremes_over stands p s a) eps)
        ∙ ap (λ (e : Extremes). choice_over stands q t floor (λ x. (extremes_over stands q t a).gmax1) (stop_c e eps) a) extremes_alike

    pub choice_nu_alike : (floor eps : Float) → choice_nu_over stands p s floor eps a ≡ choice_nu_over stands q t floor eps a
    unfolding choice_nu_over
    choice_nu_alike floor eps =
        choice_alike floor (risen_over stands p s a) (risen_over stands q t a) risen_alike risen_stands (stop_nu (risen_over stands p s a) (fallen_over stands p s a) eps)
        ∙ ap (λ (x : Bool). choice_over stands q t floor (risen_over stands q t a) x a)
        (stop_by (risen_over stands p s a) (risen_over stands q t a) (fallen_over stands p s a) (fallen_over stands q t a) eps risen_alike fallen_alike)

    abbrev pub Stand : ℕ → ℕ → Type 0
    Stand i j = ((i < a) × (stands i ≡ true)) × ((j < a) × (stands j ≡ true))

    pub pair_c_stands : (floor eps : Float) (i j : ℕ) → choice_c_over stands p s floor eps a ≡ Some (i, j) → Stand i j
    unfolding choice_c_over
    pair_c_stands floor eps i j e =
        pair_stands floor (λ x. (extremes_over stands p s a).gmax1) (λ x. (extremes_over stands p s a).gmax1) (λ x. refl) (λ x. gmax1_stands) (stop_c (extremes_over stands p s a) eps) i j e

    pub pair_nu_stands : (floor eps : Float) (i j : ℕ) → choice_nu_over stands p s floor eps a ≡ Some (i, j) → Stand i j
    unfolding choice_nu_over
    pair_nu_stands floor eps i j e =
        pair_stands floor (risen_over stands p s a) (risen_over stands p s a) (λ x. refl) risen_stands (stop_nu (risen_over stands p s a) (fallen_over stands p s a) eps) i j e
