-- Where the gradient of what is retired is NaN, pair choice and rho pass over it by themselves. Assumes nothing.
use Prim.Native.Nat.{ℕ, zero, suc, ◌<◌, ◌≤◌}
use mathlib.Core.Bool.{Bool, true, false, ◌&&◌, cond}
use mathlib.Core.Path.{◌≡◌, refl, ap, ap₂, ◌∙◌}
use native.Mathlib.Omega.{arith}
use lib.Dec.{eqb}
use lib.Ieee.{Float, nan, inf, binary64, of_bits, neg, lt}
use lib.ListN.{get_or}
use Rattle.std.specs.Prelude.{Option, Some, None, is_some}
use Rattle.alpha.specs.Weight as Weight
use Rattle.alpha.specs.Weight.{one, minus_one, at_upper, at_lower}
use Rattle.alpha.specs.declared.Alpha.{Alpha}
use Rattle.choose_c.specs.Choice.{extremes_c, stop_c, choice_c}
use Rattle.choose_c.specs.declared.Extremes.{Extremes}
use Rattle.choose_nu.specs.Choice.{of_label, risen, fallen, stop_nu, choice_nu}
use Rattle.extreme.specs.Best.{at_least, above, at_most, weighed, best}
use Rattle.extreme.specs.declared.Extreme.{Extreme}
use Rattle.extreme.proofs.Alike.{best_alike}
use Rattle.floats.proofs.Laws.{max_nan, min_nan}
use Rattle.partner.specs.Curvature.{gap_of}
use Rattle.partner.specs.Second.{place_of, follows, gain_of, second, paired, paired_with, choice}
use Rattle.partner.specs.Sides.{rise_of, fall_of, may_rise, may_fall, rise, fall}
use Rattle.rho.specs.Rho.{lb_raised, ub_lowered, ub_raised, ub_moved, signed, share_with_c, share_with_nu, joined_nu, positive_in, share_c, share_nu, middle, level_of, level_by}
use Rattle.rho.specs.declared.Share.{Share}
use Rattle.rounding.proofs.Nan.{lt_nan, le_nan, add_nan, sub_nan, mul_nan}
use Rattle.state.specs.Fields.{gradient, alpha, alpha_in, positive}
use Rattle.state.specs.Lists.{Problem, State}
use Rattle.standing.specs.End.{share_c_over, share_nu_over, level_over}
use Rattle.standing.specs.Over.{second_over, choice_over, extremes_over, choice_c_over, risen_over, fallen_over, choice_nu_over}
use Rattle.standing.proofs.Choices.{stop_by}

shut : (x : Bool) → (x && false) ≡ false
shut true = refl
shut false = refl

module _ (stands : ℕ → Bool) (takes : Float → Float → Bool) (start : Float) (never : (x : Float) → takes x nan ≡ false) where
  -- a candidate whose value is NaN weighs nothing
  best_over : (may : ℕ → Bool) (value : ℕ → Float) (a : ℕ) → ((k : ℕ) → k < a → stands k ≡ false → value k ≡ nan)
      → best takes start may value a ≡ best takes start (λ k. stands k && may k) value a
  best_over may value a h = best_alike takes start may (λ k. stands k && may k) value value a (λ k l e. go k e (stands k) (h k l))
    where
      go : (k : ℕ) (e : Extreme) (x : Bool) → (x ≡ false → value k ≡ nan) → weighed takes (may k) k (value k) e ≡ weighed takes (x && may k) k (value k) e
      go k e true z = refl
      go k e false z = rw (z refl, never e.value, shut (may k))

-- at rest: retired, at lower, its gradient NaN
pub record Silent (stands : ℕ → Bool) (p : Problem) (s : State) : Type 0 where
  pub gradients : (k : ℕ) → k < p.n → stands k ≡ false → gradient p s k ≡ nan
  pub weights : (k : ℕ) → k < p.n → stands k ≡ false → at_lower (alpha p s k) ≡ true

module _ (stands : ℕ → Bool) (p : Problem) (s : State) (S : Silent stands p s) where
  rise_nan : (x : Bool) → rise_of x nan ≡ nan
  unfolding neg
  rise_nan true = refl
  rise_nan false = refl

  fall_nan : (x : Bool) → fall_of x nan ≡ nan
  unfolding neg
  fall_nan true = refl
  fall_nan false = refl

  gap_nan : (x : Bool) (top : Float) → gap_of x top nan ≡ nan
  gap_nan true top = add_nan top
  gap_nan false top = sub_nan top

  rise_silent : (k : ℕ) → k < p.n → stands k ≡ false → rise p s k ≡ nan
  rise_silent k l h = ap (rise_of (positive s k)) (S.gradients k l h) ∙ rise_nan (positive s k)

  fall_silent : (k : ℕ) → k < p.n → stands k ≡ false → fall p s k ≡ nan
  fall_silent k l h = ap (fall_of (positive s k)) (S.gradients k l h) ∙ fall_nan (positive s k)

  never_follows : (lead : Bool → Extreme) (j : ℕ) → j < p.n → stands j ≡ false → follows p s lead j ≡ false
  never_follows lead j l h =
      let e = lead (positive s j) in
      rw (S.gradients j l h, gap_nan (positive s j) e.value, lt_nan Weight.zero, shut (may_fall p s j), shut (is_some e.holder))

  module _ (a : ℕ) (l : a ≤ p.n) where
    pub extremes_silent : extremes_c p s a ≡ extremes_over stands p s a
    unfolding extremes_c extremes_over
    extremes_silent =
        ap₂ (λ (x y : Extreme). record { gmax1 = x; gmax2 = y })
        (best_over stands at_least (inf true) le_nan (may_rise p s) (rise p s) a (λ k c h. rise_silent k (omega arith) h))
        (best_over stands at_least (inf true) le_nan (may_fall p s) (fall p s) a (λ k c h. fall_silent k (omega arith) h))

    pub risen_silent : (x : Bool) → risen p s a x ≡ risen_over stands p s a x
    unfolding risen risen_over
    risen_silent x = best_over stands above (inf true) lt_nan (λ k. of_label x (positive s k) && may_rise p s k) (rise p s) a (λ k c h. rise_silent k (omega arith) h)

    pub fallen_silent : (x : Bool) → fallen p s a x ≡ fallen_over stands p s a x
    unfolding fallen fallen_over
    fallen_silent x = best_over stands above (inf true) lt_nan (λ k. of_label x (positive s k) && may_fall p s k) (fall p s) a (λ k c h. fall_silent k (omega arith) h)

    module _ (floor : Float) where
      abbrev gain_by : (Bool → Extreme) → ℕ → Float
      gain_by lead j = let e = lead (positive s j) in gain_of p s floor e.value (place_of e.holder) j

      second_silent : (lead : Bool → Extreme) → second p s floor lead a ≡ second_over stands p s floor lead a
      unfolding second second_over
      second_silent lead =
          best_alike at_most (inf false) (follows p s lead) (λ j. stands j && follows p s lead j) (gain_by lead) (gain_by lead) a
          (λ j c e. go j (omega arith) e (stands j) refl)
        where
          go : (j : ℕ) → j < p.n → (e : Extreme) (x : Bool) → stands j ≡ x
              → weighed at_most (follows p s lead j) j (gain_by lead j) e ≡ weighed at_most (x && follows p s lead j) j (gain_by lead j) e
          go j c e true h = refl
          go j c e false h = rw (never_follows lead j c h)

      choice_silent : (lead : Bool → Extreme) (stop : Bool) → choice p s floor lead stop a ≡ choice_over stands p s floor lead stop a
      unfolding choice choice_over
      choice_silent lead stop = ap (λ (e : Extreme). cond stop None (paired_with (λ j. (lead (positive s j)).holder) e.holder)) (second_silent lead)

      pub choice_c_silent : (eps : Float) → choice_c p s floor eps a ≡ choice_c_over stands p s floor eps a
      unfolding choice_c choice_c_over
      choice_c_silent eps =
          ap (λ (e : Extremes). choice p s floor (λ x. e.gmax1) (stop_c e eps) a) extremes_silent
          ∙ choice_silent (λ x. (extremes_over stands p s a).gmax1) (stop_c (extremes_over stands p s a) eps)

      -- leads that are the same at each label
      module _ (lead lead' : Bool → Extreme) (same : (x : Bool) → lead x ≡ lead' x) where
        second_leads : second_over stands p s floor lead a ≡ second_over stands p s floor lead' a
        unfolding second_over
        second_leads =
            best_alike at_most (inf false) (λ j. stands j && follows p s lead j) (λ j. stands j && follows p s lead' j) (gain_by lead) (gain_by lead') a
            (λ j c e. ap
            (λ (x : Extreme). weighed at_most
            (stands j && (is_some x.holder && (may_fall p s j && lt Weight.zero (gap_of (positive s j) x.value (gradient p s j)))))
            j (gain_of p s floor x.value (place_of x.holder) j) e)
            (same (positive s j)))

        choice_leads : (stop : Bool) → choice_over stands p s floor lead stop a ≡ choice_over stands p s floor lead' stop a
        unfolding choice_over
        choice_leads true = refl
        choice_leads false =
            go (second_over stands p s floor lead a).holder
            ∙ ap (λ (e : Extreme). paired_with (λ j. (lead' (positive s j)).holder) e.holder) second_leads
          where
            go : (h : Option ℕ) → paired_with (λ j. (lead (positive s j)).holder) h ≡ paired_with (λ j. (lead' (positive s j)).holder) h
            go (Some j) = ap (λ (x : Extreme). paired x.holder j) (same (positive s j))
            go None = refl

      pub choice_nu_silent : (eps : Float) → choice_nu p s floor eps a ≡ choice_nu_over stands p s floor eps a
      unfolding choice_nu choice_nu_over
      choice_nu_silent eps =
          ap (λ (x : Bool). choice p s floor (risen p s a) x a)
          (stop_by (risen p s a) (risen_over stands p s a) (fallen p s a) (fallen_over stands p s a) eps risen_silent fallen_silent)
          ∙ choice_silent (risen p s a) (stop_nu (risen_over stands p s a) (fallen_over stands p s a) eps)
          ∙ choice_leads (risen p s a) (risen_over stands p s a) risen_silent (stop_nu (risen_over stands p s a) (fallen_over stands p s a) eps)

  -- ---- rho

  signed_nan : (x : Bool) → signed x nan ≡ nan
  signed_nan true = mul_nan one
  signed_nan false = mul_nan minus_one

  lb_nan : (e : Share) → lb_raised e nan ≡ e
  lb_nan e = ap (λ (x : Float). record { free = e.free; sum = e.sum; ub = e.ub; lb = x }) (max_nan e.lb)

  low_nan : (e : Share) → ub_lowered e nan ≡ e
  low_nan e = ap (λ (x : Float). record { free = e.free; sum = e.sum; ub = x; lb = e.lb }) (min_nan e.ub)

  high_nan : (e : Share) → ub_raised e nan ≡ e
  high_nan e = ap (λ (x : Float). record { free = e.free; sum = e.sum; ub = x; lb = e.lb }) (max_nan e.ub)

  weighed_nan : (x : Bool) (w : Alpha) (e : Share) → at_lower w ≡ true → share_with_c x w nan e ≡ e
  unfolding share_with_c
  weighed_nan x w e h = rw h (go (at_upper w) x)
    where
      go : (y x : Bool) → cond y (cond x (lb_raised e nan) (ub_lowered e nan)) (cond x (ub_lowered e nan) (lb_raised e nan)) ≡ e
      go true true = lb_nan e
      go true false = low_nan e
      go false true = low_nan e
      go false false = lb_nan e

  weighed_nu_nan : (x : Bool) (w : Alpha) (e : Share) → at_lower w ≡ true → share_with_nu x w nan e ≡ e
  unfolding share_with_nu ub_moved
  weighed_nu_nan x w e h = rw h (go (at_upper w) x)
    where
      go : (y x : Bool) → cond y (lb_raised e nan) (cond x (ub_lowered e nan) (ub_raised e nan)) ≡ e
      go true x = lb_nan e
      go false true = low_nan e
      go false false = high_nan e

  share_c_silent : (a : ℕ) → a ≤ p.n → share_c p.n s.floats s.labels a ≡ share_c_over stands p.n s.floats s.labels a
  unfolding share_c share_c_over
  share_c_silent zero l = refl
  share_c_silent (suc a) l = go (stands a) refl (share_c_silent a (omega arith))
    where
      x : Bool
      x = positive_in s.labels a

      w : Alpha
      w = alpha_in p.n s.floats a

      e : Share
      e = share_c p.n s.floats s.labels a

      e' : Share
      e' = share_c_over stands p.n s.floats s.labels a

      go : (y : Bool) → stands a ≡ y → e ≡ e' → share_with_c x w (signed x (get_or s.floats a nan)) e ≡ cond y (share_with_c x w (signed x (get_or s.floats a nan)) e') e'
      go true h z = rw z
      go false h z = rw (S.gradients a (omega arith) h, signed_nan x) (weighed_nan x w e (S.weights a (omega arith) h) ∙ z)

  share_nu_silent : (r : Bool) (label a : ℕ) → a ≤ p.n → share_nu r p.n s.floats s.labels label a ≡ share_nu_over stands p.n s.floats s.labels r label a
  unfolding share_nu share_nu_over joined_nu
  share_nu_silent r label zero l = refl
  share_nu_silent r label (suc a) l = go (stands a) refl (share_nu_silent r label a (omega arith))
    where
      x : Bool
      x = eqb (get_or s.labels a 0) label

      w : Alpha
      w = alpha_in p.n s.floats a

      e : Share
      e = share_nu r p.n s.floats s.labels label a

      e' : Share
      e' = share_nu_over stands p.n s.floats s.labels r label a

      same : (x : Bool) → share_with_nu r w nan e ≡ e → cond x (share_with_nu r w nan e) e ≡ e
      same true z = z
      same false z = refl

      go : (y : Bool) → stands a ≡ y → e ≡ e' → joined_nu r x w (get_or s.floats a nan) e ≡ joined_nu r (y && x) w (get_or s.floats a nan) e'
      go true h z = rw z
      go false h z = rw (S.gradients a (omega arith) h) (same x (weighed_nu_nan r w e (S.weights a (omega arith) h)) ∙ z)

  pub level_silent : (nu x : Bool) → level_by nu x p.n s.floats s.labels p.n ≡ level_over stands p.n s.floats s.labels nu x
  unfolding level_by level_over
  level_silent true r = ap₂ (λ (x y : Share). level_of (middle x) (middle y)) (share_nu_silent r 1 p.n (omega arith)) (share_nu_silent r 0 p.n (omega arith))
  level_silent false r = ap (λ (x : Share). record { rho = middle x; r = of_bits binary64 0 }) (share_c_silent p.n (omega arith))
