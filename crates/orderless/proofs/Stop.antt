-- A gap that reaches eps says that the rule doesn't stop: no wider one need be sought. Assumes nothing.
use Prim.Native.Nat.{ℕ, zero, suc, ◌*◌, ◌<◌}
use mathlib.Core.Bool.{Bool, true, false, not, ◌&&◌, cond, true≢false}
use mathlib.Core.List.{List}
use mathlib.Core.Logic.{◌⊎◌, inl, inr}
use mathlib.Core.Path.{◌≡◌, refl, sym, ap, ◌∙◌}
use native.Mathlib.Omega.{arith}
use lib.Dec.{T}
use lib.Ieee.{Float, nan, inf, fin, binary64, fits, is_nan, up, down, neg, add, sub, lt, le}
use lib.Ieee.Fits.{inf-fits}
use Rattle.std.specs.Prelude.{Option, Some, None}
use Rattle.alpha.specs.Weight as Weight
use Rattle.extreme.specs.Best.{at_least, above, at_most, held, best}
use Rattle.extreme.specs.Racing.{below}
use Rattle.extreme.proofs.Tests.{last_greatest, first_greatest}
use Rattle.floats.specs.Helpers.{max_of}
use Rattle.rho.specs.Rho.{positive_in}
use Rattle.rounding.proofs.Nan.{lt_nan, le_nan, add_nan}
use Rattle.rounding.specs.Units.{NotNan}
use Rattle.rounding.proofs.Order.{holds, fails, le_real, lt_real, lt→le, le_trans, not_lt}
use Rattle.rounding.proofs.Sums.{sum_real, sub_mono}
use Rattle.rounding.proofs.Order.{le_refl}
use Rattle.solver.specs.declared.Given.{Given}
use Rattle.orderless.specs.Choice.{lowest, highest, width, stops, rising}
use Rattle.orderless.specs.Sheet.{Sheet, sought}
use Rattle.orderless.proofs.Chosen.{low_sum}
use Rattle.orderless.proofs.Copies.{le_bottom}
use Rattle.orderless.proofs.Plain.{add_comm}
use Rattle.orderless.proofs.Stepped.{own_label}

-- ---- the larger of two, one of which reaches e

not_below : (e x : Float) → T (le e x) → lt x e ≡ false
not_below e x h = (fails (lt x e)).0 ((not_lt x e (le_real e x h).1 (le_real e x h).0).1 h)

real_not_nan : (x : Float) → NotNan x → is_nan x ≡ false
real_not_nan x h = (fails (is_nan x)).0 h

max_reaches : (a b e : Float) → T (le e a) ⊎ T (le e b) → lt (max_of a b) e ≡ false
max_reaches a b e h = go (is_nan a) refl (lt a b) refl h
  where
    go : (x : Bool) → is_nan a ≡ x → (z : Bool) → lt a b ≡ z → T (le e a) ⊎ T (le e b) → lt (cond x b (cond z b a)) e ≡ false
    go true p z q (inl i) = absurd (true≢false (sym p ∙ real_not_nan a (le_real e a i).1))
    go true p z q (inr i) = not_below e b i
    go false p true q (inl i) = not_below e b (le_trans e a b i (lt→le a b ((holds _).1 q)))
    go false p true q (inr i) = not_below e b i
    go false p false q (inl i) = not_below e a i
    go false p false q (inr i) = not_below e a (le_trans e b a i ((not_lt a b ((fails (is_nan a)).1 p) (le_real e b i).1).0 ((fails (lt a b)).1 q)))

-- ---- a difference above 0

lowest_sum : (x : Float) → lt Weight.zero (add binary64 x (inf true)) ≡ false
lowest_sum x = ap (lt Weight.zero) (add_comm x (inf true)) ∙ low_sum x

sum_nan : (x : Float) → lt Weight.zero (add binary64 x nan) ≡ false
sum_nan x = ap (lt Weight.zero) (add_nan x) ∙ lt_nan Weight.zero

no : {A : Type 0} (x : Bool) → x ≡ true → x ≡ false → A
no x h k = absurd (true≢false (sym h ∙ k))

wide_real : (l h v : Float) → lt Weight.zero (sub binary64 l v) ≡ true → T (le l h) → NotNan (sub binary64 h v)
unfolding sub neg add is_nan
wide_real l nan v q r = absurd (true≢false (sym ((holds _).0 r) ∙ le_nan l))
wide_real l (inf true) v q r = no _ q (rw (le_bottom l ((holds _).0 r)) (low_sum (neg v)))
wide_real l (inf false) nan q r = no _ q (sum_nan l)
wide_real l (inf false) (inf false) q r = no _ q (lowest_sum l)
wide_real l (inf false) (inf true) q r = tt
wide_real l (inf false) (fin s m e) q r = tt
wide_real l (fin t n d) nan q r = no _ q (sum_nan l)
wide_real l (fin t n d) (inf s) q r = tt
wide_real l (fin t n d) (fin s m e) q r = sum_real binary64 t (not s) (n * up d * down e) (m * up e * down d) (down d * down e)

nan_unreal : (x : Float) → x ≡ nan → NotNan x → ⊥
unfolding is_nan
nan_unreal x e h = rw e at h

left_real : (x y : Float) → NotNan (add binary64 x y) → NotNan x
unfolding add is_nan
left_real nan y h = h
left_real (inf s) y h = tt
left_real (fin s m e) y h = tt

right_real : (x v : Float) → NotNan (add binary64 x (neg v)) → NotNan v
unfolding is_nan neg
right_real x nan h = nan_unreal (add binary64 x nan) (add_nan x) h
right_real x (inf s) h = tt
right_real x (fin s m e) h = tt

-- ---- what a best holds is a value of the format

module _ (takes : Float → Float → Bool) (start : Float) (may : ℕ → Bool) (value : ℕ → Float) (S : T (fits binary64 start)) where
  best_fits : (a : ℕ) → ((k : ℕ) → k < a → T (fits binary64 (value k))) → T (fits binary64 (best takes start may value a).value)
  unfolding best
  best_fits zero h = S
  best_fits (suc a) h = go (may a && takes (best takes start may value a).value (value a)) (best_fits a (λ k l. h k (omega arith))) (h a (omega arith))
    where
      go : (x : Bool) → T (fits binary64 (best takes start may value a).value) → T (fits binary64 (value a)) → T (fits binary64 (cond x (held (value a) a) (best takes start may value a)).value)
      go true i j = j
      go false i j = i

module _ (may : ℕ → Bool) (value : ℕ → Float) (n j : ℕ) (J : j < n) (asked : T (may j)) (real : NotNan (value j)) (some : value j ≡ inf true → ⊥) where
  not_number : (value j ≡ nan) ⊎ (value j ≡ inf true) → ⊥
  not_number (inl e) = nan_unreal (value j) e real
  not_number (inr e) = some e

  reached : (nu : Bool) → T (le (value j) (best (cond nu above at_least) (inf true) may value n).value)
  reached true = go (best above (inf true) may value n).holder refl
    where
      go : (h : Option ℕ) → (best above (inf true) may value n).holder ≡ h → T (le (value j) (best above (inf true) may value n).value)
      go (Some i) q = let r = first_greatest may value n in rw (r.value_is i q) ((r.holds i q).most j J asked real)
      go None q = absurd (not_number ((first_greatest may value n).nobody.0 q j J asked))
  reached false = go (best at_least (inf true) may value n).holder refl
    where
      go : (h : Option ℕ) → (best at_least (inf true) may value n).holder ≡ h → T (le (value j) (best at_least (inf true) may value n).value)
      go (Some i) q = let r = last_greatest may value n in rw (r.value_is i q) ((r.holds i q).most j J asked real)
      go None q = absurd ((last_greatest may value n).nobody.0 q j J asked real)

module _ (g : Given) (m y : List ℕ) (o : Sheet) (ups : (t : Bool) (k : ℕ) → k < g.n → T (fits binary64 (o.up t k)))
    (downs : (k : ℕ) → k < g.n → T (fits binary64 (o.down k))) where
  lowest_fits : (t : Bool) → T (fits binary64 (lowest g m y o t).value)
  unfolding lowest
  lowest_fits t = best_fits (cond g.nu below at_most) (inf false) (λ k. true) (o.up t) (inf-fits binary64 false) g.n (ups t)

  highest_fits : (t : Bool) → T (fits binary64 (highest g m y o t).value)
  unfolding highest
  highest_fits t = best_fits (cond g.nu above at_least) (inf true) (λ k. sought g.nu t (positive_in y k)) o.down (inf-fits binary64 true) g.n downs

  module _ (j : ℕ) (J : j < g.n) (h : lt Weight.zero (rising g m y o j) ≡ true) where
    abbrev t : Bool
    t = positive_in y j

    gap_real : NotNan (rising g m y o j)
    gap_real = (lt_real Weight.zero (rising g m y o j) ((holds _).1 h)).1

    down_real : NotNan (o.down j)
    unfolding sub
    down_real = left_real (o.down j) (neg (lowest g m y o t).value) gap_real

    low_real : NotNan (lowest g m y o t).value
    unfolding sub
    low_real = right_real (o.down j) (lowest g m y o t).value gap_real

    down_some : o.down j ≡ inf true → ⊥
    unfolding sub
    down_some e = true≢false (sym h ∙ rw e (low_sum (neg (lowest g m y o t).value)))

    below_highest : T (le (o.down j) (highest g m y o t).value)
    unfolding highest
    below_highest = reached (λ k. sought g.nu t (positive_in y k)) o.down g.n j J ((holds _).1 (own_label g.nu t)) down_real down_some g.nu

    within_width : T (le (rising g m y o j) (width g m y o t))
    within_width =
        let v = (lowest g m y o t).value in
        let r = wide_real (o.down j) (highest g m y o t).value v h below_highest in
        sub_mono binary64 (o.down j) v (highest g m y o t).value v (record { fit = downs j J; real = down_real }) (record { fit = lowest_fits t; real = low_real })
        (record { fit = highest_fits t; real = (le_real (o.down j) (highest g m y o t).value below_highest).1 }) (record { fit = lowest_fits t; real = low_real })
        gap_real r below_highest (le_refl v low_real)

    -- a gap that reaches eps
    pub wide_goes : le g.eps (rising g m y o j) ≡ true → stops g m y o ≡ false
    unfolding stops
    wide_goes e = max_reaches (width g m y o true) (width g m y o false) g.eps (go t (le_trans g.eps (rising g m y o j) (width g m y o t) ((holds _).1 e) within_width))
      where
        go : (x : Bool) → T (le g.eps (width g m y o x)) → T (le g.eps (width g m y o true)) ⊎ T (le g.eps (width g m y o false))
        go true i = inl i
        go false i = inr i
