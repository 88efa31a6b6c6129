-- One step keeps the two trainings side by side. Assumes nothing.
use Prim.Native.Nat.{ℕ, ◌+◌, ◌*◌, ◌<◌}
use mathlib.Core.Bool.{Bool, true, false, not, ◌&&◌, beq, cond, true≢false}
use mathlib.Core.List.{List}
use mathlib.Core.Logic.{◌⊎◌, inl, inr}
use mathlib.Core.Path.{◌≡◌, refl, sym, ap, ap₂, ◌∙◌}
use native.Mathlib.Decide.{ℕ_discrete}
use native.Mathlib.Omega.{arith}
use lib.Dec.{T}
use lib.Ieee.{Float, nan, inf, fin, binary64, neg, add, sub, mul, lt, le, eq, fits}
use lib.Ieee.Fits.{inf-fits, add-fits}
use Rattle.alpha.specs.Weight as Weight
use Rattle.alpha.specs.Weight.{weight, at_upper, at_lower}
use Rattle.alpha.specs.declared.Alpha.{Alpha}
use Rattle.kernel.specs.Row.{signed_of}
use Rattle.modes.specs.Modes.{travels}
use Rattle.partner.specs.Sides.{rises_of, falls_of, may_rise, fall}
use Rattle.rho.specs.Rho.{positive_in}
use Rattle.rounding.proofs.Order.{holds, neg_neg, lt_le_trans, eq_le, lt_irrefl}
use Rattle.rounding.proofs.Products.{mul_neg, mul_neg_right}
use Rattle.solver.specs.Run.{problem_of}
use Rattle.solver.specs.declared.Given.{Given}
use Rattle.state.specs.Fields.{gradient, alpha, bound}
use Rattle.state.specs.Lists.{Problem, State, state}
use Rattle.update.specs.Pair.{pair_of}
use Rattle.update.specs.Update.{ceiling_in, ceiling, pair_at, updated}
use Rattle.update.specs.declared.Pair.{Pair}
use Rattle.update.proofs.Left.{length_updated, alpha_i, alpha_j, alpha_other, behind, gradient_active}
use Rattle.orderless.specs.Plain.{plain}
use Rattle.orderless.specs.Sheet.{Sheet, entry, sought, alpha_of, rises, own}
use Rattle.orderless.specs.Step.{up_put, down_put, slope, pair_for, change, weight_to}
use Rattle.orderless.proofs.Chosen.{diagonal_is}
use Rattle.orderless.proofs.Copies.{Copied}
use Rattle.orderless.proofs.Plain.{steady_add, neg_level, add_level, add_neg}
use Rattle.orderless.proofs.Relation.{Lent, Mirrors}

-- ---- shifting

shut_add : (t : Bool) (x d : Float) → (x ≡ inf t) ⊎ (x ≡ nan) → (add binary64 x d ≡ inf t) ⊎ (add binary64 x d ≡ nan)
unfolding add
shut_add t x d (inr e) = rw e (inr refl)
shut_add t x nan (inl e) = rw e (inr refl)
shut_add t x (fin s m k) (inl e) = rw e (inl refl)
shut_add false x (inf false) (inl e) = rw e (inl refl)
shut_add false x (inf true) (inl e) = rw e (inr refl)
shut_add true x (inf false) (inl e) = rw e (inr refl)
shut_add true x (inf true) (inl e) = rw e (inl refl)

copy_shifted : (c t : Bool) (f f' x d : Float) → plain f' ≡ plain (add binary64 f d) → Copied c (inf t) f x → Copied c (inf t) f' (add binary64 x d)
copy_shifted c t f f' x d h k = record {
  opened = λ e. add_level x f d d (k.opened e) refl ∙ sym h;
  closed = λ e. shut_add t x d (k.closed e);
  fit = add-fits binary64 x d;
}

pub copy_put : (c t : Bool) (f v : Float) → T (fits binary64 v) → plain v ≡ plain f → Copied c (inf t) f (cond c v (inf t))
copy_put true t f v k h = record { opened = λ e. h; closed = λ e. absurd (true≢false e); fit = k }
copy_put false t f v k h = record { opened = λ e. absurd (true≢false (sym e)); closed = λ e. inl refl; fit = inf-fits binary64 t }

-- ---- signs

pub signed_level : (pos : Bool) (x z : Float) → plain x ≡ plain z → plain (signed_of pos x) ≡ plain (signed_of pos z)
signed_level true x z h = h
signed_level false x z h = neg_level x z h

pub signed_add : (pos : Bool) (x z : Float) → plain (signed_of pos (add binary64 x z)) ≡ plain (add binary64 (signed_of pos x) (signed_of pos z))
signed_add true x z = refl
signed_add false x z = add_neg x z

signed_twice : (pos : Bool) (x : Float) → signed_of pos (signed_of pos x) ≡ x
signed_twice true x = refl
signed_twice false x = neg_neg x

-- a row's entry times a change, signed by the label there, is the entry times the change signed by its own label
pub signed_mul : (a c : Bool) (e x : Float) → signed_of c (mul binary64 (signed_of (beq a c) e) x) ≡ mul binary64 e (signed_of a x)
signed_mul true true e x = refl
signed_mul true false e x = ap neg (mul_neg binary64 e x) ∙ neg_neg (mul binary64 e x)
signed_mul false true e x = mul_neg binary64 e x ∙ sym (mul_neg_right binary64 e x)
signed_mul false false e x = sym (mul_neg_right binary64 e x)

-- i and then j are written: what stands at k
abbrev pub last : {A : Type 0} {i j k : ℕ} → Dec (k ≡ j) → Dec (k ≡ i) → A → A → A → A
last (yes z) x a b c = a
last (no z) (yes x) a b c = b
last (no z) (no x) a b c = c

-- ---- with a ceiling above 0, what may not rise may fall

not_both : (v c : Float) → lt Weight.zero c ≡ true → le c v ≡ true → eq v Weight.zero ≡ true → ⊥
not_both v c h k l =
    lt_irrefl Weight.zero
    (lt_le_trans Weight.zero v Weight.zero (lt_le_trans Weight.zero c v ((holds _).1 h) ((holds _).1 k)) ((eq_le v Weight.zero).0 ((holds _).1 l)).0)

one_open : (pos : Bool) (w : Alpha) → lt Weight.zero w.upper ≡ true → rises_of pos w ≡ false → falls_of pos w ≡ true
one_open pos w h k = go pos (at_upper w) (at_lower w) (not_both w.value w.upper h) k
  where
    go : (pos x z : Bool) → (x ≡ true → z ≡ true → ⊥) → cond pos (not x) (not z) ≡ false → cond pos (not z) (not x) ≡ true
    go true true true q r = absurd (q refl refl)
    go true true false q r = refl
    go true false z q r = absurd (true≢false r)
    go false true true q r = absurd (q refl refl)
    go false false true q r = refl
    go false x false q r = absurd (true≢false r)

pub own_label : (nu pos : Bool) → sought nu pos pos ≡ true
own_label true true = refl
own_label true false = refl
own_label false pos = refl

module _ (g : Given) (m u y : List ℕ) (top : Bool → Float) (b : List Float) (C : Lent g m u y top b) (term : ℕ → Float) (f : List Float) (o : Sheet) (M : Mirrors g m u y top term f o) where
  abbrev p : Problem
  p = problem_of g m

  abbrev s : State
  s = state f u y

  pub alpha_is : (k : ℕ) → k < g.n → alpha p s k ≡ alpha_of y top o k
  alpha_is k K = ap₂ weight (M.weights k K) (M.uppers k K)

  -- F, from a copy that is open
  pub own_level : (k : ℕ) → k < g.n → plain (own y top o k) ≡ plain (fall p s k)
  own_level k K = go (rises y top o k) (ap (rises_of (positive_in y k)) (alpha_is k K))
    where
      go : (x : Bool) → may_rise p s k ≡ x → plain (cond x (o.up (positive_in y k) k) (o.down k)) ≡ plain (fall p s k)
      go true h = (M.ups (positive_in y k) k K).opened (rw (own_label g.nu (positive_in y k)) h)
      go false h = (M.downs k K).opened (one_open (positive_in y k) (alpha p s k) (rw (M.uppers k K) (C.above (positive_in y k))) h)

  own_fits : (k : ℕ) → k < g.n → T (fits binary64 (own y top o k))
  own_fits k K = go (rises y top o k)
    where
      go : (x : Bool) → T (fits binary64 (cond x (o.up (positive_in y k) k) (o.down k)))
      go true = (M.ups (positive_in y k) k K).fit
      go false = (M.downs k K).fit

  pub slope_is : (k : ℕ) → k < g.n → gradient p s k ≡ slope g m y top o k
  slope_is k K =
      let pos = positive_in y k in
      sym (M.steady k K).same ∙ ap plain (sym (signed_twice pos (gradient p s k))) ∙ sym (signed_level pos (own y top o k) (fall p s k) (own_level k K))

  -- in every mode a sample's ceiling in a step is its label's
  ceiling_is : (k : ℕ) → k < g.n → ceiling p g.mode b s k ≡ top (positive_in y k)
  unfolding ceiling_in
  ceiling_is k K = go (travels g.mode)
    where
      go : (x : Bool) → cond x (alpha p s k).upper (bound b k) ≡ top (positive_in y k)
      go true = M.uppers k K
      go false = C.bounds k K

  module _ (i j : ℕ) (I : i < g.n) (J : j < g.n) where
    pair_by : (x x' z z' : Alpha) (gi gi' gj gj' di di' dj dj' r r' : Float) (a a' : Bool)
        → x ≡ x' → z ≡ z' → gi ≡ gi' → gj ≡ gj' → di ≡ di' → dj ≡ dj' → r ≡ r' → a ≡ a'
        → pair_of x z gi gj di dj r a g.floor ≡ pair_of x' z' gi' gj' di' dj' r' a' g.floor
    pair_by x x' z z' gi gi' gj gj' di di' dj dj' r r' a a' q1 q2 q3 q4 q5 q6 q7 q8 = rw (q1, q2, q3, q4, q5, q6, q7, q8)

    pair_same : pair_at p b g.mode g.floor s i j ≡ pair_for g m y top o i j
    unfolding pair_at pair_for
    pair_same =
        pair_by _ _ _ _ _ _ _ _ _ _ _ _ _ _ _ _ (ap₂ weight (M.weights i I) (ceiling_is i I)) (ap₂ weight (M.weights j J) (ceiling_is j J))
        (slope_is i I) (slope_is j J) (diagonal_is g m u y top b C term f o M i I) (diagonal_is g m u y top b C term f o M j J) (C.rows i j I J) (C.labels i j I J)

    abbrev q : Pair
    q = pair_for g m y top o i j

    abbrev f1 : List Float
    f1 = updated p b g.mode g.floor s i j g.n

    abbrev s1 : State
    s1 = state f1 u y

    abbrev d : ℕ → Float
    d = change g m y top o i j q

    -- ---- gradients

    moved_by : (v v' : Pair) (x x' z z' a r r' w w' : Float) → v ≡ v' → x ≡ x' → z ≡ z' → r ≡ r' → w ≡ w'
        → add binary64 a (add binary64 (mul binary64 r (sub binary64 v.i.value x)) (mul binary64 w (sub binary64 v.j.value z)))
        ≡ add binary64 a (add binary64 (mul binary64 r' (sub binary64 v'.i.value x')) (mul binary64 w' (sub binary64 v'.j.value z')))
    moved_by v v' x x' z z' a r r' w w' q1 q2 q3 q4 q5 = rw (q1, q2, q3, q4, q5)

    abbrev part : ℕ → ℕ → Float → Float
    part i k x = mul binary64 (signed_of (beq (positive_in y i) (positive_in y k)) (entry g m i k)) x

    abbrev xi : Float
    xi = sub binary64 q.i.value (o.weights i)

    abbrev xj : Float
    xj = sub binary64 q.j.value (o.weights j)

    gradient_is : (k : ℕ) → k < g.n → gradient p s1 k ≡ add binary64 (gradient p s k) (add binary64 (part i k xi) (part j k xj))
    gradient_is k K =
        gradient_active p b g.mode g.floor s i j g.n I J (omega arith) M.long k K
        ∙ moved_by (pair_at p b g.mode g.floor s i j) q _ _ _ _ _ _ _ _ _ pair_same (M.weights i I) (M.weights j J) (C.rows i k I K) (C.rows j k J K)

    fall_level : (k : ℕ) → k < g.n → plain (fall p s1 k) ≡ plain (add binary64 (fall p s k) (d k))
    unfolding change
    fall_level k K =
        let pos = positive_in y k in
        let a = gradient p s k in
        let e = add binary64 (part i k xi) (part j k xj) in
        ap (λ (z : Float). plain (signed_of pos z)) (gradient_is k K) ∙ signed_add pos a e
        ∙ add_level (signed_of pos a) (signed_of pos a) (signed_of pos e) (d k) refl
        (signed_add pos (part i k xi) (part j k xj)
        ∙ ap₂ (λ (v w : Float). plain (add binary64 v w)) (signed_mul (positive_in y i) pos (entry g m i k) xi) (signed_mul (positive_in y j) pos (entry g m j k) xj))

    -- ---- weights

    abbrev wi : Alpha
    wi = weight_to g m y top i q.i.value

    abbrev wj : Alpha
    wj = weight_to g m y top j q.j.value

    abbrev newly : (k : ℕ) → Dec (k ≡ j) → Dec (k ≡ i) → Alpha
    newly k z x = last z x wj wi (alpha p s k)

    alpha_new : (k : ℕ) → k < g.n → (z : Dec (k ≡ j)) (x : Dec (k ≡ i)) → alpha p s1 k ≡ newly k z x
    alpha_new k K (yes z) x =
        rw z (alpha_j p b g.mode g.floor s i j g.n I J (omega arith) M.long ∙ ap₂ weight (ap (λ (v : Pair). v.j.value) pair_same) (ceiling_is j J))
    alpha_new k K (no z) (yes x) =
        rw x (alpha_i p b g.mode g.floor s i j g.n I J (omega arith) M.long (λ e. z (x ∙ e)) ∙ ap₂ weight (ap (λ (v : Pair). v.i.value) pair_same) (ceiling_is i I))
    alpha_new k K (no z) (no x) = alpha_other p b g.mode g.floor s i j g.n I J (omega arith) M.long k K x z

    upper_new : (k : ℕ) → k < g.n → (z : Dec (k ≡ j)) (x : Dec (k ≡ i)) → (newly k z x).upper ≡ top (positive_in y k)
    upper_new k K (yes z) x = rw z
    upper_new k K (no z) (yes x) = rw x
    upper_new k K (no z) (no x) = M.uppers k K

    value_new : (k : ℕ) → k < g.n → (z : Dec (k ≡ j)) (x : Dec (k ≡ i)) → (newly k z x).value ≡ last z x q.j.value q.i.value (o.weights k)
    value_new k K (yes z) x = refl
    value_new k K (no z) (yes x) = refl
    value_new k K (no z) (no x) = M.weights k K

    -- ---- copies

    -- o1 is o after the step: i and then j are put anew, and all is shifted
    pub record Moved (o1 : Sheet) : Type 0 where
      pub ups : (t : Bool) (k : ℕ) → k < g.n → (z : Dec (k ≡ j)) (x : Dec (k ≡ i))
          → o1.up t k ≡ add binary64 (last z x (up_put g.nu t (positive_in y j) wj (own y top o j)) (up_put g.nu t (positive_in y i) wi (own y top o i)) (o.up t k)) (d k)
      pub downs : (k : ℕ) → k < g.n → (z : Dec (k ≡ j)) (x : Dec (k ≡ i))
          → o1.down k ≡ add binary64 (last z x (down_put (positive_in y j) wj (own y top o j)) (down_put (positive_in y i) wi (own y top o i)) (o.down k)) (d k)
      pub weights : (k : ℕ) → k < g.n → (z : Dec (k ≡ j)) (x : Dec (k ≡ i)) → o1.weights k ≡ last z x q.j.value q.i.value (o.weights k)

    -- may says whether position k with a weight is open, v is its copy
    module _ (may : ℕ → Alpha → Bool) (t : Bool) (k : ℕ) (K : k < g.n) (v : Float) (h : Copied (may k (alpha p s k)) (inf t) (fall p s k) v) where
      abbrev anew : ℕ → Alpha → Float
      anew e w = cond (may e w) (own y top o e) (inf t)

      put_copied : (z : Dec (k ≡ j)) (x : Dec (k ≡ i)) → Copied (may k (newly k z x)) (inf t) (fall p s k) (last z x (anew j wj) (anew i wi) v)
      put_copied (yes z) x = rw z (copy_put (may j wj) t (fall p s j) (own y top o j) (own_fits j J) (own_level j J))
      put_copied (no z) (yes x) = rw x (copy_put (may i wi) t (fall p s i) (own y top o i) (own_fits i I) (own_level i I))
      put_copied (no z) (no x) = h

      shift_copied : (v1 : Float) (z : Dec (k ≡ j)) (x : Dec (k ≡ i)) → v1 ≡ add binary64 (last z x (anew j wj) (anew i wi) v) (d k)
          → Copied (may k (alpha p s1 k)) (inf t) (fall p s1 k) v1
      shift_copied v1 z x e = rw (e, alpha_new k K z x) (copy_shifted _ t (fall p s k) (fall p s1 k) _ (d k) (fall_level k K) (put_copied z x))

    -- the whole
    pub step_mirrors : (o1 : Sheet) → Moved o1 → Mirrors g m u y top term f1 o1
    step_mirrors o1 N = record {
      ups = λ t k K.
          let z = ℕ_discrete k j in
          let x = ℕ_discrete k i in
          shift_copied (λ h w. sought g.nu t (positive_in y h) && rises_of (positive_in y h) w) false k K (o.up t k) (M.ups t k K) (o1.up t k) z x (N.ups t k K z x);
      downs = λ k K.
          let z = ℕ_discrete k j in
          let x = ℕ_discrete k i in
          shift_copied (λ h w. falls_of (positive_in y h) w) true k K (o.down k) (M.downs k K) (o1.down k) z x (N.downs k K z x);
      weights = λ k K.
          let z = ℕ_discrete k j in
          let x = ℕ_discrete k i in
          ap (λ (w : Alpha). w.value) (alpha_new k K z x) ∙ value_new k K z x ∙ sym (N.weights k K z x);
      uppers = λ k K. ap (λ (w : Alpha). w.upper) (alpha_new k K (ℕ_discrete k j) (ℕ_discrete k i)) ∙ upper_new k K (ℕ_discrete k j) (ℕ_discrete k i);
      steady = λ k K. rw (gradient_is k K) (steady_add (gradient p s k) _ (M.steady k K) (add-fits binary64 _ _));
      diagonals = λ k K. behind p b g.mode g.floor s i j g.n I J (omega arith) M.long (5 * g.n + k) (omega arith) ∙ M.diagonals k K;
      terms = λ k K. behind p b g.mode g.floor s i j g.n I J (omega arith) M.long (4 * g.n + k) (omega arith) ∙ M.terms k K;
      long = rw (length_updated p b g.mode g.floor s i j g.n) M.long;
    }
