-- The pair from the copies is the pair of the rule. Assumes nothing.
use Prim.Native.Nat.{ℕ, zero, suc, ◌+◌, ◌*◌, ◌<◌}
use mathlib.Core.Bool.{Bool, true, false, ◌&&◌, cond, true≢false}
use mathlib.Core.List.{List}
use mathlib.Core.Logic.{◌⊎◌, inl, inr}
use mathlib.Core.Path.{◌≡◌, refl, sym, ap, ap₂, ◌∙◌}
use lib.Ieee.{Float, nan, inf, fin, binary64, of_bits, is_nan, neg, add, sub, lt}
use lib.ListN.{get_or}
use Rattle.std.specs.Prelude.{Option, Some, None, is_some}
use Rattle.alpha.specs.Weight as Weight
use Rattle.alpha.specs.Weight.{two}
use Rattle.choose_c.specs.Choice.{extremes_c, choice_c}
use Rattle.choose_nu.specs.Choice.{risen, fallen, choice_nu}
use Rattle.extreme.specs.Best.{at_least, above, at_most, best}
use Rattle.extreme.specs.Racing.{below}
use Rattle.extreme.specs.declared.Extreme.{Extreme}
use Rattle.floats.specs.Helpers.{max_of}
use Rattle.kernel.specs.Curvature.{curved}
use Rattle.kernel.specs.Row.{signed_of}
use Rattle.partner.specs.Curvature.{curvature, gap_of, gain}
use Rattle.partner.specs.Second.{place_of, agree, gap, follows, gain_of, second, paired, paired_with, choice}
use Rattle.partner.proofs.Rule.{at_place}
use Rattle.partner.specs.Sides.{rise_of, fall_of, may_rise, may_fall, rise, fall}
use Rattle.extreme.proofs.Alike.{best_eligible, over_alike}
use Rattle.rho.specs.Rho.{positive_in}
use Rattle.rounding.proofs.Products.{mul_neg_right}
use Rattle.rounding.proofs.Order.{holds, neg_neg}
use Rattle.solver.specs.Run.{problem_of}
use Rattle.solver.specs.declared.Given.{Given}
use Rattle.state.specs.Fields.{gradient, diagonal, positive}
use Rattle.state.specs.Lists.{Problem, State, state}
use Rattle.orderless.specs.Plain.{plain}
use Rattle.orderless.specs.Sheet.{Sheet, entry, sought}
use Rattle.orderless.specs.Choice.{lowest, highest, width, stops, rising, gain_by, partner, choice_in}
use Rattle.orderless.proofs.Copies.{Copied, Same, itself, best_same, value_level, least_by_law, greatest_by}
use Rattle.orderless.proofs.Plain.{add_comm, add_level, lt_level, above_same}
use Rattle.orderless.proofs.Relation.{Lent, Mirrors}

-- ---- small things

nan_plain : (x : Float) → is_nan x ≡ is_nan (plain x)
unfolding is_nan plain
nan_plain nan = refl
nan_plain (inf s) = refl
nan_plain (fin s zero e) = refl
nan_plain (fin s (suc m) e) = refl

plain_max : (a b c d : Float) → plain a ≡ plain c → plain b ≡ plain d → plain (max_of a b) ≡ plain (max_of c d)
plain_max a b c d h k = go (is_nan a) (is_nan c) (nan_plain a ∙ ap is_nan h ∙ sym (nan_plain c)) (lt a b) (lt c d) (lt_level a c b d h k)
  where
    go : (x z : Bool) → x ≡ z → (v w : Bool) → v ≡ w → plain (cond x b (cond v b a)) ≡ plain (cond z d (cond w d c))
    go true true e v w i = k
    go true false e v w i = absurd (true≢false e)
    go false true e v w i = absurd (true≢false (sym e))
    go false false e true true i = k
    go false false e true false i = absurd (true≢false i)
    go false false e false true i = absurd (true≢false (sym i))
    go false false e false false i = h

max_same : (a : Float) → max_of a a ≡ a
max_same a = go (is_nan a) (lt a a)
  where
    go : (x z : Bool) → cond x a (cond z a a) ≡ a
    go true z = refl
    go false true = refl
    go false false = refl

-- d isn't above 0 where one of its two is minus infinity
pub low_sum : (x : Float) → lt Weight.zero (add binary64 (inf true) x) ≡ false
unfolding lt add of_bits
low_sum nan = refl
low_sum (inf false) = refl
low_sum (inf true) = refl
low_sum (fin t n d) = refl

pub nan_sum : (x : Float) → lt Weight.zero (add binary64 nan x) ≡ false
unfolding lt add of_bits
nan_sum x = refl

shut : (x : Bool) → (x && false) ≡ false
shut true = refl
shut false = refl

gap_is : (pos : Bool) (t x : Float) → gap_of pos t x ≡ add binary64 t (fall_of pos x)
unfolding sub
gap_is true t x = refl
gap_is false t x = refl

rise_is : (pos : Bool) (x : Float) → rise_of pos x ≡ neg (fall_of pos x)
rise_is true x = refl
rise_is false x = sym (neg_neg x)

-- an entry's sign makes up for the labels
curve_is : (ag : Bool) (floor a b e : Float) → curvature floor a b (signed_of ag e) ag ≡ curvature floor a b e true
unfolding curvature curved sub
curve_is true floor a b e = refl
curve_is false floor a b e = rw (mul_neg_right binary64 two e)

module _ (g : Given) (m u y : List ℕ) (top : Bool → Float) (b : List Float) (C : Lent g m u y top b) (term : ℕ → Float) (f : List Float) (o : Sheet) (M : Mirrors g m u y top term f o) where
  abbrev p : Problem
  p = problem_of g m

  abbrev s : State
  s = state f u y

  -- ---- the rule's extremes, of either rule

  abbrev lead : Bool → Bool → Extreme
  lead nu t = best (cond nu above at_least) (inf true) (λ k. sought nu t (positive_in y k) && may_rise p s k) (rise p s) g.n

  abbrev deep : Bool → Bool → Extreme
  deep nu t = best (cond nu above at_least) (inf true) (λ k. sought nu t (positive_in y k) && may_fall p s k) (fall p s) g.n

  abbrev wide : Bool → Bool → Float
  wide nu t = add binary64 (lead nu t).value (deep nu t).value

  abbrev halts : Bool → Bool
  halts nu = lt (max_of (wide nu true) (wide nu false)) g.eps

  by_rule : (nu : Bool) → cond nu (choice_nu p s g.floor g.eps g.n) (choice_c p s g.floor g.eps g.n) ≡ choice p s g.floor (lead nu) (halts nu) g.n
  unfolding choice_nu choice_c extremes_c risen fallen
  by_rule true = refl
  by_rule false = ap (λ (x : Float). choice p s g.floor (lead false) (lt x g.eps) g.n) (sym (max_same (wide false true)))

  -- ---- the copies' extremes

  lead_same : (t : Bool) → Same neg (inf true) (inf false) (lead g.nu t) (lowest g m y o t)
  unfolding lowest
  lead_same t =
      best_same (cond g.nu above at_least) (cond g.nu below at_most) neg (inf true) (inf false) (least_by_law g.nu)
      (λ k. sought g.nu t (positive_in y k) && may_rise p s k) (λ k. true) (fall p s) (rise p s) (o.up t) g.n
      (λ k l. (ap plain (rise_is (positive s k) (gradient p s k)), inl (refl, M.ups t k l)))

  deep_same : (t : Bool) → Same itself (inf true) (inf true) (deep g.nu t) (highest g m y o t)
  unfolding highest
  deep_same t =
      best_same (cond g.nu above at_least) (cond g.nu above at_least) itself (inf true) (inf true) (greatest_by g.nu)
      (λ k. sought g.nu t (positive_in y k) && may_fall p s k) (λ k. sought g.nu t (positive_in y k)) (fall p s) (fall p s) o.down g.n
      (λ k l. (refl, one k l (sought g.nu t (positive_in y k)) refl))
    where
      one : (k : ℕ) → k < g.n → (x : Bool) → sought g.nu t (positive_in y k) ≡ x
          → ((x ≡ true) × Copied (x && may_fall p s k) (inf true) (fall p s k) (o.down k)) ⊎ ((x ≡ false) × ((x && may_fall p s k) ≡ false))
      one k l true h = inl (refl, M.downs k l)
      one k l false h = inr (refl, refl)

  width_level : (t : Bool) → plain (wide g.nu t) ≡ plain (width g m y o t)
  unfolding sub
  width_level t =
      add_level _ _ _ _ (value_level _ _ neg (inf true) (inf false) (least_by_law g.nu) _ _ (lead_same t))
      (value_level _ _ itself (inf true) (inf true) (greatest_by g.nu) _ _ (deep_same t))
      ∙ ap plain (add_comm (neg (lowest g m y o t).value) (highest g m y o t).value)

  halts_same : halts g.nu ≡ stops g m y o
  unfolding stops
  halts_same = lt_level _ _ _ _ (plain_max _ _ _ _ (width_level true) (width_level false)) refl

  -- ---- the second

  abbrev first : Bool → Extreme
  first t = lowest g m y o t

  -- where j may fall, its copy is the gap's
  gap_level : (j : ℕ) → j < g.n → may_fall p s j ≡ true → plain (gap p s (lead g.nu (positive_in y j)).value j) ≡ plain (rising g m y o j)
  unfolding sub
  gap_level j J h =
      let t = positive_in y j in
      ap plain (gap_is t (lead g.nu t).value (gradient p s j))
      ∙ add_level _ _ _ _ (value_level _ _ neg (inf true) (inf false) (least_by_law g.nu) _ _ (lead_same t)) (sym ((M.downs j J).opened h))
      ∙ ap plain (add_comm (neg (first t).value) (o.down j))

  -- where it may not, its copy never follows
  never : (j : ℕ) → j < g.n → may_fall p s j ≡ false → lt Weight.zero (rising g m y o j) ≡ false
  unfolding sub
  never j J h = go ((M.downs j J).closed h)
    where
      go : (o.down j ≡ inf true) ⊎ (o.down j ≡ nan) → lt Weight.zero (add binary64 (o.down j) (neg (first (positive_in y j)).value)) ≡ false
      go (inl e) = rw e (low_sum (neg (first (positive_in y j)).value))
      go (inr e) = rw e (nan_sum (neg (first (positive_in y j)).value))

  -- who follows has a holder before it, the same in both
  record Followed (j : ℕ) : Type 0 where
    holder : (lead g.nu (positive_in y j)).holder ≡ (first (positive_in y j)).holder
    someone : is_some (first (positive_in y j)).holder ≡ true
    level : plain (gap p s (lead g.nu (positive_in y j)).value j) ≡ plain (rising g m y o j)

  follows_at : (j : ℕ) → j < g.n → (follows p s (lead g.nu) j ≡ lt Weight.zero (rising g m y o j)) × (lt Weight.zero (rising g m y o j) ≡ true → Followed j)
  follows_at j J = go (may_fall p s j) refl (lead_same (positive_in y j))
    where
      e : Extreme
      e = lead g.nu (positive_in y j)

      x : Extreme
      x = first (positive_in y j)

      r : Float
      r = rising g m y o j

      go : (a : Bool) → may_fall p s j ≡ a → Same neg (inf true) (inf false) e x
          → ((is_some e.holder && (a && lt Weight.zero (gap p s e.value j))) ≡ lt Weight.zero r) × (lt Weight.zero r ≡ true → Followed j)
      go false h w = (shut (is_some e.holder) ∙ sym (never j J h), λ q. absurd (true≢false (sym q ∙ never j J h)))
      go true h (inl w) =
          let z : lt Weight.zero (gap p s e.value j) ≡ false = ap (lt Weight.zero) (gap_is (positive_in y j) e.value (gradient p s j)) ∙ rw w.0 (low_sum _) in
          let n : lt Weight.zero r ≡ false = sym (lt_level _ _ _ _ refl (gap_level j J h)) ∙ z in
          (rw z (shut (is_some e.holder) ∙ sym n), λ q. absurd (true≢false (sym q ∙ n)))
      go true h (inr w) =
          let l = gap_level j J h in
          (rw (w.0, w.1) (lt_level _ _ _ _ refl l), λ q. record { holder = w.0; someone = w.1; level = l })

  -- the holder of a lead is a position
  lead_below : (t : Bool) (i : ℕ) → (lead g.nu t).holder ≡ Some i → i < g.n
  lead_below t i h = (best_eligible (cond g.nu above at_least) (inf true) (λ k. sought g.nu t (positive_in y k) && may_rise p s k) (rise p s) g.n i h).0

  pub diagonal_is : (k : ℕ) → k < g.n → diagonal p s k ≡ entry g m k k
  diagonal_is k K = ap (λ (z : ℕ). get_or f (5 * g.n + z) nan) (C.index k K) ∙ M.diagonals k K

  gain_by_law : (d d' a a' c c' r r' : Float) (ag ag' : Bool) → d ≡ d' → a ≡ a' → c ≡ c' → r ≡ r' → ag ≡ ag'
      → gain d (curvature g.floor a c r ag) ≡ gain d' (curvature g.floor a' c' r' ag')
  gain_by_law d d' a a' c c' r r' ag ag' q1 q2 q3 q4 q5 = rw (q1, q2, q3, q4, q5)

  gain_same : (j : ℕ) → j < g.n → lt Weight.zero (rising g m y o j) ≡ true → Followed j
      → (let e = lead g.nu (positive_in y j) in gain_of p s g.floor e.value (place_of e.holder) j) ≡ gain_by g m y o (place_of (first (positive_in y j)).holder) j
  gain_same j J h w =
      let e = lead g.nu (positive_in y j) in
      let x = first (positive_in y j) in
      let i = place_of x.holder in
      let I : i < g.n = lead_below (positive_in y j) i (w.holder ∙ at_place x.holder ((holds _).1 w.someone)) in
      let q : place_of e.holder ≡ i = ap place_of w.holder in
      ap (λ (z : ℕ). gain_of p s g.floor e.value z j) q
      ∙ gain_by_law _ _ _ _ _ _ _ _ _ _ (sym (above_same (rising g m y o j) _ h (sym w.level))) (diagonal_is i I) (diagonal_is j J) (C.rows i j I J) refl
      ∙ ap (gain (rising g m y o j)) (curve_is (agree s i j) g.floor (entry g m i i) (entry g m j j) (entry g m i j))

  second_same : second p s g.floor (lead g.nu) g.n ≡ partner g m y o
  unfolding second partner
  second_same =
      over_alike at_most (inf false) (λ k. true) (follows p s (lead g.nu)) (λ j. lt Weight.zero (rising g m y o j))
      (λ j. let e = lead g.nu (positive_in y j) in gain_of p s g.floor e.value (place_of e.holder) j)
      (λ j. gain_by g m y o (place_of (first (positive_in y j)).holder) j) g.n
      (λ j J h. ((follows_at j J).0, λ q. let z = sym (follows_at j J).0 ∙ q in gain_same j J z ((follows_at j J).1 z)))

  partner_follows : (j : ℕ) → (partner g m y o).holder ≡ Some j → Followed j
  unfolding partner
  partner_follows j h =
      let w = best_eligible at_most (inf false) (λ j. lt Weight.zero (rising g m y o j)) (λ j. gain_by g m y o (place_of (first (positive_in y j)).holder) j) g.n j h in
      (follows_at j w.0).1 w.1

  -- ---- the choice

  pub choice_in_law : cond g.nu (choice_nu p s g.floor g.eps g.n) (choice_c p s g.floor g.eps g.n) ≡ choice_in g m y o
  unfolding choice choice_in
  choice_in_law =
      by_rule g.nu
      ∙ ap₂ (λ (x : Bool) (e : Extreme). cond x None (paired_with (λ j. (lead g.nu (positive_in y j)).holder) e.holder)) halts_same second_same
      ∙ ap (cond (stops g m y o) None) (go (partner g m y o).holder partner_follows)
    where
      go : (h : Option ℕ) → ((j : ℕ) → h ≡ Some j → Followed j) → paired_with (λ j. (lead g.nu (positive_in y j)).holder) h ≡ paired_with (λ j. (first (positive_in y j)).holder) h
      go (Some j) w = ap (λ (z : Option ℕ). paired z j) (w j refl).holder
      go None w = refl
