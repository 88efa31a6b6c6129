-- The loops' turns are the definitions', and what the loops leave is the choice. Assumes nothing.
use Prim.Native.Nat.{ℕ, zero, suc, ◌+◌, ◌-◌, ◌*◌, ◌≤◌, ◌<◌}
use mathlib.Core.Bool.{Bool, true, false, not, ◌&&◌, ◌||◌, beq, cond, true≢false}
use mathlib.Core.List.{List}
use mathlib.Core.Path.{◌≡◌, refl, sym, ap, ◌∙◌, fun_ext}
use native.Mathlib.Omega.{arith}
use borrow.Author.Tests.{lt-ltb, le-ltb}
use lib.Ieee.{Float, nan, inf, binary64, sub, lt}
use lib.ListN.{get_or}
use Rattle.std.specs.Prelude.{Option, Some, None}
use Rattle.alpha.specs.Weight as Weight
use Rattle.choose_nu.specs.Choice.{of_label}
use Rattle.extreme.specs.Best.{at_most, held, weighed, best}
use Rattle.extreme.specs.Racing.{below, racing, found_in, race_of}
use Rattle.extreme.specs.declared.Extreme.{Extreme}
use Rattle.extreme.specs.declared.Race.{Race}
use Rattle.extreme.proofs.Racing.{race_found}
use Rattle.extreme.proofs.Rule.{best_rule}
use Rattle.extreme.proofs.Tests.{at_most_ranks}
use Rattle.floats.specs.Helpers.{max_of}
use Rattle.orderless.specs.Choice.{lowest, highest, stops, rising, gain_by, partner, choice_in}
use Rattle.orderless.specs.Sheet.{Sheet, up_field, read_in, entry}
use Rattle.orderless.proofs.Labels.{first_below, partner_below}
use Rattle.partner.specs.Second.{place_of, paired}
use Rattle.rho.specs.Rho.{positive_in}
use Rattle.rounding.proofs.Order.{holds}
use Rattle.sheet.specs.Ready.{Diagonal}
use Rattle.solver.specs.declared.Given.{Given}
use Rattle.picks.specs.Follow.{deepest, first_of, by_label, raced_by, raced_from, bar_of, reaches_of, reaches_at, stirred_to}
use Rattle.picks.specs.declared.First.{First}
use Rattle.picks.proofs.Bar.{passed}

pub label_is : (t pos : Bool) → beq t pos ≡ of_label t pos
label_is true true = refl
label_is true false = refl
label_is false true = refl
label_is false false = refl

pub one_at : (pos : Bool) (p q : First) (n : ℕ) → p.at < n → q.at < n → (cond pos p q).at < n
one_at true p q n h k = h
one_at false p q n h k = k

pub raced_taken : (b : Bool) (v : Float) (j : ℕ) (r : Race) → racing (cond b v r.value) (cond b j r.at) ≡ cond b (racing v j) r
raced_taken true v j r = refl
raced_taken false v j r = refl

not_true : (x : Bool) → not x ≡ true → x ≡ false
not_true true h = absurd (true≢false (sym h))
not_true false h = refl

not_false : (x : Bool) → not x ≡ false → x ≡ true
not_false true h = refl
not_false false h = absurd (true≢false h)

neither : (a b : Bool) → (a || b) ≡ false → (a ≡ false) × (b ≡ false)
neither true b h = absurd (true≢false h)
neither false b h = (refl, h)

pub raced_none : (g : Given) (m : List ℕ) (f : List Float) (lead : ℕ → First) (r : Race) (t : ℕ) → r ≡ raced_from g m f lead r t (t - t)
unfolding raced_from
raced_none g m f lead r t = let e : t - t ≡ 0 = omega arith in rw e

-- one sample more, counted from the first of all
pub raced_next : (g : Given) (m : List ℕ) (f : List Float) (lead : ℕ → First) (r : Race) (t j : ℕ) → t ≤ j
    → raced_by g m (lead j) (get_or f (3 * g.n + j) nan) j (raced_from g m f lead r t (j - t)) ≡ raced_from g m f lead r t (suc j - t)
unfolding raced_from
raced_next g m f lead r t j h =
    let a : suc j - t ≡ suc (j - t) = omega (arith, h) in
    let b : t + (j - t) ≡ j = omega (arith, h) in
    rw (a, b)

-- both firsts asked, and the label says which counts
pub by_either : (g : Given) (m : List ℕ) (pos : Bool) (p q : First) (x b bar : Float) (j : ℕ)
    → cond pos (reaches_of x p.value p.diagonal b (entry g m p.at j) bar) (reaches_of x q.value q.diagonal b (entry g m q.at j) bar)
    ≡ reaches_of x (cond pos p q).value (cond pos p q).diagonal b (entry g m (cond pos p q).at j) bar
by_either g m true p q x b bar j = refl
by_either g m false p q x b bar j = refl

-- without the nu rule both labels have the same first
pub one_first : (y : List ℕ) (p q : First) → p ≡ q → ◌≡◌ {A = ℕ → First} (λ j. p) (by_label y p q)
one_first y p q e = rw (← e) (fun_ext (λ j. go (positive_in y j)))
  where
    go : (t : Bool) → p ≡ cond t p p
    go true = refl
    go false = refl

same_up : (nu : Bool) (n : ℕ) (f : List Float) → ◌≡◌ {A = ℕ → Float} (λ k. get_or f (0 + k) nan) (λ k. get_or f (up_field nu n true + k) nan)
same_up true n f = refl
same_up false n f = refl

-- the copy for seconds that are positive stands first
pub low_up : (nu : Bool) (n : ℕ) (f : List Float) (r : Race) → r ≡ race_of n (best (cond nu below at_most) (inf false) (λ k. true) (λ k. get_or f (0 + k) nan) n)
    → r ≡ race_of n (best (cond nu below at_most) (inf false) (λ k. true) ((read_in nu n f).up true) n)
low_up nu n f r h = h ∙ ap (λ (v : ℕ → Float). race_of n (best (cond nu below at_most) (inf false) (λ k. true) v n)) (same_up nu n f)

-- a value alone, one candidate more
pub value_weighed : (takes : Float → Float → Bool) (may : Bool) (k : ℕ) (v : Float) (e : Extreme)
    → cond (may && takes e.value v) v e.value ≡ (weighed takes may k v e).value
value_weighed takes may k v e = go (may && takes e.value v)
  where
    go : (b : Bool) → cond b v e.value ≡ (cond b (held v k) e).value
    go true = refl
    go false = refl

-- without the nu rule both labels seek the same
pub deep_same : (n : ℕ) (y : List ℕ) (f : List Float) → deepest false n y f true ≡ deepest false n y f false
deep_same n y f = refl

module _ (g : Given) (m y : List ℕ) (f : List Float) where
  abbrev o : Sheet
  o = read_in g.nu g.n f

  -- the second among the first samples
  abbrev pub partner_to : ℕ → Extreme
  partner_to k = best at_most (inf false) (λ j. lt Weight.zero (rising g m y o j)) (λ j. gain_by g m y o (place_of (lowest g m y o (positive_in y j)).holder) j) k

  pub partner_whole : partner_to g.n ≡ partner g m y o
  unfolding partner
  partner_whole = refl

  abbrev pub leader : Bool → First
  leader t = first_of g m (lowest g m y o t)

  -- without the nu rule there is one copy
  pub same_leader : g.nu ≡ false → leader true ≡ leader false
  unfolding lowest
  same_leader h = ap (λ (v : ℕ → Float). first_of g m (best (cond g.nu below at_most) (inf false) (λ k. true) v g.n)) (go g.nu h)
    where
      go : (nu : Bool) → nu ≡ false → (read_in nu g.n f).up true ≡ (read_in nu g.n f).up false
      go true e = absurd (true≢false e)
      go false e = refl

  by_label_law : (t : Bool) → cond t (leader true) (leader false) ≡ leader t
  by_label_law true = refl
  by_label_law false = refl

  pub raced_more : (j : ℕ) → raced_by g m (cond (positive_in y j) (leader true) (leader false)) (get_or f (3 * g.n + j) nan) j (race_of g.n (partner_to j))
      ≡ race_of g.n (partner_to (suc j))
  unfolding raced_by best
  raced_more j = rw (by_label_law (positive_in y j)) (go (lt Weight.zero (rising g m y o j) && at_most (partner_to j).value v))
    where
      v : Float
      v = gain_by g m y o (place_of (lowest g m y o (positive_in y j)).holder) j

      go : (b : Bool) → cond b (racing v j) (race_of g.n (partner_to j)) ≡ race_of g.n (cond b (held v j) (partner_to j))
      go true = refl
      go false = refl

  abbrev leads : ℕ → First
  leads = by_label y (leader true) (leader false)

  pub raced_partner : (t k : ℕ) → raced_from g m f leads (race_of g.n (partner_to t)) t k ≡ race_of g.n (partner_to (t + k))
  unfolding raced_from
  raced_partner t zero = let e : t ≡ t + 0 = omega arith in ap (λ (z : ℕ). race_of g.n (partner_to z)) e
  raced_partner t (suc k) =
      let e : suc (t + k) ≡ t + suc k = omega arith in
      rw (raced_partner t k) (raced_more (t + k) ∙ ap (λ (z : ℕ). race_of g.n (partner_to z)) e)

  pub raced_rest : (t : ℕ) → t ≤ g.n → raced_from g m f leads (race_of g.n (partner_to t)) t (g.n - t) ≡ race_of g.n (partner g m y o)
  raced_rest t h =
      let e : t + (g.n - t) ≡ g.n = omega (arith, h) in
      raced_partner t (g.n - t) ∙ ap (λ (z : ℕ). race_of g.n (partner_to z)) e ∙ ap (race_of g.n) partner_whole

  -- nobody stirs, so nobody is taken
  pub calm : Diagonal g m f → (lead : ℕ → First) (r : Race) (t k : ℕ) → t + k ≤ g.n → stirred_to g m f lead (bar_of r.value) t k ≡ false → raced_from g m f lead r t k ≡ r
  unfolding raced_from stirred_to
  calm D lead r t zero h e = refl
  calm D lead r t (suc k) h e =
      let w = neither (stirred_to g m f lead (bar_of r.value) t k) (reaches_at g m f lead (bar_of r.value) (t + k)) e in
      rw (calm D lead r t k (omega (arith, h)) w.0)
      (passed g m (lead (t + k)) (get_or f (3 * g.n + (t + k)) nan) (t + k) r (rw (D.at (t + k) (omega (arith, h))) at w.1))

  -- ---- the choice, from the races

  pub low_is : (t : Bool) → race_of g.n (best (cond g.nu below at_most) (inf false) (λ k. true) (o.up t) g.n) ≡ race_of g.n (lowest g m y o t)
  unfolding lowest
  low_is t = refl

  pub first_low : (r : Race) → r ≡ race_of g.n (best (cond g.nu below at_most) (inf false) (λ k. true) (λ k. get_or f (0 + k) nan) g.n)
      → r ≡ race_of g.n (lowest g m y o true)
  first_low r h = low_up g.nu g.n f r h ∙ low_is true

  found_first : (t : Bool) → (lowest g m y o t).holder ≡ found_in g.n (race_of g.n (lowest g m y o t)).at
  found_first t = race_found g.n (lowest g m y o t).holder (first_below g m y o t)

  found_second : (partner g m y o).holder ≡ found_in g.n (race_of g.n (partner g m y o)).at
  found_second = race_found g.n (partner g m y o).holder (partner_below g m y o)

  pub first_is : (t : Bool) (r : Race) → r ≡ race_of g.n (lowest g m y o t)
      → ◌≡◌ {A = First} (record { value = r.value; at = place_of (found_in g.n r.at); diagonal = entry g m (place_of (found_in g.n r.at)) (place_of (found_in g.n r.at)) }) (leader t)
  first_is t r e = rw (e, ← found_first t)

  pub leader_is : Diagonal g m f → (t : Bool) (r : Race) (l : First) → r ≡ race_of g.n (lowest g m y o t)
      → l ≡ record { value = r.value; at = place_of (found_in g.n r.at); diagonal = get_or f (2 * g.n + place_of (found_in g.n r.at)) nan } → l.at < g.n → l ≡ leader t
  leader_is D t r l e h b = let z : place_of (found_in g.n r.at) < g.n = rw h at b in rw (h, D.at (place_of (found_in g.n r.at)) z) (first_is t r e)

  pub stops_is : (p q : Float) → p ≡ (lowest g m y o true).value → q ≡ (lowest g m y o false).value
      → lt (max_of (sub binary64 (deepest g.nu g.n y f true) p) (sub binary64 (deepest g.nu g.n y f false) q)) g.eps ≡ stops g m y o
  unfolding stops highest
  stops_is p q hp hq = rw (hp, hq)

  pub rising_is : (p q : Float) → p ≡ (lowest g m y o true).value → q ≡ (lowest g m y o false).value → (j : ℕ)
      → sub binary64 (get_or f (3 * g.n + j) nan) (cond (positive_in y j) p q) ≡ rising g m y o j
  rising_is p q hp hq j = rw (hp, hq) (ap (sub binary64 (get_or f (3 * g.n + j) nan)) (go (positive_in y j)))
    where
      go : (t : Bool) → cond t (lowest g m y o true).value (lowest g m y o false).value ≡ (lowest g m y o t).value
      go true = refl
      go false = refl

  pub none_stops : not (stops g m y o) ≡ false → None ≡ choice_in g m y o
  unfolding choice_in
  none_stops h = rw (not_false (stops g m y o) h)

  -- the second lies above its first
  pub second_rises : (j : ℕ) → j ≡ (race_of g.n (partner g m y o)).at → j < g.n → lt Weight.zero (rising g m y o j) ≡ true
  unfolding partner
  second_rises j e J =
      let q : (partner g m y o).holder ≡ Some j = found_second ∙ rw (← e, lt-ltb j g.n J) in
      (holds _).0 ((best_rule at_most at_most_ranks (inf false) (λ j. lt Weight.zero (rising g m y o j)) (λ j. gain_by g m y o (place_of (lowest g m y o (positive_in y j)).holder) j) g.n).holds j q).eligible

  pub nobody_follows : (j : ℕ) → j ≡ (race_of g.n (partner g m y o)).at → g.n ≤ j → None ≡ choice_in g m y o
  unfolding choice_in
  nobody_follows j e J = rw (found_second, ← e, le-ltb j g.n J) (go (stops g m y o))
    where
      go : (x : Bool) → ◌≡◌ {A = Option (ℕ × ℕ)} None (cond x None None)
      go true = refl
      go false = refl

  module _ (h : not (stops g m y o) ≡ true) (p q : Race) (hp : p ≡ race_of g.n (lowest g m y o true)) (hq : q ≡ race_of g.n (lowest g m y o false)) (j : ℕ)
      (hj : j ≡ (race_of g.n (partner g m y o)).at) where
    first_at : (t : Bool) → (lowest g m y o t).holder ≡ found_in g.n (cond t p.at q.at)
    first_at true = rw hp (found_first true)
    first_at false = rw hq (found_first false)

    second_at : (partner g m y o).holder ≡ found_in g.n j
    second_at = rw hj found_second

    pub pair_is : j < g.n → paired (found_in g.n (cond (positive_in y j) p.at q.at)) j ≡ choice_in g m y o
    unfolding choice_in
    pair_is J = rw (not_true (stops g m y o) h, second_at, lt-ltb j g.n J) (ap (λ (z : Option ℕ). paired z j) (sym (first_at (positive_in y j))))
