-- The box of a training with retired samples: where those that stand have one ceiling b, their weights lie in 0..b after each pass, and no step is NaN.
-- The run is the rule's own over silent terms, with b for the ceiling of who is retired: that has no say. Assumes nothing.
use Prim.Native.Nat.{ℕ, ◌≤◌, ◌<◌}
use mathlib.Core.Bool.{Bool, true, false, cond}
use mathlib.Core.List.{List}
use mathlib.Core.Path.{◌≡◌, refl, sym, ap, ◌∙◌}
use native.Mathlib.Omega.{arith}
use lib.Dec.{T, eqb}
use lib.Ieee.{Float, nan, binary64, fits}
use lib.ListN.{get_or}
use Rattle.std.specs.Prelude.{Some}
use Rattle.alpha.specs.Weight as Weight
use Rattle.answer.specs.Lent.{Lent, Whole}
use Rattle.answer.specs.declared.Finish.TheVariants.{Plain}
use Rattle.boxed.specs.Delta.{delta_at}
use Rattle.boxed.specs.Range.{In}
use Rattle.classification.specs.Entries.{given_by, scratch_of, fitted}
use Rattle.fits.specs.Starts.{nothing}
use Rattle.fits.proofs.Loaded.{ready_loaded}
use Rattle.judge.specs.Judge.{is_ceiling, ceiling_good, alpha_good}
use Rattle.judge.proofs.Accepted.{GeneralFine, general_fine, alpha_within}
use Rattle.judge.proofs.First.{first_fine}
use Rattle.judge.specs.declared.Refusal.TheVariants as Refusal
use Rattle.kernel.specs.Curvature.{curved}
use Rattle.kernel.specs.declared.Kind.TheVariants.{TwoClass}
use Rattle.retired.specs.Silenced.{silenced}
use Rattle.retired.specs.Differ.{Input, DifferRetired}
use Rattle.retired.specs.Entry.{stands_in, kept_to, kept}
use Rattle.retired.proofs.Coded.{silenced_place, going}
use Rattle.retired.proofs.Independent.{kept_at, kept_place, lent_alike, Taken, taken_usable}
use Rattle.retired.proofs.Laws.{retired_fine}
use Rattle.rounding.specs.Units.{NotNan}
use Rattle.solver.specs.Run.{problem_of}
use Rattle.standing.proofs.Alike.{Alike}
use Rattle.standing.specs.Run.{chosen_over, trained_over}
use Rattle.standing.proofs.Independent.{trained_twins}
use Rattle.standing.proofs.Off.{Goes, chosen_silent, alike_self}
use Rattle.standing.proofs.Runs.{Twins, chosen_alike, chosen_stands}
use Rattle.state.specs.Lists.{Problem, State}
use Rattle.update.specs.Pair.{floored, step_of}
use Rattle.tuning.specs.declared.Tuning.{Tuning}
use Rattle.promises.specs.Fit.{Fit, start_from, after}
use Rattle.promises.specs.Retired.{retired_fit, after_over, weight_over, pair_over, delta_over, own_over}
use Rattle.promises.proofs.Box.{Common, floor_in, entries_in, labels_in, ceiling_in_law, weight_in_law, served_box, served_chosen}
use Rattle.promises.proofs.Boxes.{nought_in}
use Rattle.promises.proofs.Retired.{taken_left}
use Rattle.promises.proofs.Travel.{Served}

-- alike, so is the step of a pair that stands
delta_alike : (stands : ℕ → Bool) (p q : Problem) (s t : State) → Alike stands p q s t → (floor : Float) (i j : ℕ) → i < p.n → j < p.n → stands i ≡ true → stands j ≡ true
    → delta_at p s floor i j ≡ delta_at q t floor i j
delta_alike stands p q s t A floor i j I J hi hj =
    by (A.labels i I hi) (A.labels j J hj) (A.gradients i I hi) (A.gradients j J hj) (A.diagonals i I hi) (A.diagonals j J hj) (A.rows i j I J hi hj)
  where
    by : {a a' e e' : ℕ} {gi gi' gj gj' di di' dj dj' o o' : Float} → a ≡ a' → e ≡ e' → gi ≡ gi' → gj ≡ gj' → di ≡ di' → dj ≡ dj' → o ≡ o'
        → step_of (eqb a e) gi gj (floored floor (curved (eqb a e) di dj o)) ≡ step_of (eqb a' e') gi' gj' (floored floor (curved (eqb a' e') di' dj' o'))
    by q1 q2 q3 q4 q5 q6 q7 = rw (q1, q2, q3, q4, q5, q6, q7)

module _ {tune : Tuning} {n : ℕ} {r : List ℕ} {nurule : Bool} {eps : Float} {shrinking : Bool} {budget : ℕ} {d : Lent} {x : Input} {o : Whole}
    (v : Taken tune n r nurule eps shrinking budget d x o) (b : Float) (fit : T (fits binary64 b))
    (same : (i : ℕ) → i < n → stands_in r i ≡ true → get_or x.ceilings i nan ≡ b) (fit_a : (i : ℕ) → i < n → stands_in r i ≡ true → T (fits binary64 (get_or x.weights i nan))) where
  abbrev st : ℕ → Bool
  st = stands_in r

  abbrev k : Fit
  k = retired_fit tune n x r nurule eps

  abbrev m : List ℕ
  m = x.matrix

  abbrev l : List ℕ
  l = x.labels

  abbrev c : List Float
  c = x.ceilings

  abbrev a : List Float
  a = x.weights

  abbrev p : List Float
  p = x.terms

  most : n ≤ 512
  most = v.room.most

  fine : GeneralFine n m l c a p eps budget
  fine = general_fine n m l c a p eps budget (retired_fine tune.floor n m l c a p r eps shrinking budget v.judged).general

  -- ---- the same training with b for the ceilings of who is retired, and silent terms

  abbrev ceilings : List Float
  ceilings = kept_to r b c nothing n

  abbrev quiet : Fit
  quiet = record { given = given_by tune n TwoClass eps false nurule; how = Plain; labels = l; ceilings = ceilings; weights = kept r a n; terms = silenced r p n }

  ceiling_at : (i : ℕ) → i < n → get_or ceilings i nan ≡ cond (st i) (get_or c i nan) b
  ceiling_at i h = kept_at r b c nothing n i h most

  ceiling_same : (i : ℕ) → i < n → st i ≡ true → get_or c i nan ≡ get_or ceilings i nan
  ceiling_same i h z = sym (ceiling_at i h ∙ ap (λ (q : Bool). cond q (get_or c i nan) b) z)

  abbrev lent_quiet : Input
  lent_quiet = record { matrix = m; labels = l; ceilings = ceilings; weights = a; terms = p }

  differ : DifferRetired n r x lent_quiet
  differ = record { labels = λ i h z. refl; ceilings = ceiling_same; weights = λ i h z. refl; terms = λ i h z. refl; entries = λ i j h q z y. refl }

  terms_same : (i : ℕ) → i < n → st i ≡ true → get_or (kept r p n) i nan ≡ get_or (silenced r p n) i nan
  terms_same i h z =
      kept_place r n most p i h
      ∙ ap (λ (q : Bool). cond q (get_or p i nan) Weight.zero) z
      ∙ sym (silenced_place r n most p i h ∙ ap (λ (q : Bool). cond q (get_or p i nan) nan) z)

  quiet_served : Served quiet m budget d (fitted quiet.given Plain m l ceilings (kept r a n) (silenced r p n) budget d)
  quiet_served = record { square = refl; room = v.room; usable = taken_usable v; same = refl }

  twins : (t : ℕ) → Twins st k.given m m (trained_over st k.given m c t (start_from k m d)) (trained_over st k.given m ceilings t (start_from quiet m d))
  twins t =
      let lf = v.room.floats in
      let lu = v.room.numbers in
      let ly = v.room.bytes in
      trained_twins st k.given m m c ceilings ceiling_same (start_from k m d) (start_from quiet m d)
      (ready_loaded n TwoClass m l c (kept r a n) (kept r p n) (scratch_of d) (taken_usable v).matrix lf lu ly)
      (ready_loaded n TwoClass m l ceilings (kept r a n) (silenced r p n) (scratch_of d) (taken_usable v).matrix lf lu ly)
      (lent_alike n TwoClass r x lent_quiet differ (scratch_of d) lf lu ly (kept r a n) (kept r p n) (kept r a n) (silenced r p n) (kept_place r n most a) (kept_place r n most a) terms_same)
      refl t

  by_rule : (t : ℕ) → Goes st k.given m refl ceilings (after quiet m d t) (trained_over st k.given m ceilings t (start_from quiet m d))
  unfolding trained_over
  by_rule t =
      going tune n r lent_quiet nurule eps budget d most v.room.floats v.room.numbers v.room.bytes v.room.crate v.room.home (taken_usable v).matrix t

  module _ (some : ℕ) (below : some < n) (up : st some ≡ true) where
    good_b : is_ceiling b ≡ true
    unfolding ceiling_good
    good_b = rw (same some below up) at (first_fine Refusal.Ceiling (ceiling_good c) n 0 fine.ceilings some (omega arith) (omega arith))

    start_in : (i : ℕ) → i < n → In b (get_or (kept r a n) i nan)
    start_in i h = rw (kept_place r n most a i h) (go (st i) refl)
      where
        go : (q : Bool) → st i ≡ q → In b (cond q (get_or a i nan) Weight.zero)
        go true z =
            let y = alpha_within a c i (first_fine Refusal.Alpha (alpha_good a c) n 0 fine.alphas i (omega arith) (omega arith)) in
            weight_in_law b (get_or a i nan) (fit_a i h z) y.0 (rw (same i h z) at y.1)
        go false z = nought_in b (ceiling_in_law b fit good_b)

    place_is : (i : ℕ) → i < n → get_or ceilings i nan ≡ b
    place_is i h = ceiling_at i h ∙ go (st i) refl
      where
        go : (q : Bool) → st i ≡ q → cond q (get_or c i nan) b ≡ b
        go true z = same i h z
        go false z = refl

    one_b : Common quiet m b
    one_b = record {
      ceiling = ceiling_in_law b fit good_b;
      places = place_is;
      weights = start_in;
      entries = entries_in n m fine.matrix;
      labels = labels_in n l fine.labels;
      floor = floor_in tune.floor (retired_fine tune.floor n m l c a p r eps shrinking budget v.judged).floor_good_law;
    }

  -- after t passes, of a sample that stands
  pub taken_box : (t i : ℕ) → i < n → st i ≡ true → In b (weight_over st k m d t i)
  unfolding trained_over
  taken_box t i h z =
      rw ((twins t).alike.weights i h, sym (by_rule t).kin.state) (served_box quiet_served (one_b i h z) t i h)

  -- where i and j are chosen after t passes
  pub taken_no_nan : (t i j : ℕ) → pair_over st k m d t ≡ Some (i, j) → NotNan (delta_over st k m d t i j)
  unfolding trained_over
  taken_no_nan t i j q =
      let y = twins t in
      let g = by_rule t in
      let f = after_over st k m d t in
      let u = trained_over st k.given m ceilings t (start_from quiet m d) in
      let h = chosen_stands st k.given m m f.state f.state (alike_self st (problem_of k.given m) f.state) i j q in
      let c2 = chosen_silent st k.given m refl (after quiet m d t) g.kin.active (rw g.kin.state g.silent) in
      rw (
        delta_alike st (problem_of k.given m) (problem_of k.given m) f.state u.state y.alike k.given.floor i j h.0.0 h.1.0 h.0.1 h.1.1,
        sym g.kin.state,
      )
      (served_chosen quiet_served (one_b i h.0.0 h.0.1) t i j
      (c2 ∙ ap (chosen_over st k.given m) g.kin.state ∙ sym (chosen_alike st k.given m m f.state u.state y.alike) ∙ q))

  -- what home answers for a sample that stands
  pub taken_home_box : (s : ℕ) → s < n → st s ≡ true → In b (own_over st k m d budget s)
  taken_home_box s h z = rw (sym (taken_left v budget s h)) (taken_box budget s h z)
