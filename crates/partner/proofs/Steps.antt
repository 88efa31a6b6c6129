-- The loop's step is the definition's. Assumes nothing.
use Prim.Native.Nat.{ℕ, zero, suc, ◌≤◌, ◌<◌}
use mathlib.Core.Bool.{Bool, true, false, ◌&&◌, cond}
use mathlib.Core.Path.{◌≡◌, refl, sym, ap, ◌∙◌, fun_ext}
use native.Mathlib.Omega.{arith}
use borrow.Author.Tests.{lt-ltb, le-ltb}
use lib.Dec.{T}
use lib.Ieee.{Float, nan, inf, fin, binary64, of_bits, neg, add, sub, lt}
use lib.Ieee.Fits.{and_l}
use Rattle.std.specs.Prelude.{Option, Some, None, is_some}
use Rattle.alpha.specs.Weight.{zero as nought}
use Rattle.extreme.specs.Best.{nobody, held, at_most, best, Below}
use Rattle.extreme.specs.Racing.{below, raced, found_in}
use Rattle.extreme.proofs.Racing.{least_halves, Tracks, tracks_start, tracks_weighed}
use Rattle.extreme.proofs.Rule.{best_below, best_rule, extreme_is}
use Rattle.extreme.proofs.Tests.{at_most_ranks}
use Rattle.extreme.specs.declared.Extreme.{Extreme}
use Rattle.extreme.specs.declared.Race.{Race}
use Rattle.kernel.specs.Row.{Indexed, row_at}
use Rattle.state.specs.Lists.{Problem, State}
use Rattle.state.specs.Fields.{gradient, positive}
use Rattle.partner.specs.Curvature.{gap_of}
use Rattle.partner.specs.Lead.{lead_at, gain_after, raced_after, raced_to}
use Rattle.partner.specs.declared.Lead.{Lead}
use Rattle.partner.specs.Second.{place_of, leads, gap, follows, gain_of, second}
use Rattle.partner.specs.Sides.{may_fall}

-- where there is a position, a lead's kernel index has its column
pub lead_index : (side n : ℕ) (s : State) (v : Float) (h : Option ℕ) → Indexed side n s.numbers → 0 < n → Below n h → (lead_at n s v h).index < side
lead_index side n s v (Some i) x l b = x.below i (b i refl)
lead_index side n s v None x l b = let z = x.below 0 l in omega arith

-- d isn't above 0 where the top is minus infinity
low_sum : (g : Float) → lt nought (add binary64 (inf true) g) ≡ false
unfolding lt add of_bits
low_sum nan = refl
low_sum (inf false) = refl
low_sum (inf true) = refl
low_sum (fin t n d) = refl

low_top : (pos : Bool) (g : Float) → lt nought (gap_of pos (inf true) g) ≡ false
unfolding sub
low_top true g = low_sum g
low_top false g = low_sum (neg g)

shut : (b : Bool) → (b && false) ≡ false
shut true = refl
shut false = refl

module _ (p : Problem) (s : State) (floor : Float) where
  after_lead : (j : ℕ) (r : Race) (v : Float) (h : Option ℕ) → raced_after p s floor (lead_at p.n s v h) j r
      ≡ cond (is_some h && (may_fall p s j && lt nought (gap p s v j))) (raced below at_most j (gain_of p s floor v (place_of h) j) r) r
  unfolding raced_after row_at
  after_lead j r v (Some i) = refl
  after_lead j r v None = rw (low_top (positive s j) (gradient p s j), shut (may_fall p s j))

  own_lead : (t : Bool) (a b : Extreme) → cond t (lead_at p.n s a.value a.holder) (lead_at p.n s b.value b.holder)
      ≡ lead_at p.n s (leads a b t).value (leads a b t).holder
  own_lead true a b = refl
  own_lead false a b = refl

  module _ (a b : Extreme) where
    abbrev l : Lead
    l = lead_at p.n s a.value a.holder

    abbrev k : Lead
    k = lead_at p.n s b.value b.holder

    -- the race tracks the least gain
    race_tracks : (m j : ℕ) → j ≤ m → Tracks least_halves m (raced_to p s floor m l k j) (second p s floor (leads a b) j)
    unfolding raced_to second best
    race_tracks m zero h = tracks_start least_halves m
    race_tracks m (suc j) h =
        let e = leads a b (positive s j) in
        let r = raced_to p s floor m l k j in
        rw (own_lead (positive s j) a b, after_lead j r e.value e.holder)
        (tracks_weighed least_halves m j (gain_of p s floor e.value (place_of e.holder) j) r (second p s floor (leads a b) j) h (race_tracks m j (omega arith)) (follows p s (leads a b) j))

    gain_is : (j : ℕ) (v : Float) (h : Option ℕ) → T (is_some h) → gain_after p s floor (lead_at p.n s v h) j ≡ gain_of p s floor v (place_of h) j
    unfolding row_at
    gain_is j v (Some i) t = refl
    gain_is j v None t = absurd t

    -- where the race has a place, it is the second's, with the gain after the lead of its label
    pub race_won : (m i : ℕ) → (raced_to p s floor m l k m).at ≡ i → i < m → second p s floor (leads a b) m ≡ held (gain_after p s floor (cond (positive s i) l k) i) i
    unfolding second
    race_won m i q h =
        let e = leads a b (positive s i) in
        let r = best_rule at_most at_most_ranks (inf false) (follows p s (leads a b)) (λ j. let d = leads a b (positive s j) in gain_of p s floor d.value (place_of d.holder) j) m in
        let x = (race_tracks m m (omega arith)).holder ∙ ap (found_in m) q ∙ ap (λ (t : Bool). cond t (Some i) None) (lt-ltb i m h) in
        let y = r.value_is i x ∙ sym (gain_is i e.value e.holder (and_l (is_some e.holder) _ (r.holds i x).eligible)) ∙ ap (λ (d : Lead). gain_after p s floor d i) (sym (own_lead (positive s i) a b)) in
        extreme_is (second p s floor (leads a b) m) _ _ y x

    pub race_none : (m : ℕ) → m ≤ (raced_to p s floor m l k m).at → second p s floor (leads a b) m ≡ nobody (inf false)
    unfolding second
    race_none m h =
        let i = (raced_to p s floor m l k m).at in
        let r = best_rule at_most at_most_ranks (inf false) (follows p s (leads a b)) (λ j. let d = leads a b (positive s j) in gain_of p s floor d.value (place_of d.holder) j) m in
        let x = (race_tracks m m (omega arith)).holder ∙ ap (λ (t : Bool). cond t (Some i) None) (le-ltb i m h) in
        extreme_is (second p s floor (leads a b) m) _ _ (r.start_is x) x

  pub second_below : (lead : Bool → Extreme) (a : ℕ) → Below a (second p s floor lead a).holder
  unfolding second
  second_below lead a = best_below at_most at_most_ranks (inf false) _ _ a

-- two leads by label are any leads
pub by_label_law : (lead : Bool → Extreme) → leads (lead true) (lead false) ≡ lead
by_label_law lead = fun_ext (λ t. at t)
  where
    at : (t : Bool) → leads (lead true) (lead false) t ≡ lead t
    at true = refl
    at false = refl
