-- The training asks for labels of samples alone: two lists that agree there give the same. Assumes nothing.
--
-- Main theorems:
--   orderless_alike: the same run; `level_alike`: the same rho and companion; `objective_alike`: the same objective
use Prim.Native.Nat.{ℕ, zero, suc, ◌+◌, ◌≤◌, ◌<◌}
use mathlib.Core.Bool.{Bool, true, false, cond}
use mathlib.Core.List.{List}
use mathlib.Core.Path.{◌≡◌, refl, sym, ap, ap₂, ◌∙◌}
use native.Mathlib.Omega.{arith}
use lib.Dec.{eqb}
use lib.Ieee.{Float, inf, binary64, of_bits, div, lt}
use lib.ListN.{get_or}
use Rattle.std.proofs.lemmas.Option.{none-some}
use Rattle.std.specs.Prelude.{Option, Some, None}
use Rattle.alpha.specs.Weight as Weight
use Rattle.alpha.specs.Weight.{two}
use Rattle.extreme.specs.Best.{at_least, above, at_most}
use Rattle.extreme.specs.Racing.{below}
use Rattle.extreme.proofs.Alike.{over_alike, best_eligible}
use Rattle.partner.specs.Second.{place_of, paired_with}
use Rattle.partner.proofs.Rule.{paired_is}
use Rattle.modes.specs.Modes.{repaired}
use Rattle.rho.specs.Rho.{positive_in, middle, level_of}
use Rattle.rho.specs.declared.Share.{Share}
use Rattle.solver.specs.declared.Given.{Given}
use Rattle.update.specs.declared.Pair.{Pair as Weights}
use Rattle.orderless.specs.Choice.{lowest, highest, stops, rising, gain_by, partner, choice_in}
use Rattle.orderless.specs.End.{share_c_of, share_nu_of, level_for, sum_of, level_in, objective_in}
use Rattle.orderless.specs.Run.{spread, brought_to, opened_to, opened, Course, course, passes, goes_on, orderless}
use Rattle.orderless.specs.Sheet.{Sheet, read_in, sought, alpha_of, own}
use Rattle.orderless.specs.Step.{shift_in, slope, pair_for, change, steps_by, steps}

-- ---- what is written as functions say

pub shift_alike : (nu : Bool) (n : ℕ) (d e : ℕ → Float) (f : List Float) → ((k : ℕ) → d k ≡ e k) → (c : ℕ) → shift_in nu n d f c ≡ shift_in nu n e f c
unfolding shift_in
shift_alike nu n d e f h zero = refl
shift_alike nu n d e f h (suc c) = rw (shift_alike nu n d e f h c, h c)

spread_alike : (v w : ℕ → Float) (l : List Float) (n : ℕ) → ((k : ℕ) → k < n → v k ≡ w k) → spread v l n ≡ spread w l n
unfolding spread
spread_alike v w l zero h = refl
spread_alike v w l (suc n) h = rw (spread_alike v w l n (λ k K. h k (omega arith)), h n (omega arith))

-- ---- a pair in a sheet: both are samples

module _ (g : Given) (m y : List ℕ) (o : Sheet) where
  pub first_below : (t : Bool) (k : ℕ) → (lowest g m y o t).holder ≡ Some k → k < g.n
  unfolding lowest
  first_below t k h = (best_eligible (cond g.nu below at_most) (inf false) (λ k. true) (o.up t) g.n k h).0

  pub partner_below : (j : ℕ) → (partner g m y o).holder ≡ Some j → j < g.n
  unfolding partner
  partner_below j q =
      (best_eligible at_most (inf false) (λ j. lt Weight.zero (rising g m y o j)) (λ j. gain_by g m y o (place_of (lowest g m y o (positive_in y j)).holder) j) g.n j q).0

  pub pair_below : (i j : ℕ) → choice_in g m y o ≡ Some (i, j) → (i < g.n) × (j < g.n)
  unfolding choice_in
  pair_below i j = go (stops g m y o) (partner g m y o).holder refl
    where
      go : (x : Bool) (h : Option ℕ) → (partner g m y o).holder ≡ h → cond x None (paired_with (λ j. (lowest g m y o (positive_in y j)).holder) h) ≡ Some (i, j) → (i < g.n) × (j < g.n)
      go true h q e = absurd (none-some (i, j) e)
      go false None q e = absurd (none-some (i, j) e)
      go false (Some a) q e =
          let r = paired_is (lowest g m y o (positive_in y a)).holder a i j e in
          (first_below (positive_in y a) i r.0, omega (arith, partner_below a q, r.1))

-- y and z are the labels of the samples
module _ (g : Given) (m y z : List ℕ) (top : Bool → Float) (E : (k : ℕ) → k < g.n → get_or y k 0 ≡ get_or z k 0) where
  pos : (k : ℕ) → k < g.n → positive_in y k ≡ positive_in z k
  pos k K = ap (λ (x : ℕ). eqb x 1) (E k K)

  -- ---- the choice

  module _ (o : Sheet) where
    lowest_alike : (t : Bool) → lowest g m y o t ≡ lowest g m z o t
    unfolding lowest
    lowest_alike t = refl

    highest_alike : (t : Bool) → highest g m y o t ≡ highest g m z o t
    unfolding highest
    highest_alike t =
        over_alike (cond g.nu above at_least) (inf true) (λ k. true) (λ k. sought g.nu t (positive_in y k)) (λ k. sought g.nu t (positive_in z k)) o.down o.down g.n
        (λ k K h. (ap (sought g.nu t) (pos k K), λ q. refl))

    stops_alike : stops g m y o ≡ stops g m z o
    unfolding stops
    stops_alike = rw (lowest_alike true, lowest_alike false, highest_alike true, highest_alike false)

    rising_alike : (j : ℕ) → j < g.n → rising g m y o j ≡ rising g m z o j
    unfolding lowest
    rising_alike j J = rw (pos j J)

    partner_alike : partner g m y o ≡ partner g m z o
    unfolding partner lowest
    partner_alike =
        over_alike at_most (inf false) (λ k. true) (λ j. lt Weight.zero (rising g m y o j)) (λ j. lt Weight.zero (rising g m z o j))
        (λ j. gain_by g m y o (place_of (lowest g m y o (positive_in y j)).holder) j) (λ j. gain_by g m z o (place_of (lowest g m z o (positive_in z j)).holder) j) g.n
        (λ j J h. (ap (lt Weight.zero) (rising_alike j J), λ q. rw (pos j J)))

    paired_alike : (h : Option ℕ) → ((j : ℕ) → h ≡ Some j → j < g.n)
        → paired_with (λ j. (lowest g m y o (positive_in y j)).holder) h ≡ paired_with (λ j. (lowest g m z o (positive_in z j)).holder) h
    unfolding lowest
    paired_alike (Some j) w = rw (pos j (w j refl))
    paired_alike None w = refl

    choice_alike : choice_in g m y o ≡ choice_in g m z o
    unfolding choice_in
    choice_alike = rw (stops_alike, sym partner_alike) (ap (cond (stops g m z o) None) (paired_alike (partner g m y o).holder (partner_below g m y o)))

    -- ---- the step

    own_alike : (k : ℕ) → k < g.n → own y top o k ≡ own z top o k
    own_alike k K = rw (pos k K)

    slope_alike : (k : ℕ) → k < g.n → slope g m y top o k ≡ slope g m z top o k
    slope_alike k K = rw (pos k K)

    alpha_alike : (k : ℕ) → k < g.n → alpha_of y top o k ≡ alpha_of z top o k
    alpha_alike k K = rw (pos k K)

  module _ (f : List Float) (i j : ℕ) (I : i < g.n) (J : j < g.n) where
    abbrev o : Sheet
    o = read_in g.nu g.n f

    pair_alike : pair_for g m y top o i j ≡ pair_for g m z top o i j
    unfolding pair_for
    pair_alike = rw (pos i I, pos j J)

    change_alike : (q : Weights) (k : ℕ) → change g m y top o i j q k ≡ change g m z top o i j q k
    unfolding change
    change_alike q k = rw (pos i I, pos j J)

    steps_alike : steps g m y top f i j ≡ steps g m z top f i j
    unfolding steps_by
    steps_alike =
        rw (pair_alike, pos i I, pos j J)
        (shift_alike g.nu g.n _ _ _ (change_alike (pair_for g m z top o i j)) g.n)

  -- ---- the run

  pass_alike : (v : Course) (c : Option (ℕ × ℕ)) → choice_in g m z (read_in g.nu g.n v.floats) ≡ c → passes g m y top v c ≡ passes g m z top v c
  unfolding passes
  pass_alike v (Some (i, j)) e =
      let b = pair_below g m z (read_in g.nu g.n v.floats) i j e in
      ap (λ (f : List Float). course f (v.steps + 1) true) (steps_alike v.floats i j b.0 b.1)
  pass_alike v None e = refl

  goes_alike : (v : Course) (t : ℕ) → goes_on g m y top v t ≡ goes_on g m z top v t
  unfolding goes_on
  goes_alike v zero = refl
  goes_alike v (suc t) = rw (goes_alike v t) (ap (λ (x : Course). cond w.going x w) (ap (passes g m y top w) (choice_alike o) ∙ pass_alike w (choice_in g m z o) refl))
    where
      w : Course
      w = goes_on g m z top v t

      o : Sheet
      o = read_in g.nu g.n w.floats

  module _ (term : ℕ → Float) (l : List Float) where
    brought_alike : (i : ℕ) → i ≤ g.n → brought_to g m y top term l i ≡ brought_to g m z top term l i
    unfolding brought_to
    brought_alike zero h = spread_alike _ _ l g.n (λ k K. rw (pos k K))
    brought_alike (suc i) h = rw (brought_alike i (omega arith), pos i (omega arith))

    opened_alike : (f : List Float) (k : ℕ) → k ≤ g.n → opened_to g m y top f k ≡ opened_to g m z top f k
    unfolding opened_to
    opened_alike f zero h = refl
    opened_alike f (suc k) h = rw (opened_alike f k (omega arith), pos k (omega arith))

    pub orderless_alike : (budget : ℕ) → orderless g m y top term l budget ≡ orderless g m z top term l budget
    unfolding orderless
    orderless_alike budget =
        rw (brought_alike g.n (omega arith), opened_alike (brought_to g m z top term l g.n) g.n (omega arith))
        (goes_alike (course (opened g m z top term l) 0 true) budget)

  -- ---- the end

  module _ (o : Sheet) where
    share_c_alike : (a : ℕ) → a ≤ g.n → share_c_of y (alpha_of y top o) (slope g m y top o) a ≡ share_c_of z (alpha_of z top o) (slope g m z top o) a
    unfolding share_c_of
    share_c_alike zero h = refl
    share_c_alike (suc a) h = rw (share_c_alike a (omega arith), pos a (omega arith))

    share_nu_alike : (r : Bool) (label a : ℕ) → a ≤ g.n → share_nu_of y (alpha_of y top o) (slope g m y top o) r label a ≡ share_nu_of z (alpha_of z top o) (slope g m z top o) r label a
    unfolding share_nu_of
    share_nu_alike r label zero h = refl
    share_nu_alike r label (suc a) h = rw (share_nu_alike r label a (omega arith), pos a (omega arith), E a (omega arith))

    pub level_alike : level_in g m y top o ≡ level_in g m z top o
    unfolding level_for
    level_alike = go g.nu
      where
        go : (x : Bool) → level_for y (alpha_of y top o) (slope g m y top o) x (repaired g.mode) g.n ≡ level_for z (alpha_of z top o) (slope g m z top o) x (repaired g.mode) g.n
        go true = ap₂ (λ (a b : Share). level_of (middle a) (middle b)) (share_nu_alike (repaired g.mode) 1 g.n (omega arith)) (share_nu_alike (repaired g.mode) 0 g.n (omega arith))
        go false = ap (λ (a : Share). record { rho = middle a; r = of_bits binary64 0 }) (share_c_alike g.n (omega arith))

    sum_alike : (term : ℕ → Float) (a : ℕ) → a ≤ g.n → sum_of o.weights (slope g m y top o) term a ≡ sum_of o.weights (slope g m z top o) term a
    unfolding sum_of
    sum_alike term zero h = refl
    sum_alike term (suc a) h = rw (sum_alike term a (omega arith), slope_alike o a (omega arith))

    pub objective_alike : (term : ℕ → Float) → objective_in g m y top o term ≡ objective_in g m z top o term
    objective_alike term = ap (λ (x : Float). div binary64 x two) (sum_alike term g.n (omega arith))
