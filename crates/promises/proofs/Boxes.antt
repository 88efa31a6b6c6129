-- The box of each entry: general with equal ceilings, C with equal costs, nu and one-class under 1. That a float lent fits its format is asked: every
-- f64 does. Assumes nothing.
use Prim.Native.Nat.{ℕ, ◌≤◌, ◌<◌}
use mathlib.Core.Bool.{Bool, true, false, cond}
use mathlib.Core.List.{List}
use mathlib.Core.Path.{◌≡◌, refl, ◌∙◌}
use native.Mathlib.Omega.{arith}
use lib.Dec.{T, eqb}
use lib.Ieee.{Float, nan, binary64, of_bits, fits, is_nan}
use lib.Ieee.Bits.{of_bits-fits}
use lib.ListN.{get_or}
use Rattle.std.specs.Prelude.{Some}
use Rattle.alpha.specs.Weight as Weight
use Rattle.alpha.specs.Weight.{one}
use Rattle.answer.specs.Lent.{Lent}
use Rattle.answer.specs.declared.Answer.{Answer}
use Rattle.boxed.specs.Range.{Ceiling, In}
use Rattle.classification.specs.Entries.{general_tuned, fit_c_tuned, fit_nu_tuned, fit_one_class_tuned}
use Rattle.fits.specs.Starts.{nothing, half, shared_to, one_class_to}
use Rattle.fits.proofs.Starts.{nothing_at, evenly_at, positive_at, cost_at}
use Rattle.judge.specs.Judge.{is_ceiling, ceiling_good, alpha_good, floor_good, general_judged}
use Rattle.judge.proofs.Accepted.{general_fine, c_fine, nu_fine, one_class_fine, alpha_within, nu_within}
use Rattle.judge.proofs.First.{first_fine}
use Rattle.judge.specs.declared.Refusal.TheVariants as Refusal
use Rattle.rounding.specs.Units.{NotNan}
use Rattle.rounding.proofs.Order.{le_refl}
use Rattle.travel.specs.Home.{last_left}
use Rattle.tuning.specs.declared.Tuning.{Tuning}
use Rattle.promises.specs.Fit.{general_fit, c_fit, nu_fit, one_class_fit, weight_after, pair_after, delta_after, steps_taken}
use Rattle.promises.proofs.Box.{Common, floor_in, entries_in, labels_in, ceiling_in_law, weight_in_law, served_box, served_no_nan, served_home_box}
use Rattle.promises.proofs.Entries.{general_judged_law, general_floored, general_served, c_judged_law, c_floored, c_served, nu_judged_law, nu_floored, nu_served, one_class_judged_law, one_class_floored, one_class_served}
use Rattle.promises.proofs.Starts.{ceiling_one, nu_start, one_class_start}
use Rattle.std.specs.Prelude.{Ok}

-- ---- general: every lent ceiling is b

module _ (tune : Tuning) (n : ℕ) (m l : List ℕ) (c a p : List Float) (nurule : Bool) (eps : Float) (shrinking : Bool) (budget : ℕ) (some : 1 ≤ n)
    (judged : general_judged n m l c a p eps budget ≡ Ok tt) (good : floor_good tune.floor ≡ true) (b : Float) (fit : T (fits binary64 b)) (same : (i : ℕ) → i < n → get_or c i nan ≡ b)
    (fit_a : (i : ℕ) → i < n → T (fits binary64 (get_or a i nan))) where
  judged_b : is_ceiling b ≡ true
  unfolding ceiling_good
  judged_b =
      let f = general_fine n m l c a p eps budget judged in
      rw (same 0 some) at (first_fine Refusal.Ceiling (ceiling_good c) n 0 f.ceilings 0 (omega arith) (omega (arith, some)))

  pub general_common : Common (general_fit tune n l c a p nurule eps shrinking) m b
  general_common =
      let f = general_fine n m l c a p eps budget judged in
      record {
        ceiling = ceiling_in_law b fit judged_b;
        places = same;
        weights = λ i h.
            let w = alpha_within a c i (first_fine Refusal.Alpha (alpha_good a c) n 0 f.alphas i (omega arith) (omega arith)) in
            weight_in_law b (get_or a i nan) (fit_a i h) w.0 (rw (same i h) at w.1);
        entries = entries_in n m f.matrix;
        labels = labels_in n l f.labels;
        floor = floor_in tune.floor good;
      }

module _ (tune : Tuning) (n : ℕ) (m l : List ℕ) (c a p : List Float) (nurule : Bool) (eps : Float) (shrinking : Bool) (budget : ℕ) (d : Lent) (x : Answer)
    (e : (general_tuned tune n m l c a p nurule eps shrinking budget d).out ≡ Ok x) (b : Float) (fit : T (fits binary64 b)) (same : (i : ℕ) → i < n → get_or c i nan ≡ b)
    (fit_a : (i : ℕ) → i < n → T (fits binary64 (get_or a i nan))) where
  one_b : Common (general_fit tune n l c a p nurule eps shrinking) m b
  one_b =
      general_common tune n m l c a p nurule eps shrinking budget (general_served tune n m l c a p nurule eps shrinking budget d x e).room.some
      (general_judged_law tune n m l c a p nurule eps shrinking budget d x e) (general_floored tune n m l c a p nurule eps shrinking budget d x e) b fit same fit_a

  pub general_box : (t i : ℕ) → i < n → In b (weight_after (general_fit tune n l c a p nurule eps shrinking) m d t i)
  general_box = served_box (general_served tune n m l c a p nurule eps shrinking budget d x e) one_b

  pub general_no_nan : (t i j : ℕ) → pair_after (general_fit tune n l c a p nurule eps shrinking) m d t ≡ Some (i, j)
      → NotNan (delta_after (general_fit tune n l c a p nurule eps shrinking) m d t i j)
  general_no_nan = served_no_nan (general_served tune n m l c a p nurule eps shrinking budget d x e) one_b

  -- the weight behind what home answers for sample s
  pub general_home_box : (s : ℕ) → s < n → In b (last_left (steps_taken (general_fit tune n l c a p nurule eps shrinking) m d budget) s (get_or a s nan))
  general_home_box = served_home_box (general_served tune n m l c a p nurule eps shrinking budget d x e) one_b

-- ---- C: one cost for both labels

pub same_cost : (c : Float) (b : Bool) → cond b c c ≡ c
same_cost c true = refl
same_cost c false = refl

pub nought_in : (b : Float) → Ceiling b → In b Weight.zero
unfolding of_bits is_nan
nought_in b h = weight_in_law b Weight.zero (of_bits-fits binary64 0) (le_refl Weight.zero tt) h.low

module _ (tune : Tuning) (n : ℕ) (m l : List ℕ) (cost eps : Float) (shrinking : Bool) (budget : ℕ) (d : Lent) (x : Answer) (e : (fit_c_tuned tune n m l cost cost eps shrinking budget d).out ≡ Ok x)
    (fit : T (fits binary64 cost)) where
  c_common : Common (c_fit tune n l cost cost eps shrinking) m cost
  c_common =
      let f = c_fine n m l cost cost eps budget (c_judged_law tune n m l cost cost eps shrinking budget d x e) in
      let most = (c_served tune n m l cost cost eps shrinking budget d x e).room.most in
      let top = ceiling_in_law cost fit f.cpos_good in
      record {
        ceiling = top;
        places = λ i h. cost_at n i most h cost cost l ∙ same_cost cost (eqb (get_or l i 0) 1);
        weights = λ i h. rw (nothing_at n i most h) (nought_in cost top);
        entries = entries_in n m f.matrix;
        labels = labels_in n l f.labels;
        floor = floor_in tune.floor (c_floored tune n m l cost cost eps shrinking budget d x e);
      }

  pub c_box : (t i : ℕ) → i < n → In cost (weight_after (c_fit tune n l cost cost eps shrinking) m d t i)
  c_box = served_box (c_served tune n m l cost cost eps shrinking budget d x e) c_common

  pub c_no_nan : (t i j : ℕ) → pair_after (c_fit tune n l cost cost eps shrinking) m d t ≡ Some (i, j) → NotNan (delta_after (c_fit tune n l cost cost eps shrinking) m d t i j)
  c_no_nan = served_no_nan (c_served tune n m l cost cost eps shrinking budget d x e) c_common

  -- the weight behind what home answers for sample s
  pub c_home_box : (s : ℕ) → s < n → In cost (last_left (steps_taken (c_fit tune n l cost cost eps shrinking) m d budget) s (get_or nothing s nan))
  c_home_box = served_home_box (c_served tune n m l cost cost eps shrinking budget d x e) c_common

-- ---- nu and one-class: every ceiling is 1

module _ (tune : Tuning) (n : ℕ) (m l : List ℕ) (nu eps : Float) (shrinking : Bool) (budget : ℕ) (d : Lent) (x : Answer) (e : (fit_nu_tuned tune n m l nu eps shrinking budget d).out ≡ Ok x)
    (fit : T (fits binary64 nu)) where
  nu_common : Common (nu_fit tune n l nu eps shrinking) m one
  nu_common =
      let f = nu_fine n m l nu eps budget (nu_judged_law tune n m l nu eps shrinking budget d x e) in
      let r = (nu_served tune n m l nu eps shrinking budget d x e).room in
      let w = nu_within nu f.nu_good_law in
      record {
        ceiling = ceiling_one;
        places = λ i h. evenly_at n i r.most h one;
        weights = nu_start nu fit w.0 w.1 n r.some r.most l;
        entries = entries_in n m f.matrix;
        labels = labels_in n l f.labels;
        floor = floor_in tune.floor (nu_floored tune n m l nu eps shrinking budget d x e);
      }

  pub nu_box : (t i : ℕ) → i < n → In one (weight_after (nu_fit tune n l nu eps shrinking) m d t i)
  nu_box = served_box (nu_served tune n m l nu eps shrinking budget d x e) nu_common

  pub nu_no_nan : (t i j : ℕ) → pair_after (nu_fit tune n l nu eps shrinking) m d t ≡ Some (i, j) → NotNan (delta_after (nu_fit tune n l nu eps shrinking) m d t i j)
  nu_no_nan = served_no_nan (nu_served tune n m l nu eps shrinking budget d x e) nu_common

  -- the weight behind what home answers for sample s
  pub nu_home_box : (s : ℕ) → s < n → In one (last_left (steps_taken (nu_fit tune n l nu eps shrinking) m d budget) s (get_or (shared_to (half nu n) l nothing n) s nan))
  nu_home_box = served_home_box (nu_served tune n m l nu eps shrinking budget d x e) nu_common

module _ (tune : Tuning) (n : ℕ) (m : List ℕ) (nu eps : Float) (shrinking : Bool) (budget : ℕ) (d : Lent) (x : Answer) (e : (fit_one_class_tuned tune n m nu eps shrinking budget d).out ≡ Ok x)
    (fit : T (fits binary64 nu)) where
  one_class_common : Common (one_class_fit tune n nu eps shrinking) m one
  one_class_common =
      let f = one_class_fine n m nu eps budget (one_class_judged_law tune n m nu eps shrinking budget d x e) in
      let r = (one_class_served tune n m nu eps shrinking budget d x e).room in
      let w = nu_within nu f.nu_good_law in
      record {
        ceiling = ceiling_one;
        places = λ i h. evenly_at n i r.most h one;
        weights = one_class_start nu fit w.0 w.1 n r.some r.most;
        entries = entries_in n m f.matrix;
        labels = λ i h. rw (positive_at n i r.most h) (omega arith);
        floor = floor_in tune.floor (one_class_floored tune n m nu eps shrinking budget d x e);
      }

  pub one_class_box : (t i : ℕ) → i < n → In one (weight_after (one_class_fit tune n nu eps shrinking) m d t i)
  one_class_box = served_box (one_class_served tune n m nu eps shrinking budget d x e) one_class_common

  pub one_class_no_nan : (t i j : ℕ) → pair_after (one_class_fit tune n nu eps shrinking) m d t ≡ Some (i, j) → NotNan (delta_after (one_class_fit tune n nu eps shrinking) m d t i j)
  one_class_no_nan = served_no_nan (one_class_served tune n m nu eps shrinking budget d x e) one_class_common

  -- the weight behind what home answers for sample s
  pub one_class_home_box : (s : ℕ) → s < n → In one (last_left (steps_taken (one_class_fit tune n nu eps shrinking) m d budget) s (get_or (one_class_to nu n nothing n) s nan))
  one_class_home_box = served_home_box (one_class_served tune n m nu eps shrinking budget d x e) one_class_common
