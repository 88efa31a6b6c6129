-- Each entry where it accepts: the fit behind it; home; what stays with a sample. Assumes nothing.
use Prim.Native.Nat.{ℕ, ◌<◌}
use mathlib.Core.Bool.{Bool, true, ◌&&◌}
use mathlib.Core.List.{List}
use mathlib.Core.Path.{◌≡◌, refl, ap, ◌∙◌}
use lib.Dec.{eqb}
use lib.Ieee.{Float, nan}
use lib.ListN.{length, get_or}
use Rattle.alpha.specs.Weight.{minus_one}
use Rattle.answer.specs.Lent.{Lent, Whole}
use Rattle.answer.specs.declared.Answer.{Answer}
use Rattle.classification.specs.Entries.{sizes_of, fitted, general_tuned_sized, general_tuned, fit_c_tuned_sized, fit_c_tuned, fit_nu_tuned_sized, fit_nu_tuned, fit_one_class_tuned_sized, fit_one_class_tuned}
use Rattle.classification.proofs.Laws.{usable_general, usable_c, usable_nu, usable_one_class}
use Rattle.fits.specs.Starts.{nothing, evenly, all_positive, cost_of}
use Rattle.fits.proofs.Starts.{cost_at}
use Rattle.judge.specs.Judge.{general_judged, c_judged, nu_judged, one_class_judged, floor_good, floor_judged}
use Rattle.judge.proofs.Accepted.{floor_fine}
use Rattle.judge.proofs.Lengths.{room_of}
use Rattle.modes.specs.Modes.{travels}
use Rattle.modes.specs.declared.Mode.TheVariants.{Travelling}
use Rattle.state.specs.Fields.{sample}
use Rattle.travel.specs.Travel.{Travelled, OwnCeilings}
use Rattle.promises.specs.Fit.{Fit, general_fit, c_fit, nu_fit, one_class_fit, after, own_weight}
use Rattle.classification.proofs.Accepts.{decided_in}
use Rattle.tuning.specs.declared.Tuning.{Tuning}
use Rattle.promises.proofs.Home.{served_home}
use Rattle.promises.proofs.Travel.{Served, served_travels, travelling_travels, served_ceilings}
use Rattle.std.specs.Prelude.{Ok}

-- the fit k over the lent lists
abbrev fitted_to : Fit → List ℕ → ℕ → Lent → Whole
fitted_to k m budget d = fitted k.given k.how m k.labels k.ceilings k.weights k.terms budget d

out_of : (x : Answer) (w v : Whole) → w ≡ v → w.out ≡ Ok x → v.out ≡ Ok x
out_of x w v e h = rw e at h

-- ---- general

module _ (tune : Tuning) (n : ℕ) (m l : List ℕ) (c a p : List Float) (nurule : Bool) (eps : Float) (shrinking : Bool) (budget : ℕ) (d : Lent) (x : Answer) (e : (general_tuned tune n m l c a p nurule eps shrinking budget d).out ≡ Ok x) where
  abbrev general_k : Fit
  general_k = general_fit tune n l c a p nurule eps shrinking

  general_entered : (sizes_of n (eqb (length l) n && eqb (length c) n && eqb (length a) n && eqb (length p) n) m d ≡ Ok tt) × (general_tuned tune n m l c a p nurule eps shrinking budget d ≡ general_tuned_sized tune n m l c a p nurule eps shrinking budget d)
  unfolding general_tuned
  general_entered = decided_in (general_tuned_sized tune n m l c a p nurule eps shrinking budget d) d x (sizes_of n (eqb (length l) n && eqb (length c) n && eqb (length a) n && eqb (length p) n) m d) e

  general_decided : (floor_judged tune.floor (general_judged n m l c a p eps budget) ≡ Ok tt) × (general_tuned_sized tune n m l c a p nurule eps shrinking budget d ≡ fitted_to general_k m budget d)
  unfolding general_tuned_sized
  general_decided = decided_in (fitted_to general_k m budget d) d x (floor_judged tune.floor (general_judged n m l c a p eps budget)) (out_of x _ _ general_entered.1 e)

  -- no refusal from 3 to 10, and not 14
  pub general_judged_law : general_judged n m l c a p eps budget ≡ Ok tt
  general_judged_law = (floor_fine tune.floor (general_judged n m l c a p eps budget) general_decided.0).0

  pub general_floored : floor_good tune.floor ≡ true
  general_floored = (floor_fine tune.floor (general_judged n m l c a p eps budget) general_decided.0).1

  pub general_served : Served (general_fit tune n l c a p nurule eps shrinking) m budget d (general_tuned tune n m l c a p nurule eps shrinking budget d)
  general_served =
      let r = room_of n (eqb (length l) n && eqb (length c) n && eqb (length a) n && eqb (length p) n) (length m) (length d.crate) (length d.home) (length d.floats) (length d.numbers) (length d.bytes) general_entered.0 in
      record { square = refl; room = r; usable = usable_general n m budget r.most r.matrix l c a p eps general_judged_law; same = general_entered.1 ∙ general_decided.1 }

  -- what home answers for sample s
  pub general_home : (s : ℕ) → s < n → get_or (general_tuned tune n m l c a p nurule eps shrinking budget d).left.home s nan ≡ own_weight (general_fit tune n l c a p nurule eps shrinking) m d budget s
  general_home = served_home general_served x e

  -- after each number of passes
  pub general_travels : (t : ℕ) → Travelled n (λ s. get_or l s 0) (λ s. get_or p s nan) (after (general_fit tune n l c a p nurule eps shrinking) m d t).state
  general_travels = served_travels general_served

  pub general_ceilings : tune.mode ≡ Travelling → (t : ℕ) → OwnCeilings n (λ s. get_or c s nan) (after (general_fit tune n l c a p nurule eps shrinking) m d t).state
  general_ceilings h = served_ceilings general_served (ap travels h ∙ travelling_travels)

-- ---- C

module _ (tune : Tuning) (n : ℕ) (m l : List ℕ) (cpos cneg eps : Float) (shrinking : Bool) (budget : ℕ) (d : Lent) (x : Answer) (e : (fit_c_tuned tune n m l cpos cneg eps shrinking budget d).out ≡ Ok x) where
  abbrev c_k : Fit
  c_k = c_fit tune n l cpos cneg eps shrinking

  c_entered : (sizes_of n (eqb (length l) n) m d ≡ Ok tt) × (fit_c_tuned tune n m l cpos cneg eps shrinking budget d ≡ fit_c_tuned_sized tune n m l cpos cneg eps shrinking budget d)
  unfolding fit_c_tuned
  c_entered = decided_in (fit_c_tuned_sized tune n m l cpos cneg eps shrinking budget d) d x (sizes_of n (eqb (length l) n) m d) e

  c_decided : (floor_judged tune.floor (c_judged n m l cpos cneg eps budget) ≡ Ok tt) × (fit_c_tuned_sized tune n m l cpos cneg eps shrinking budget d ≡ fitted_to c_k m budget d)
  unfolding fit_c_tuned_sized
  c_decided = decided_in (fitted_to c_k m budget d) d x (floor_judged tune.floor (c_judged n m l cpos cneg eps budget)) (out_of x _ _ c_entered.1 e)

  -- no refusal from 3 to 10, and not 14
  pub c_judged_law : c_judged n m l cpos cneg eps budget ≡ Ok tt
  c_judged_law = (floor_fine tune.floor (c_judged n m l cpos cneg eps budget) c_decided.0).0

  pub c_floored : floor_good tune.floor ≡ true
  c_floored = (floor_fine tune.floor (c_judged n m l cpos cneg eps budget) c_decided.0).1

  pub c_served : Served (c_fit tune n l cpos cneg eps shrinking) m budget d (fit_c_tuned tune n m l cpos cneg eps shrinking budget d)
  c_served =
      let r = room_of n (eqb (length l) n) (length m) (length d.crate) (length d.home) (length d.floats) (length d.numbers) (length d.bytes) c_entered.0 in
      record { square = refl; room = r; usable = usable_c n m budget r.most r.matrix l cpos cneg eps c_judged_law; same = c_entered.1 ∙ c_decided.1 }

  -- what home answers for sample s
  pub c_home : (s : ℕ) → s < n → get_or (fit_c_tuned tune n m l cpos cneg eps shrinking budget d).left.home s nan ≡ own_weight (c_fit tune n l cpos cneg eps shrinking) m d budget s
  c_home = served_home c_served x e

  -- after each number of passes
  pub c_travels : (t : ℕ) → Travelled n (λ s. get_or l s 0) (λ s. get_or (evenly minus_one n) s nan) (after (c_fit tune n l cpos cneg eps shrinking) m d t).state
  c_travels = served_travels c_served

  -- a position's ceiling is that of its sample's label
  pub c_ceilings : tune.mode ≡ Travelling → (t : ℕ) → OwnCeilings n (λ s. cost_of cpos cneg (get_or l s 0)) (after (c_fit tune n l cpos cneg eps shrinking) m d t).state
  c_ceilings h t k z =
      let w = (after (c_fit tune n l cpos cneg eps shrinking) m d t).state in
      served_ceilings c_served (ap travels h ∙ travelling_travels) t k z ∙ cost_at n (sample w k) c_served.room.most ((c_travels t).order.within.below k z) cpos cneg l

-- ---- nu

module _ (tune : Tuning) (n : ℕ) (m l : List ℕ) (nu eps : Float) (shrinking : Bool) (budget : ℕ) (d : Lent) (x : Answer) (e : (fit_nu_tuned tune n m l nu eps shrinking budget d).out ≡ Ok x) where
  abbrev nu_k : Fit
  nu_k = nu_fit tune n l nu eps shrinking

  nu_entered : (sizes_of n (eqb (length l) n) m d ≡ Ok tt) × (fit_nu_tuned tune n m l nu eps shrinking budget d ≡ fit_nu_tuned_sized tune n m l nu eps shrinking budget d)
  unfolding fit_nu_tuned
  nu_entered = decided_in (fit_nu_tuned_sized tune n m l nu eps shrinking budget d) d x (sizes_of n (eqb (length l) n) m d) e

  nu_decided : (floor_judged tune.floor (nu_judged n m l nu eps budget) ≡ Ok tt) × (fit_nu_tuned_sized tune n m l nu eps shrinking budget d ≡ fitted_to nu_k m budget d)
  unfolding fit_nu_tuned_sized
  nu_decided = decided_in (fitted_to nu_k m budget d) d x (floor_judged tune.floor (nu_judged n m l nu eps budget)) (out_of x _ _ nu_entered.1 e)

  -- no refusal from 3 to 10, and not 14
  pub nu_judged_law : nu_judged n m l nu eps budget ≡ Ok tt
  nu_judged_law = (floor_fine tune.floor (nu_judged n m l nu eps budget) nu_decided.0).0

  pub nu_floored : floor_good tune.floor ≡ true
  nu_floored = (floor_fine tune.floor (nu_judged n m l nu eps budget) nu_decided.0).1

  pub nu_served : Served (nu_fit tune n l nu eps shrinking) m budget d (fit_nu_tuned tune n m l nu eps shrinking budget d)
  nu_served =
      let r = room_of n (eqb (length l) n) (length m) (length d.crate) (length d.home) (length d.floats) (length d.numbers) (length d.bytes) nu_entered.0 in
      record { square = refl; room = r; usable = usable_nu n m budget r.most r.matrix l nu eps nu_judged_law; same = nu_entered.1 ∙ nu_decided.1 }

  -- what home answers for sample s
  pub nu_home : (s : ℕ) → s < n → get_or (fit_nu_tuned tune n m l nu eps shrinking budget d).left.home s nan ≡ own_weight (nu_fit tune n l nu eps shrinking) m d budget s
  nu_home = served_home nu_served x e

  -- after each number of passes
  pub nu_travels : (t : ℕ) → Travelled n (λ s. get_or l s 0) (λ s. get_or nothing s nan) (after (nu_fit tune n l nu eps shrinking) m d t).state
  nu_travels = served_travels nu_served

-- ---- one-class

module _ (tune : Tuning) (n : ℕ) (m : List ℕ) (nu eps : Float) (shrinking : Bool) (budget : ℕ) (d : Lent) (x : Answer) (e : (fit_one_class_tuned tune n m nu eps shrinking budget d).out ≡ Ok x) where
  abbrev one_class_k : Fit
  one_class_k = one_class_fit tune n nu eps shrinking

  one_class_entered : (sizes_of n (true) m d ≡ Ok tt) × (fit_one_class_tuned tune n m nu eps shrinking budget d ≡ fit_one_class_tuned_sized tune n m nu eps shrinking budget d)
  unfolding fit_one_class_tuned
  one_class_entered = decided_in (fit_one_class_tuned_sized tune n m nu eps shrinking budget d) d x (sizes_of n (true) m d) e

  one_class_decided : (floor_judged tune.floor (one_class_judged n m nu eps budget) ≡ Ok tt) × (fit_one_class_tuned_sized tune n m nu eps shrinking budget d ≡ fitted_to one_class_k m budget d)
  unfolding fit_one_class_tuned_sized
  one_class_decided = decided_in (fitted_to one_class_k m budget d) d x (floor_judged tune.floor (one_class_judged n m nu eps budget)) (out_of x _ _ one_class_entered.1 e)

  -- no refusal from 3 to 10, and not 14
  pub one_class_judged_law : one_class_judged n m nu eps budget ≡ Ok tt
  one_class_judged_law = (floor_fine tune.floor (one_class_judged n m nu eps budget) one_class_decided.0).0

  pub one_class_floored : floor_good tune.floor ≡ true
  one_class_floored = (floor_fine tune.floor (one_class_judged n m nu eps budget) one_class_decided.0).1

  pub one_class_served : Served (one_class_fit tune n nu eps shrinking) m budget d (fit_one_class_tuned tune n m nu eps shrinking budget d)
  one_class_served =
      let r = room_of n (true) (length m) (length d.crate) (length d.home) (length d.floats) (length d.numbers) (length d.bytes) one_class_entered.0 in
      record { square = refl; room = r; usable = usable_one_class n m budget r.most r.matrix nu eps one_class_judged_law; same = one_class_entered.1 ∙ one_class_decided.1 }

  -- what home answers for sample s
  pub one_class_home : (s : ℕ) → s < n → get_or (fit_one_class_tuned tune n m nu eps shrinking budget d).left.home s nan ≡ own_weight (one_class_fit tune n nu eps shrinking) m d budget s
  one_class_home = served_home one_class_served x e

  -- after each number of passes
  pub one_class_travels : (t : ℕ) → Travelled n (λ s. get_or (all_positive n) s 0) (λ s. get_or nothing s nan) (after (one_class_fit tune n nu eps shrinking) m d t).state
  one_class_travels = served_travels one_class_served
