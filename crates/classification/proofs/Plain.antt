-- An entry with the published Rust's floor is what it was before the floor could be told: its judgements, and its run; `.._sized_plain` is what follows the sizes,
-- which the C functions' definitions name. Assumes nothing.
use Prim.Native.Nat.{ℕ}
use mathlib.Core.Bool.{Bool, true, false, ◌&&◌}
use mathlib.Core.List.{List}
use mathlib.Core.Path.{◌≡◌, refl}
use lib.Dec.{eqb}
use lib.Ieee.{Float, of_bits, lt, le}
use lib.ListN.{length}
use Rattle.alpha.specs.Weight as Weight
use Rattle.alpha.specs.Weight.{one, minus_one}
use Rattle.answer.specs.Lent.{Lent}
use Rattle.answer.specs.declared.Finish.TheVariants.{Plain, Signed, Scaled}
use Rattle.fits.specs.Starts.{nothing, evenly, all_positive, costs_to, half, shared_to, one_class_to}
use Rattle.judge.specs.Judge.{floor_good, general_judged, c_judged, nu_judged, one_class_judged}
use Rattle.judge.proofs.Accepted.{floor_passed}
use Rattle.kernel.specs.declared.Kind.{Kind}
use Rattle.kernel.specs.declared.Kind.TheVariants.{TwoClass, OneClass}
use Rattle.modes.specs.declared.Mode.TheVariants.{Crate}
use Rattle.solver.specs.declared.Given.{Given}
use Rattle.tuning.specs.Tuning.{plain_tuning}
use Rattle.classification.specs.Entries.{sizes_of, decided, fitted, general_tuned, general_tuned_sized, fit_c_tuned, fit_c_tuned_sized, fit_nu_tuned, fit_nu_tuned_sized, fit_one_class_tuned, fit_one_class_tuned_sized, general_of, fit_c_of, fit_nu_of, fit_one_class_of}

pub plain_good : floor_good Weight.floor ≡ true
unfolding floor_good of_bits lt le
plain_good = refl

-- what a run was given then
abbrev pub given_then : ℕ → Kind → Float → Bool → Bool → Given
given_then n kind eps shrinking nu = record { n = n; side = n; kind = kind; mode = Crate; floor = Weight.floor; eps = eps; shrinking = shrinking; nu = nu }

module _ (n : ℕ) (m l : List ℕ) (eps : Float) (shrinking : Bool) (budget : ℕ) (d : Lent) where
  pub general_sized_plain : (c a p : List Float) (nurule : Bool)
      → general_tuned_sized plain_tuning n m l c a p nurule eps shrinking budget d
      ≡ decided (general_judged n m l c a p eps budget) (fitted (given_then n TwoClass eps shrinking nurule) Plain m l c a p budget d) d
  unfolding general_tuned_sized
  general_sized_plain c a p nurule = rw (floor_passed Weight.floor (general_judged n m l c a p eps budget) plain_good)

  pub general_plain : (c a p : List Float) (nurule : Bool)
      → general_of n m l c a p nurule eps shrinking budget d
      ≡ decided (sizes_of n (eqb (length l) n && eqb (length c) n && eqb (length a) n && eqb (length p) n) m d) (decided (general_judged n m l c a p eps budget) (fitted (given_then n TwoClass eps shrinking nurule) Plain m l c a p budget d) d) d
  unfolding general_tuned
  general_plain c a p nurule = rw (general_sized_plain c a p nurule)

  pub c_sized_plain : (cpos cneg : Float)
      → fit_c_tuned_sized plain_tuning n m l cpos cneg eps shrinking budget d
      ≡ decided (c_judged n m l cpos cneg eps budget) (fitted (given_then n TwoClass eps shrinking false) Signed m l (costs_to cpos cneg l nothing n) nothing (evenly minus_one n) budget d) d
  unfolding fit_c_tuned_sized
  c_sized_plain cpos cneg = rw (floor_passed Weight.floor (c_judged n m l cpos cneg eps budget) plain_good)

  pub c_plain : (cpos cneg : Float)
      → fit_c_of n m l cpos cneg eps shrinking budget d
      ≡ decided (sizes_of n (eqb (length l) n) m d) (decided (c_judged n m l cpos cneg eps budget) (fitted (given_then n TwoClass eps shrinking false) Signed m l (costs_to cpos cneg l nothing n) nothing (evenly minus_one n) budget d) d) d
  unfolding fit_c_tuned
  c_plain cpos cneg = rw (c_sized_plain cpos cneg)

  pub nu_sized_plain : (nu : Float)
      → fit_nu_tuned_sized plain_tuning n m l nu eps shrinking budget d
      ≡ decided (nu_judged n m l nu eps budget) (fitted (given_then n TwoClass eps shrinking true) Scaled m l (evenly one n) (shared_to (half nu n) l nothing n) nothing budget d) d
  unfolding fit_nu_tuned_sized
  nu_sized_plain nu = rw (floor_passed Weight.floor (nu_judged n m l nu eps budget) plain_good)

  pub nu_plain : (nu : Float)
      → fit_nu_of n m l nu eps shrinking budget d
      ≡ decided (sizes_of n (eqb (length l) n) m d) (decided (nu_judged n m l nu eps budget) (fitted (given_then n TwoClass eps shrinking true) Scaled m l (evenly one n) (shared_to (half nu n) l nothing n) nothing budget d) d) d
  unfolding fit_nu_tuned
  nu_plain nu = rw (nu_sized_plain nu)

  pub one_class_sized_plain : (nu : Float)
      → fit_one_class_tuned_sized plain_tuning n m nu eps shrinking budget d
      ≡ decided (one_class_judged n m nu eps budget) (fitted (given_then n OneClass eps shrinking false) Plain m (all_positive n) (evenly one n) (one_class_to nu n nothing n) nothing budget d) d
  unfolding fit_one_class_tuned_sized
  one_class_sized_plain nu = rw (floor_passed Weight.floor (one_class_judged n m nu eps budget) plain_good)

  pub one_class_plain : (nu : Float)
      → fit_one_class_of n m nu eps shrinking budget d
      ≡ decided (sizes_of n (true) m d) (decided (one_class_judged n m nu eps budget) (fitted (given_then n OneClass eps shrinking false) Plain m (all_positive n) (evenly one n) (one_class_to nu n nothing n) nothing budget d) d) d
  unfolding fit_one_class_tuned
  one_class_plain nu = rw (one_class_sized_plain nu)
