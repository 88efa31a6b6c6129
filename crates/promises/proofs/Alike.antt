-- With shrinking off the two lists that an entry answers are one and the same. Assumes nothing.
use Prim.Native.Nat.{ℕ, ◌<◌}
use mathlib.Core.Bool.{Bool, false}
use mathlib.Core.List.{List}
use mathlib.Core.Path.{◌≡◌, refl, sym, ap, ◌∙◌}
use native.Mathlib.Omega.{arith}
use lib.Ieee.{Float, nan}
use lib.ListN.{length, get_or}
use Rattle.answer.specs.Answer.{coefficient_of}
use Rattle.answer.specs.Lent.{Lent, Whole}
use Rattle.answer.specs.Solved as Solved
use Rattle.answer.specs.declared.Answer.{Answer}
use Rattle.classification.specs.Entries.{general_tuned, fit_c_tuned, fit_nu_tuned, fit_one_class_tuned}
use Rattle.fits.proofs.Loaded.{length_numbers, sample_loaded}
use Rattle.readings.specs.Order.{crate_reading, home_reading, weight_in, Perm}
use Rattle.readings.proofs.Order.{length_gathered, crate_at, home_at}
use Rattle.solver.specs.Run.{Full}
use Rattle.solver.specs.declared.Given.{Given}
use Rattle.promises.specs.Fit.{Fit, start_from, run_of, r_of}
use Rattle.promises.proofs.Entries.{general_served, c_served, nu_served, one_class_served}
use Rattle.promises.proofs.Home.{finished_at, served_lists, served_at}
use Rattle.classification.proofs.Still.{trained_still}
use Rattle.tuning.specs.declared.Tuning.{Tuning}
use Rattle.promises.proofs.Travel.{Served}
use Rattle.std.specs.Prelude.{Ok}

module _ {k : Fit} {m : List ℕ} {budget : ℕ} {d : Lent} {o : Whole} (v : Served k m budget d o) (x : Answer) (e : o.out ≡ Ok x) (off : k.given.shrinking ≡ false) where
  abbrev g : Given
  g = k.given

  abbrev w : Full
  w = run_of k m d budget

  abbrev weights : ℕ → Float
  weights = weight_in g.n w.state.floats

  -- each sample stands at its own place
  own_place : (i : ℕ) → i < g.n → get_or w.state.numbers i 0 ≡ i
  own_place i h =
      ap (λ (u : List ℕ). get_or u i 0) (trained_still g m k.ceilings off (start_from k m d).numbers budget (start_from k m d) refl).order
      ∙ sample_loaded g.n d.numbers v.room.numbers g.n i (omega arith) h

  own_order : Perm g.n w.state.numbers
  own_order = record {
    within = record {
      long =
          rw (ap length (trained_still g m k.ceilings off (start_from k m d).numbers budget (start_from k m d) refl).order)
          (rw (length_numbers g.n d.numbers g.n) (let r = v.room.numbers in omega arith));
      below = λ i h. rw (own_place i h) h;
    };
    place = λ s. s;
    inside = λ s h. h;
    there = own_place;
    only = own_place;
  }

  -- home reads what stands at the sample's own place
  pub home_own : (s : ℕ) → s < g.n → get_or (home_reading g.n w.state.numbers weights d.home) s nan ≡ weights s
  unfolding own_order
  home_own s h = home_at nan w.state.numbers weights d.home g.n s v.room.home own_order h

  pub served_alike : (s : ℕ) → s < g.n → get_or o.left.crate s nan ≡ get_or o.left.home s nan
  unfolding Solved.crate_of
  served_alike s h =
      ap (λ (t : List Float). get_or t s nan) (served_lists v x e).0
      ∙ finished_at k.how k.labels (r_of k m d budget) (crate_reading g.n w.state.numbers weights d.crate) g.n s
      (rw (length_gathered w.state.numbers weights d.crate g.n) v.room.crate) h
      ∙ ap (coefficient_of k.how (get_or k.labels s 0) (r_of k m d budget))
      (crate_at nan w.state.numbers weights d.crate g.n s v.room.crate h
      ∙ ap weights (own_place s h)
      ∙ sym (home_own s h))
      ∙ sym (served_at v x e s h)

module _ (tune : Tuning) (n : ℕ) (m l : List ℕ) (c a p : List Float) (nurule : Bool) (eps : Float) (budget : ℕ) (d : Lent) (x : Answer) (e : (general_tuned tune n m l c a p nurule eps false budget d).out ≡ Ok x) where
  pub general_alike : (s : ℕ) → s < n
      → get_or (general_tuned tune n m l c a p nurule eps false budget d).left.crate s nan ≡ get_or (general_tuned tune n m l c a p nurule eps false budget d).left.home s nan
  general_alike = served_alike (general_served tune n m l c a p nurule eps false budget d x e) x e refl

module _ (tune : Tuning) (n : ℕ) (m l : List ℕ) (cpos cneg eps : Float) (budget : ℕ) (d : Lent) (x : Answer) (e : (fit_c_tuned tune n m l cpos cneg eps false budget d).out ≡ Ok x) where
  pub c_alike : (s : ℕ) → s < n → get_or (fit_c_tuned tune n m l cpos cneg eps false budget d).left.crate s nan ≡ get_or (fit_c_tuned tune n m l cpos cneg eps false budget d).left.home s nan
  c_alike = served_alike (c_served tune n m l cpos cneg eps false budget d x e) x e refl

module _ (tune : Tuning) (n : ℕ) (m l : List ℕ) (nu eps : Float) (budget : ℕ) (d : Lent) (x : Answer) (e : (fit_nu_tuned tune n m l nu eps false budget d).out ≡ Ok x) where
  pub nu_alike : (s : ℕ) → s < n → get_or (fit_nu_tuned tune n m l nu eps false budget d).left.crate s nan ≡ get_or (fit_nu_tuned tune n m l nu eps false budget d).left.home s nan
  nu_alike = served_alike (nu_served tune n m l nu eps false budget d x e) x e refl

module _ (tune : Tuning) (n : ℕ) (m : List ℕ) (nu eps : Float) (budget : ℕ) (d : Lent) (x : Answer) (e : (fit_one_class_tuned tune n m nu eps false budget d).out ≡ Ok x) where
  pub one_class_alike : (s : ℕ) → s < n → get_or (fit_one_class_tuned tune n m nu eps false budget d).left.crate s nan ≡ get_or (fit_one_class_tuned tune n m nu eps false budget d).left.home s nan
  one_class_alike = served_alike (one_class_served tune n m nu eps false budget d x e) x e refl
