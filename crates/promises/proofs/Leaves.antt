-- What an entry leaves in the lent lists, whatever it is given and whatever it answers. Assumes nothing.
use Prim.Native.Nat.{ℕ, ◌*◌, ◌≤◌}
use mathlib.Core.Bool.{Bool, true, false, ◌&&◌, cond, true≢false}
use mathlib.Core.List.{List}
use mathlib.Core.Logic.{inl, inr}
use mathlib.Core.Path.{◌≡◌, refl, sym, ◌∙◌}
use native.Mathlib.Omega.{arith}
use borrow.Author.Tests.{eqb-true}
use lib.Dec.{eqb}
use lib.Ieee.{Float, nan}
use lib.ListN.{length, get_or}
use Rattle.alpha.specs.Weight as Weight
use Rattle.answer.specs.Answer.{coefficient_of, finished_to}
use Rattle.answer.specs.Lent.{Lent, Whole, untouched}
use Rattle.answer.specs.Solved as Solved
use Rattle.answer.specs.Solved.{Read, stuck, level_at, settled_by, closed_with, solved}
use Rattle.answer.specs.declared.Finish.{Finish}
use Rattle.classification.specs.Entries.{given_by, scratch_of, fitted, decided, sizes_of, general_tuned_sized, general_tuned, fit_c_tuned_sized, fit_c_tuned, fit_nu_tuned_sized, fit_nu_tuned, fit_one_class_tuned_sized, fit_one_class_tuned}
use Rattle.classification.proofs.Accepts.{refused_apart}
use Rattle.classification.proofs.Laws.{usable_general, usable_c, usable_nu, usable_one_class}
use Rattle.fits.specs.Load.{loaded}
use Rattle.fits.proofs.Loaded.{length_numbers, sample_loaded}
use Rattle.judge.specs.Judge.{general_judged, floor_judged, retired_judged, c_judged, nu_judged, one_class_judged}
use Rattle.judge.specs.Sizes.{Room, count_good, room_good, sizes}
use Rattle.judge.specs.Refusals.{number}
use Rattle.judge.proofs.Accepted.{floor_fine}
use Rattle.judge.proofs.Lengths.{room_of}
use Rattle.kernel.specs.declared.Kind.TheVariants.{TwoClass}
use Rattle.lists.proofs.Later.{prefix_later}
use Rattle.lists.proofs.Prefix.{prefix_length, filled_at}
use Rattle.readings.specs.Order.{crate_reading, home_reading, weight_in, NamesSamples}
use Rattle.readings.proofs.Order.{length_gathered, length_scattered, crate_after, home_after}
use Rattle.retired.specs.Entry.{stands_in, kept, answered_over, fitted_over, retired_tuned_sized, retired_tuned}
use Rattle.solver.specs.Run.{Full}
use Rattle.solver.specs.declared.Given.{Given}
use Rattle.standing.specs.Run.{trained_over}
use Rattle.standing.proofs.Independent.{trained_order}
use Rattle.state.specs.Lists.{State}
use Rattle.travel.proofs.Travel.{travelled_trained}
use Rattle.tuning.specs.declared.Tuning.{Tuning}
use Rattle.promises.specs.Fit.{Fit, general_fit, c_fit, nu_fit, one_class_fit, start_from, run_of}
use Rattle.promises.specs.Numbers.{Numbered, RetiredNumbered}
use Rattle.promises.specs.Leaves.{Beyond, has_run, Leaves}
use Rattle.promises.proofs.Beyond.{beyond_refl, beyond_trans, Scratch, scratch_refl, scratch_trans, run_beyond, cleared_beyond}
use Rattle.promises.proofs.Numbers.{general_sized_number, c_sized_number, nu_sized_number, one_class_sized_number, retired_sized_number}
use Rattle.promises.proofs.Travel.{Served, ready_start, fresh_start}
use Rattle.std.specs.Prelude.{⊤, Result, Ok, Err}
use Rattle.judge.specs.declared.Refusal.{Refusal}
use Rattle.judge.specs.declared.Refusal.TheVariants.{Samples, Length}

-- ---- refused before a run

away : (n : ℕ) (refusal : Refusal) (d : Lent) → (number refusal ≡ 11 → ⊥) → Leaves n d (untouched (Err refusal) d)
unfolding has_run
away n refusal d other = record {
  untouched = λ e. refl;
  results = λ r e. (refl, refl);
  cleared = λ e. absurd (other (eqb-true (number refusal) 11 e));
  crate = beyond_refl _ _ _;
  home = beyond_refl _ _ _;
  floats = beyond_refl _ _ _;
  numbers = beyond_refl _ _ _;
  bytes = beyond_refl _ _ _;
}

-- by its sizes, by what was judged, or by its run w
entry_leaves : (n : ℕ) (inputs : Bool) (m : List ℕ) (j : Result ⊤ Refusal) (w : Whole) (d : Lent) → ((r : Refusal) → j ≡ Err r → number r ≡ 11 → ⊥)
    → (Room n (length m) (length d.crate) (length d.home) (length d.floats) (length d.numbers) (length d.bytes) → j ≡ Ok tt → Leaves n d w)
    → Leaves n d (decided (sizes_of n inputs m d) (decided j w d) d)
unfolding sizes decided
entry_leaves n inputs m j w d other run =
    sized (count_good n) (inputs && room_good n (length m) (length d.crate) (length d.home) (length d.floats) (length d.numbers) (length d.bytes))
    (λ e. room_of n inputs (length m) (length d.crate) (length d.home) (length d.floats) (length d.numbers) (length d.bytes) e)
  where
    judged : (k : Result ⊤ Refusal) → j ≡ k → (j ≡ Ok tt → Leaves n d w) → Leaves n d (decided k w d)
    judged (Ok x) e go = go e
    judged (Err r) e go = away n r d (other r e)

    sized : (a b : Bool) → (◌≡◌ {A = Result ⊤ Refusal} (cond a (cond b (Ok tt) (Err Length)) (Err Samples)) (Ok tt) → Room n (length m) (length d.crate) (length d.home) (length d.floats) (length d.numbers) (length d.bytes))
        → Leaves n d (decided (cond a (cond b (Ok tt) (Err Length)) (Err Samples)) (decided j w d) d)
    sized true true r = judged j refl (run (r refl))
    sized true false r = away n Length d (λ z. omega arith)
    sized false b r = away n Samples d (λ z. omega arith)

-- ---- after a run

-- s is the scratch that the run left, still to be cleared
module _ (n : ℕ) (d : Lent) (s : State) (rest : Scratch n (scratch_of d) s)
    (f : 7 * n ≤ length d.floats) (u : 2 * n ≤ length d.numbers) (y : n ≤ length d.bytes) where
  after_run : (r : Read) → has_run r.out ≡ true → ((q : Refusal) → r.out ≡ Err q → (r.crate ≡ d.crate) × (r.home ≡ d.home))
      → Beyond nan n d.crate r.crate → Beyond nan n d.home r.home → Leaves n d (closed_with n s r)
  after_run r there same c h =
      let z = scratch_trans rest (cleared_beyond n s) in
      let lf = rest.floats.long in
      let lu = rest.numbers.long in
      let ly = rest.labels.long in
      record {
        untouched = λ e. absurd (true≢false (sym there ∙ e));
        results = same;
        cleared = λ e. record {
          floats = λ k b. filled_at nan Weight.zero s.floats (7 * n) k (omega arith) b;
          numbers = λ k b. filled_at {A = ℕ} 1 0 s.numbers (2 * n) k (omega arith) b;
          bytes = λ k b. filled_at {A = ℕ} 1 0 s.labels n k (omega arith) b;
        };
        crate = c;
        home = h;
        floats = z.floats;
        numbers = z.numbers;
        bytes = z.labels;
      }

crate_beyond : (n : ℕ) (order : List ℕ) (w : ℕ → Float) (t : List Float) → Beyond nan n t (crate_reading n order w t)
crate_beyond n order w t = record { long = length_gathered order w t n; at = λ j h. crate_after nan order w t n j h }

home_beyond : (n : ℕ) (order : List ℕ) (w : ℕ → Float) (t : List Float) → NamesSamples n order → Beyond nan n t (home_reading n order w t)
home_beyond n order w t v = record { long = length_scattered order w t n; at = λ j h. home_after nan order w t n j v h }

pub finished_beyond : (how : Finish) (l : List ℕ) (r : Float) (t : List Float) (n : ℕ) → Beyond nan n t (finished_to how l r t n)
unfolding finished_to
finished_beyond how l r t n =
    let v : ℕ → Float = λ k. coefficient_of how (get_or l k 0) r (get_or (finished_to how l r t k) k nan) in
    record { long = prefix_length nan (finished_to how l r t) v (λ k. refl) n; at = prefix_later nan (finished_to how l r t) v (λ k. refl) n }

module _ {k : Fit} {m : List ℕ} {budget : ℕ} {d : Lent} {o : Whole} (v : Served k m budget d o) where
  abbrev g : Given
  g = k.given

  abbrev w : Full
  w = run_of k m d budget

  within : NamesSamples g.n w.state.numbers
  within = (travelled_trained g m k.ceilings budget (start_from k m d) (ready_start v) (fresh_start v)).order.within

  settled_leaves : (b : Bool) → Leaves g.n d (closed_with g.n w.state (settled_by b g k.how k.labels budget w d.crate d.home))
  unfolding settled_by has_run Solved.crate_of Solved.home_of
  settled_leaves b =
      go b (run_beyond g m k.labels k.ceilings k.weights k.terms budget (scratch_of d) (let q = v.square in omega arith) v.room.floats v.room.numbers)
    where
      r : Float
      r = (level_at g w).r

      go : (b : Bool) → Scratch g.n (scratch_of d) w.state → Leaves g.n d (closed_with g.n w.state (settled_by b g k.how k.labels budget w d.crate d.home))
      go true rest =
          after_run g.n d w.state rest v.room.floats v.room.numbers v.room.bytes _ refl (λ q e. (refl, refl)) (beyond_refl nan g.n d.crate) (beyond_refl nan g.n d.home)
      go false rest =
          after_run g.n d w.state rest v.room.floats v.room.numbers v.room.bytes _ refl (λ q e. absurd (refused_apart q _ (sym e)))
          (beyond_trans nan g.n (crate_beyond g.n w.state.numbers (weight_in g.n w.state.floats) d.crate) (finished_beyond k.how k.labels r _ g.n))
          (beyond_trans nan g.n (home_beyond g.n w.state.numbers (weight_in g.n w.state.floats) d.home within) (finished_beyond k.how k.labels r _ g.n))

  served_leaves : Leaves g.n d o
  unfolding fitted solved
  served_leaves = rw v.same (settled_leaves (stuck w.run.status))

not_eleven : (x : Float) (k : ℕ) → Numbered x false k → k ≡ 11 → ⊥
not_eleven x k (inl h) e = omega arith
not_eleven x k (inr h) e = let q = h.0 in omega arith

not_eleven_retired : (x : Float) (k : ℕ) → RetiredNumbered x k → k ≡ 11 → ⊥
not_eleven_retired x k (inl h) e = h.2 e
not_eleven_retired x k (inr h) e = let q = h.0 in omega arith

-- ---- the entries; that nothing is judged with 11 is what shrinking off says of its number

module _ (tune : Tuning) (n : ℕ) (m l : List ℕ) (c a p : List Float) (nurule : Bool) (eps : Float) (shrinking : Bool) (budget : ℕ) (d : Lent) where
  pub general_leaves : Leaves n d (general_tuned tune n m l c a p nurule eps shrinking budget d)
  unfolding general_tuned general_tuned_sized decided
  general_leaves =
      entry_leaves n (eqb (length l) n && eqb (length c) n && eqb (length a) n && eqb (length p) n) m (floor_judged tune.floor (general_judged n m l c a p eps budget)) _ d
      (λ q e. not_eleven tune.floor (number q) (general_sized_number tune n m l c a p nurule eps false budget d q (rw e)))
      (λ r f. served_leaves {k = general_fit tune n l c a p nurule eps shrinking} (record { square = refl; room = r; usable = usable_general n m budget r.most r.matrix l c a p eps (floor_fine tune.floor _ f).0; same = refl }))

module _ (tune : Tuning) (n : ℕ) (m l : List ℕ) (cpos cneg eps : Float) (shrinking : Bool) (budget : ℕ) (d : Lent) where
  pub c_leaves : Leaves n d (fit_c_tuned tune n m l cpos cneg eps shrinking budget d)
  unfolding fit_c_tuned fit_c_tuned_sized decided
  c_leaves =
      entry_leaves n (eqb (length l) n) m (floor_judged tune.floor (c_judged n m l cpos cneg eps budget)) _ d
      (λ q e. not_eleven tune.floor (number q) (c_sized_number tune n m l cpos cneg eps false budget d q (rw e)))
      (λ r f. served_leaves {k = c_fit tune n l cpos cneg eps shrinking} (record { square = refl; room = r; usable = usable_c n m budget r.most r.matrix l cpos cneg eps (floor_fine tune.floor _ f).0; same = refl }))

module _ (tune : Tuning) (n : ℕ) (m l : List ℕ) (nu eps : Float) (shrinking : Bool) (budget : ℕ) (d : Lent) where
  pub nu_leaves : Leaves n d (fit_nu_tuned tune n m l nu eps shrinking budget d)
  unfolding fit_nu_tuned fit_nu_tuned_sized decided
  nu_leaves =
      entry_leaves n (eqb (length l) n) m (floor_judged tune.floor (nu_judged n m l nu eps budget)) _ d
      (λ q e. not_eleven tune.floor (number q) (nu_sized_number tune n m l nu eps false budget d q (rw e)))
      (λ r f. served_leaves {k = nu_fit tune n l nu eps shrinking} (record { square = refl; room = r; usable = usable_nu n m budget r.most r.matrix l nu eps (floor_fine tune.floor _ f).0; same = refl }))

module _ (tune : Tuning) (n : ℕ) (m : List ℕ) (nu eps : Float) (shrinking : Bool) (budget : ℕ) (d : Lent) where
  pub one_class_leaves : Leaves n d (fit_one_class_tuned tune n m nu eps shrinking budget d)
  unfolding fit_one_class_tuned fit_one_class_tuned_sized decided
  one_class_leaves =
      entry_leaves n true m (floor_judged tune.floor (one_class_judged n m nu eps budget)) _ d
      (λ q e. not_eleven tune.floor (number q) (one_class_sized_number tune n m nu eps false budget d q (rw e)))
      (λ r f. served_leaves {k = one_class_fit tune n nu eps shrinking} (record { square = refl; room = r; usable = usable_one_class n m budget r.most r.matrix nu eps (floor_fine tune.floor _ f).0; same = refl }))

-- ---- the entry with retired samples, which never refuses with 11

-- the fit over what stands: no position moves, so its order is the one that was loaded
over_leaves : (stands : ℕ → Bool) (g : Given) (m l : List ℕ) (c a p : List Float) (budget : ℕ) (d : Lent) → 7 * g.n ≤ length d.floats → 2 * g.n ≤ length d.numbers
    → g.n ≤ length d.bytes → Leaves g.n d (fitted_over stands g m l c a p budget d)
unfolding fitted_over answered_over has_run
over_leaves stands g m l c a p budget d f u y =
    let s = loaded g.n l c a p (scratch_of d) in
    let w = trained_over stands g m c budget s in
    let weights = weight_in g.n w.state.floats in
    let order = trained_order stands g m c budget s in
    let long = length_numbers g.n d.numbers g.n in
    let inside : NamesSamples g.n w.state.numbers =
    record { long = rw (order, long) (omega arith); below = λ k h. rw (order, sample_loaded g.n d.numbers u g.n k (omega arith) h) h }
    in
    after_run g.n d (scratch_of d) (scratch_refl g.n (scratch_of d)) f u y _ refl (λ q e. absurd (refused_apart q _ (sym e)))
    (crate_beyond g.n w.state.numbers weights d.crate) (home_beyond g.n w.state.numbers weights d.home inside)

module _ (tune : Tuning) (n : ℕ) (m l : List ℕ) (c a p : List Float) (r : List ℕ) (nurule : Bool) (eps : Float) (shrinking : Bool) (budget : ℕ) (d : Lent) where
  pub retired_leaves : Leaves n d (retired_tuned tune n m l c a p r nurule eps shrinking budget d)
  unfolding retired_tuned retired_tuned_sized decided
  retired_leaves =
      entry_leaves n (eqb (length l) n && eqb (length c) n && eqb (length a) n && eqb (length p) n && eqb (length r) n) m (retired_judged tune.floor n m l c a p r eps shrinking budget) _ d
      (λ q e. not_eleven_retired tune.floor (number q) (retired_sized_number tune n m l c a p r nurule eps shrinking budget d q (rw e)))
      (λ v f. over_leaves (stands_in r) (given_by tune n TwoClass eps false nurule) m l c (kept r a n) (kept r p n) budget d v.floats v.numbers v.bytes)
