-- A finger on one weight: each step leaves what the pair finder says (`.._found`); a longer run begins with the shorter one (`run_begins`,
-- `steps_begin`); and with shrinking off home has the weights after as many passes as the budget has (`.._trail`). Assumes nothing.
use Prim.Native.Nat.{ℕ, suc, ◌+◌, ◌*◌, ◌≤◌, ◌<◌}
use mathlib.Core.Bool.{Bool, true, false, cond}
use mathlib.Core.List.{List, ◌++◌}
use mathlib.Core.Path.{◌≡◌, refl, sym, ap, ap₂, ◌∙◌}
use native.Mathlib.Omega.{arith}
use lib.Ieee.{Float, nan, binary64, add, sub, mul}
use lib.ListN.{length, get_or}
use Rattle.std.specs.Prelude.{Some}
use Rattle.alpha.specs.Weight.{floor}
use Rattle.answer.specs.Answer.{coefficient_of}
use Rattle.answer.specs.Lent.{Lent, Whole}
use Rattle.answer.specs.declared.Answer.{Answer}
use Rattle.answer.specs.Solved.{stuck}
use Rattle.boxrun.proofs.Owned.{Owned, runs_owned}
use Rattle.classification.specs.Entries.{general_tuned, fit_c_tuned, fit_nu_tuned, fit_one_class_tuned, general_of, fit_c_of, fit_nu_of, fit_one_class_of}
use Rattle.classification.specs.Still.{Still}
use Rattle.classification.proofs.Still.{runs_still}
use Rattle.finder.specs.Found.{found_pair}
use Rattle.fits.proofs.Loaded.{weight_loaded, sample_loaded, index_loaded}
use Rattle.kernel.specs.Matrix.{entry_at}
use Rattle.kernel.specs.Row.{kernel_index, row_at}
use Rattle.modes.specs.Modes.{travels}
use Rattle.modes.specs.declared.Mode.{Mode}
use Rattle.readings.specs.Order.{weight_in}
use Rattle.solver.specs.End.{trained}
use Rattle.solver.specs.Pass.{counted_down, passed, next, runs}
use Rattle.solver.specs.Run.{problem_of, Full, goes}
use Rattle.solver.specs.declared.Given.{Given}
use Rattle.state.specs.Fields.{gradient, alpha, diagonal, row, bound, sample}
use Rattle.state.specs.Lists.{Problem, State}
use Rattle.trace.specs.Trace.{Step, look_at, step_at, start_of}
use Rattle.trace.proofs.Kept.{Keeps}
use Rattle.trace.proofs.Left.{each_step, step_left}
use Rattle.trace.proofs.Off.{closed_off, step_off}
use Rattle.trace.proofs.Rests.{same_started}
use Rattle.trace.proofs.Trace.{runs_more, traced_more}
use Rattle.update.specs.Update.{ceiling_in, ceiling, pair_at, updated_state}
use Rattle.update.specs.declared.Pair as Update
use Rattle.update.proofs.Left.{alpha_i, alpha_j, alpha_other, gradient_active}
use Rattle.tuning.specs.Tuning.{plain_tuning}
use Rattle.tuning.specs.declared.Tuning.{Tuning}
use Rattle.promises.specs.Fit.{Fit, general_fit, c_fit, nu_fit, one_class_fit, start_from, after, weight_after, pair_after, steps_taken, r_of}
use Rattle.promises.specs.Trail.{found_at, later_steps, gradient_after, label_lent, entry_lent, found_after, StepsWith, ShownStep, FoundStep, Trailed, no_step}
use Rattle.promises.proofs.Alike.{home_own}
use Rattle.promises.proofs.Entries.{general_served, c_served, nu_served, one_class_served}
use Rattle.promises.proofs.Home.{served_at}
use Rattle.promises.proofs.Iterations.{served_iterations}
use Rattle.promises.proofs.Travel.{Served, ready_start, served_travels, served_ceilings}
use Rattle.std.specs.Prelude.{Ok}

-- ---- a longer run begins with the shorter one, whatever is trained, with shrinking on or off

module _ (k : Fit) (m : List ℕ) (d : Lent) (t u : ℕ) where
  pub run_begins : after k m d (u + t) ≡ runs k.given m k.ceilings (after k m d t) u
  run_begins = runs_more k.given m k.ceilings (start_of k.given m k.ceilings (start_from k m d)) t u

  pub steps_begin : steps_taken k m d (u + t) ≡ steps_taken k m d t ++ later_steps k m d t u
  steps_begin = traced_more k.given m k.ceilings (start_of k.given m k.ceilings (start_from k m d)) t u

-- ---- each step is the finder's, under the ceilings of the mode, with shrinking on or off

found_at_law : (p : Problem) (mode : Mode) (b : List Float) (s : State) (i j : ℕ) → pair_at p b mode floor s i j ≡ found_at p mode b s i j
unfolding pair_at found_pair
found_at_law p mode b s i j = refl

module _ {k : Fit} {m : List ℕ} {budget : ℕ} {d : Lent} {o : Whole} (v : Served k m budget d o) where
  pub served_found : k.given.floor ≡ floor → (q : ℕ) → q < length (steps_taken k m d budget) → FoundStep k m d budget q
  served_found plain q h =
      let g = k.given in
      let x = get_or (steps_taken k m d budget) q no_step in
      let s = (look_at g m (counted_down g m (after k m d q))).state in
      let e = each_step g m k.ceilings _ budget q no_step h in
      let w = runs_owned g m k.ceilings q (start_from k m d) (ready_start v) in
      let l = step_left g m k.ceilings (after k m d q) x.i x.j w.active w.kept.ready.floats e.pair in
      let z = ap (λ (f : Float). pair_at (problem_of g m) k.ceilings g.mode f s x.i x.j) plain ∙ found_at_law (problem_of g m) g.mode k.ceilings s x.i x.j in (
        ap (λ (y : Step). y.left_i) e.is ∙ l.pair_i ∙ ap (λ (q : Update.Pair). q.i.value) z,
        ap (λ (y : Step). y.left_j) e.is ∙ l.pair_j ∙ ap (λ (q : Update.Pair). q.j.value) z,
      )

-- ---- with shrinking off

module _ {k : Fit} {m : List ℕ} {budget : ℕ} {d : Lent} {o : Whole} (v : Served k m budget d o) (off : k.given.shrinking ≡ false) where
  abbrev g : Given
  g = k.given

  abbrev p : Problem
  p = problem_of g m

  still : (t : ℕ) → Still (start_from k m d).numbers g.n (after k m d t)
  unfolding stuck
  still t = runs_still g m k.ceilings off (start_from k m d).numbers _ t (record { order = refl; active = refl; free = refl })

  owned : (t : ℕ) → Keeps g (Owned p) (after k m d t)
  owned t = runs_owned g m k.ceilings t (start_from k m d) (ready_start v)

  -- ---- position i holds sample i, with all that is lent for it

  own_sample : (t i : ℕ) → i < g.n → sample (after k m d t).state i ≡ i
  own_sample t i h = ap (λ (u : List ℕ). get_or u i 0) (still t).order ∙ sample_loaded g.n d.numbers v.room.numbers g.n i (omega arith) h

  own_index : (t i : ℕ) → i < g.n → kernel_index g.n (after k m d t).state.numbers i ≡ i
  own_index t i h =
      ap (λ (u : List ℕ). kernel_index g.n u i) (still t).order ∙ index_loaded g.n d.numbers v.room.numbers g.n i (omega arith) h

  own_label : (t i : ℕ) → i < g.n → get_or (after k m d t).state.labels i 0 ≡ label_lent k m d i
  own_label t i h = (served_travels v t).label i h ∙ ap (label_lent k m d) (own_sample t i h)

  own_diagonal : (t i : ℕ) → i < g.n → diagonal p (after k m d t).state i ≡ entry_at g.n m i i
  own_diagonal t i h =
      ap (λ (c : ℕ). get_or (after k m d t).state.floats (5 * g.n + c) nan) (own_index t i h)
      ∙ (owned t).kept.own i (rw v.square h)
      ∙ ap (λ (side : ℕ). entry_at side m i i) v.square

  own_row : (t i j : ℕ) → i < g.n → j < g.n → row p (after k m d t).state i j ≡ entry_lent k m d i j
  unfolding row_at
  own_row t i j h l = rw (own_index t i h, own_index t j l, own_label t i h, own_label t j l, v.square)

  own_ceiling : (t i : ℕ) → i < g.n → ceiling p g.mode k.ceilings (after k m d t).state i ≡ bound k.ceilings i
  unfolding ceiling_in
  own_ceiling t i h = go (travels g.mode) refl
    where
      go : (x : Bool) → travels g.mode ≡ x → cond x (alpha p (after k m d t).state i).upper (bound k.ceilings i) ≡ bound k.ceilings i
      go true e = served_ceilings v e t i h ∙ ap (bound k.ceilings) (own_sample t i h)
      go false e = refl

  -- ---- a step

  module _ (plain : g.floor ≡ floor) (t i j : ℕ) (going : goes (after k m d t).run.status ≡ true) (pair : pair_after k m d t ≡ Some (i, j)) where
    abbrev s : State
    s = (after k m d t).state

    room : 7 * g.n ≤ length s.floats
    room = (owned t).kept.ready.floats

    bounds : (i < g.n) × (j < g.n) × (i ≡ j → ⊥)
    bounds =
        let e = step_left g m k.ceilings (after k m d t) i j (owned t).active room pair in
        let x = e.active_i in
        let y = e.active_j in
        let z = e.below in
        (omega arith, omega arith, e.apart)

    passes : (after k m d (suc t)).state ≡ updated_state p k.ceilings g.mode g.floor s i j g.n
    unfolding runs next
    passes = rw going (step_off g m off k.ceilings (after k m d t) i j (still t).active pair)

    pair_found : pair_at p k.ceilings g.mode g.floor s i j ≡ found_after k m d t i j
    unfolding pair_at found_after found_pair
    pair_found =
        let h = bounds.0 in
        let l = bounds.1 in
        rw (own_ceiling t i h, own_ceiling t j l, own_diagonal t i h, own_diagonal t j l, own_row t i j h l, own_label t i h, own_label t j l, plain)

    left_i_law : weight_after k m d (suc t) i ≡ (pair_at p k.ceilings g.mode g.floor s i j).i.value
    left_i_law =
        ap (λ (z : State). (alpha p z i).value) passes
        ∙ ap (λ a. a.value) (alpha_i p k.ceilings g.mode g.floor s i j g.n bounds.0 bounds.1 (omega arith) room bounds.2)

    left_j_law : weight_after k m d (suc t) j ≡ (pair_at p k.ceilings g.mode g.floor s i j).j.value
    left_j_law =
        ap (λ (z : State). (alpha p z j).value) passes
        ∙ ap (λ a. a.value) (alpha_j p k.ceilings g.mode g.floor s i j g.n bounds.0 bounds.1 (omega arith) room)

    pub served_steps : StepsWith k m d t i j
    served_steps = record {
      below_i = bounds.0;
      below_j = bounds.1;
      apart = bounds.2;
      left_i_law = left_i_law ∙ ap (λ (q : Update.Pair). q.i.value) pair_found;
      left_j_law = left_j_law ∙ ap (λ (q : Update.Pair). q.j.value) pair_found;
      others = λ q h x y.
          ap (λ (z : State). (alpha p z q).value) passes
          ∙ ap (λ a. a.value) (alpha_other p k.ceilings g.mode g.floor s i j g.n bounds.0 bounds.1 (omega arith) room q h x y);
      carried = λ q h.
          ap (λ (z : State). gradient p z q) passes
          ∙ gradient_active p k.ceilings g.mode g.floor s i j g.n bounds.0 bounds.1 (omega arith) room q h
          ∙ ap₂ (λ (x y : Float). add binary64 (gradient_after k m d t q) (add binary64 x y))
          (ap₂ (mul binary64) (own_row t i q bounds.0 h) (ap (λ (x : Float). sub binary64 x (weight_after k m d t i)) (sym left_i_law)))
          (ap₂ (mul binary64) (own_row t j q bounds.1 h) (ap (λ (x : Float). sub binary64 x (weight_after k m d t j)) (sym left_j_law)));
    }

  -- ---- each step of the run

  step_told : (w : Full) (i j : ℕ) → sample w.state i ≡ i → sample w.state j ≡ j
      → step_at g m w i j ≡ record { i = i; j = j; sample_i = i; sample_j = j; left_i = (alpha p w.state i).value; left_j = (alpha p w.state j).value }
  step_told w i j e f =
      ap₂ {C = Step} (λ (x y : ℕ). record { i = i; j = j; sample_i = x; sample_j = y; left_i = (alpha p w.state i).value; left_j = (alpha p w.state j).value }) e f

  made : (q : ℕ) → goes (after k m d q).run.status ≡ true → passed g m k.ceilings (after k m d q) ≡ after k m d (suc q)
  unfolding runs next
  made q h = rw h

  pub served_shown : g.floor ≡ floor → (q : ℕ) → q < length (steps_taken k m d budget)
      → ShownStep k m d budget q (get_or (steps_taken k m d budget) q no_step).i (get_or (steps_taken k m d budget) q no_step).j
  served_shown plain q h =
      let x = get_or (steps_taken k m d budget) q no_step in
      let e = each_step g m k.ceilings _ budget q no_step h in
      let w = served_steps plain q _ _ e.going e.pair in
      record {
        chosen = e.pair;
        steps = w;
        told =
            e.is
            ∙ ap (λ (z : Full). step_at g m z x.i x.j) (made q e.going)
            ∙ step_told (after k m d (suc q)) x.i x.j (own_sample (suc q) x.i w.below_i) (own_sample (suc q) x.j w.below_j);
      }

  -- ---- what home answers

  pub served_weights : (x : Answer) → o.out ≡ Ok x → (s : ℕ) → s < g.n
      → get_or o.left.home s nan ≡ coefficient_of k.how (label_lent k m d s) (r_of k m d budget) (weight_after k m d budget s)
  unfolding trained
  served_weights x e s h =
      served_at v x e s h
      ∙ ap (coefficient_of k.how (label_lent k m d s) (r_of k m d budget))
      (home_own v x e off s h
      ∙ ap (λ (z : Full). weight_in g.n z.state.floats s) (closed_off g m budget (after k m d budget) (still budget).active))

  pub served_begins : (s : ℕ) → s < g.n → weight_after k m d 0 s ≡ get_or k.weights s nan
  unfolding runs
  served_begins s h =
      (same_started p k.ceilings (start_from k m d)).at (2 * g.n + s) (omega arith) (omega arith)
      ∙ weight_loaded g.n k.ceilings k.weights k.terms d.floats v.room.floats g.n s (omega arith) h

  pub served_trail : g.floor ≡ floor → (x : Answer) → o.out ≡ Ok x → Trailed k m d budget x.iterations o.left.home
  served_trail plain x e = record {
    begins = served_begins;
    weights = served_weights x e;
    steps = λ q h. served_shown plain q (rw (served_iterations v x e).0 at h);
    runs_on = run_begins k m d budget;
    steps_on = steps_begin k m d budget;
  }

-- ---- each entry: the finder's steps, by any tuning with the usual floor; and with shrinking off the trail

pub general_found : (tune : Tuning) → tune.floor ≡ floor → (n : ℕ) (m l : List ℕ) (c a p : List Float) (nurule : Bool) (eps : Float) (shrinking : Bool) (budget : ℕ) (d : Lent) (x : Answer)
    → (general_tuned tune n m l c a p nurule eps shrinking budget d).out ≡ Ok x → (q : ℕ) → q < x.iterations → FoundStep (general_fit tune n l c a p nurule eps shrinking) m d budget q
general_found tune plain n m l c a p nurule eps shrinking budget d x e q h =
    let v = general_served tune n m l c a p nurule eps shrinking budget d x e in served_found v plain q (rw (served_iterations v x e).0 at h)

pub c_found : (tune : Tuning) → tune.floor ≡ floor → (n : ℕ) (m l : List ℕ) (cpos cneg eps : Float) (shrinking : Bool) (budget : ℕ) (d : Lent) (x : Answer) → (fit_c_tuned tune n m l cpos cneg eps shrinking budget d).out ≡ Ok x
    → (q : ℕ) → q < x.iterations → FoundStep (c_fit tune n l cpos cneg eps shrinking) m d budget q
c_found tune plain n m l cpos cneg eps shrinking budget d x e q h =
    let v = c_served tune n m l cpos cneg eps shrinking budget d x e in served_found v plain q (rw (served_iterations v x e).0 at h)

pub nu_found : (tune : Tuning) → tune.floor ≡ floor → (n : ℕ) (m l : List ℕ) (nu eps : Float) (shrinking : Bool) (budget : ℕ) (d : Lent) (x : Answer) → (fit_nu_tuned tune n m l nu eps shrinking budget d).out ≡ Ok x
    → (q : ℕ) → q < x.iterations → FoundStep (nu_fit tune n l nu eps shrinking) m d budget q
nu_found tune plain n m l nu eps shrinking budget d x e q h = let v = nu_served tune n m l nu eps shrinking budget d x e in served_found v plain q (rw (served_iterations v x e).0 at h)

pub one_class_found : (tune : Tuning) → tune.floor ≡ floor → (n : ℕ) (m : List ℕ) (nu eps : Float) (shrinking : Bool) (budget : ℕ) (d : Lent) (x : Answer) → (fit_one_class_tuned tune n m nu eps shrinking budget d).out ≡ Ok x
    → (q : ℕ) → q < x.iterations → FoundStep (one_class_fit tune n nu eps shrinking) m d budget q
one_class_found tune plain n m nu eps shrinking budget d x e q h =
    let v = one_class_served tune n m nu eps shrinking budget d x e in served_found v plain q (rw (served_iterations v x e).0 at h)

pub general_trail : (n : ℕ) (m l : List ℕ) (c a p : List Float) (nurule : Bool) (eps : Float) (budget : ℕ) (d : Lent) (x : Answer) → (general_of n m l c a p nurule eps false budget d).out ≡ Ok x
    → Trailed (general_fit plain_tuning n l c a p nurule eps false) m d budget x.iterations (general_of n m l c a p nurule eps false budget d).left.home
general_trail n m l c a p nurule eps budget d x e = served_trail (general_served plain_tuning n m l c a p nurule eps false budget d x e) refl refl x e

pub c_trail : (n : ℕ) (m l : List ℕ) (cpos cneg eps : Float) (budget : ℕ) (d : Lent) (x : Answer) → (fit_c_of n m l cpos cneg eps false budget d).out ≡ Ok x
    → Trailed (c_fit plain_tuning n l cpos cneg eps false) m d budget x.iterations (fit_c_of n m l cpos cneg eps false budget d).left.home
c_trail n m l cpos cneg eps budget d x e = served_trail (c_served plain_tuning n m l cpos cneg eps false budget d x e) refl refl x e

pub nu_trail : (n : ℕ) (m l : List ℕ) (nu eps : Float) (budget : ℕ) (d : Lent) (x : Answer) → (fit_nu_of n m l nu eps false budget d).out ≡ Ok x
    → Trailed (nu_fit plain_tuning n l nu eps false) m d budget x.iterations (fit_nu_of n m l nu eps false budget d).left.home
nu_trail n m l nu eps budget d x e = served_trail (nu_served plain_tuning n m l nu eps false budget d x e) refl refl x e

pub one_class_trail : (n : ℕ) (m : List ℕ) (nu eps : Float) (budget : ℕ) (d : Lent) (x : Answer) → (fit_one_class_of n m nu eps false budget d).out ≡ Ok x
    → Trailed (one_class_fit plain_tuning n nu eps false) m d budget x.iterations (fit_one_class_of n m nu eps false budget d).left.home
one_class_trail n m nu eps budget d x e = served_trail (one_class_served plain_tuning n m nu eps false budget d x e) refl refl x e
