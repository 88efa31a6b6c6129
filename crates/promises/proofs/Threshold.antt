-- Where an entry's answer has the reason 'threshold', the rule stops in what its run leaves: of each entry, `.._threshold`. Assumes nothing.
use Prim.Native.Nat.{ℕ, ◌*◌, ◌<◌}
use mathlib.Core.Bool.{Bool, true, false, cond, true≢false}
use mathlib.Core.List.{List}
use mathlib.Core.Logic.{inl, inr}
use mathlib.Core.Path.{◌≡◌, refl, sym, ap, ◌∙◌}
use native.Mathlib.Omega.{arith}
use borrow.Author.Tests.{eq-eqb}
use lib.Ieee.{Float}
use Rattle.answer.specs.Answer.{reason_of}
use Rattle.answer.specs.Lent.{Lent, Whole}
use Rattle.answer.specs.Solved.{stuck, settled_by, solved}
use Rattle.answer.specs.declared.Answer.{Answer}
use Rattle.answer.specs.declared.ExitReason.{ExitReason}
use Rattle.answer.specs.declared.ExitReason.TheVariants.{ReachedThreshold, ReachedIterations}
use Rattle.answer.specs.declared.Finish.{Finish}
use Rattle.boxed.specs.Range.{Entry, Divides}
use Rattle.boxrun.proofs.Owned.{Owned, owned_started, owned_updated, trained_owned}
use Rattle.boxrun.proofs.Quiet.{stop_quiet}
use Rattle.classification.specs.Entries.{fitted, general_tuned, fit_c_tuned, fit_nu_tuned, fit_one_class_tuned}
use Rattle.classification.proofs.Accepts.{refused_apart}
use Rattle.classification.proofs.Still.{trained_still}
use Rattle.extreme.specs.Rule.{everybody}
use Rattle.judge.proofs.Accepted.{general_fine, c_fine, nu_fine, one_class_fine}
use Rattle.retired.specs.Differ.{Input, retired_for}
use Rattle.retired.specs.Entry.{stands_in, answered_over, fitted_over}
use Rattle.retired.proofs.Independent.{Taken, retired_taken}
use Rattle.retired.proofs.Laws.{retired_fine}
use Rattle.solver.specs.Run.{problem_of, Full}
use Rattle.solver.specs.declared.Given.{Given}
use Rattle.solver.specs.declared.Status.{Status}
use Rattle.standing.specs.Run.{trained_over}
use Rattle.standing.proofs.Rule.{runs_went}
use Rattle.standing.proofs.Sample.{runs_keep}
use Rattle.trace.specs.Rule.{NoPair}
use Rattle.trace.specs.Trace.{start_of}
use Rattle.trace.proofs.Rule.{trained_stops, trained_none, trained_done}
use Rattle.wire.specs.Wire.{float_at}
use Rattle.tuning.specs.declared.Tuning.{Tuning}
use Rattle.promises.specs.Fit.{Fit, general_fit, c_fit, nu_fit, one_class_fit, start_from, run_of}
use Rattle.promises.specs.Retired.{retired_fit, after_over}
use Rattle.promises.specs.Threshold.{Threshold, ThresholdOver}
use Rattle.promises.proofs.Box.{floor_in, entries_in}
use Rattle.promises.proofs.Entries.{general_judged_law, general_floored, general_served, c_judged_law, c_floored, c_served, nu_judged_law, nu_floored, nu_served, one_class_judged_law, one_class_floored, one_class_served}
use Rattle.promises.proofs.Retired.{taken_ready}
use Rattle.promises.proofs.Travel.{Served, ready_start}
use Rattle.std.specs.Prelude.{Result, Ok, Err}
use Rattle.judge.specs.declared.Refusal.{Refusal}
use Rattle.judge.specs.declared.Refusal.TheVariants.{ShrunkAway}

-- ---- an answer's reason, and the run's count

unfoldable is_threshold : ExitReason → Bool
is_threshold ReachedThreshold = true
is_threshold ReachedIterations = false

-- of an outcome; a refusal has none
unfoldable at_threshold : Result Answer Refusal → Bool
at_threshold (Ok x) = is_threshold x.exit_reason
at_threshold (Err refusal) = false

reason_fewer : (i budget : ℕ) → is_threshold (reason_of i budget) ≡ true → i ≡ budget → ⊥
unfolding reason_of is_threshold
reason_fewer i budget h e = true≢false (sym h ∙ ap (λ b. is_threshold (cond b ReachedIterations ReachedThreshold)) (eq-eqb i budget e))

told_threshold : (r : ExitReason) → r ≡ ReachedThreshold → is_threshold r ≡ true
unfolding is_threshold
told_threshold r e = ap is_threshold e

-- an accepted answer is that of a run that wasn't stuck, and has its reason
settled_reason : (b : Bool) (g : Given) (how : Finish) (l : List ℕ) (budget : ℕ) (w : Full) (c h : List Float) (x : Answer) → (settled_by b g how l budget w c h).out ≡ Ok x
    → (b ≡ false) × (is_threshold (reason_of w.run.iterations budget) ≡ is_threshold x.exit_reason)
unfolding settled_by at_threshold
settled_reason true g how l budget w c h x e = absurd (refused_apart ShrunkAway x e)
settled_reason false g how l budget w c h x e = (refl, ap at_threshold e)

not_refused : (s : Status) → stuck s ≡ false → s ≡ Status.Refused → ⊥
unfolding stuck
not_refused s h e = true≢false (sym (ap stuck e) ∙ h)

-- ---- an entry's run

module _ {k : Fit} {m : List ℕ} {budget : ℕ} {d : Lent} {o : Whole} (v : Served k m budget d o) (entries : (i : ℕ) → i < k.given.n * k.given.n → Entry (float_at m (8 * i)))
    (floor : Divides k.given.floor) (x : Answer) (e : o.out ≡ Ok x) (h : x.exit_reason ≡ ReachedThreshold) where
  abbrev g : Given
  g = k.given

  abbrev w : Full
  w = run_of k m d budget

  done : w.run.status ≡ Status.Done
  unfolding fitted solved
  done =
      let r = settled_reason (stuck w.run.status) g k.how k.labels budget w d.crate d.home x (sym (ap (λ (q : Whole). q.out) v.same) ∙ e) in
      trained_done g m k.ceilings budget (start_from k m d) (reason_fewer w.run.iterations budget (r.1 ∙ told_threshold x.exit_reason h)) (not_refused w.run.status r.0)

  pub served_threshold : Threshold k m d budget
  served_threshold =
      let s = trained_none g m k.ceilings budget (start_from k m d) done in
      let q = trained_owned g m k.ceilings budget (start_from k m d) (ready_start v) in
      record {
        ended = trained_stops g m k.ceilings budget (start_from k m d) done;
        stop = s;
        quiet = stop_quiet everybody g m w.state w.run.active q.active (λ i l. entries i (rw v.square at l)) floor q.kept s;
        all = λ off. (trained_still g m k.ceilings off (start_from k m d).numbers budget (start_from k m d) refl).active;
      }

-- ---- each entry

module _ (tune : Tuning) (n : ℕ) (m l : List ℕ) (c a p : List Float) (nurule : Bool) (eps : Float) (shrinking : Bool) (budget : ℕ) (d : Lent) (x : Answer) (e : (general_tuned tune n m l c a p nurule eps shrinking budget d).out ≡ Ok x) where
  pub general_threshold : x.exit_reason ≡ ReachedThreshold → Threshold (general_fit tune n l c a p nurule eps shrinking) m d budget
  general_threshold =
      served_threshold (general_served tune n m l c a p nurule eps shrinking budget d x e)
      (entries_in n m (general_fine n m l c a p eps budget (general_judged_law tune n m l c a p nurule eps shrinking budget d x e)).matrix) (floor_in tune.floor (general_floored tune n m l c a p nurule eps shrinking budget d x e)) x e

module _ (tune : Tuning) (n : ℕ) (m l : List ℕ) (cpos cneg eps : Float) (shrinking : Bool) (budget : ℕ) (d : Lent) (x : Answer) (e : (fit_c_tuned tune n m l cpos cneg eps shrinking budget d).out ≡ Ok x) where
  pub c_threshold : x.exit_reason ≡ ReachedThreshold → Threshold (c_fit tune n l cpos cneg eps shrinking) m d budget
  c_threshold =
      served_threshold (c_served tune n m l cpos cneg eps shrinking budget d x e)
      (entries_in n m (c_fine n m l cpos cneg eps budget (c_judged_law tune n m l cpos cneg eps shrinking budget d x e)).matrix) (floor_in tune.floor (c_floored tune n m l cpos cneg eps shrinking budget d x e)) x e

module _ (tune : Tuning) (n : ℕ) (m l : List ℕ) (nu eps : Float) (shrinking : Bool) (budget : ℕ) (d : Lent) (x : Answer) (e : (fit_nu_tuned tune n m l nu eps shrinking budget d).out ≡ Ok x) where
  pub nu_threshold : x.exit_reason ≡ ReachedThreshold → Threshold (nu_fit tune n l nu eps shrinking) m d budget
  nu_threshold =
      served_threshold (nu_served tune n m l nu eps shrinking budget d x e)
      (entries_in n m (nu_fine n m l nu eps budget (nu_judged_law tune n m l nu eps shrinking budget d x e)).matrix) (floor_in tune.floor (nu_floored tune n m l nu eps shrinking budget d x e)) x e

module _ (tune : Tuning) (n : ℕ) (m : List ℕ) (nu eps : Float) (shrinking : Bool) (budget : ℕ) (d : Lent) (x : Answer) (e : (fit_one_class_tuned tune n m nu eps shrinking budget d).out ≡ Ok x) where
  pub one_class_threshold : x.exit_reason ≡ ReachedThreshold → Threshold (one_class_fit tune n nu eps shrinking) m d budget
  one_class_threshold =
      served_threshold (one_class_served tune n m nu eps shrinking budget d x e)
      (entries_in n m (one_class_fine n m nu eps budget (one_class_judged_law tune n m nu eps shrinking budget d x e)).matrix) (floor_in tune.floor (one_class_floored tune n m nu eps shrinking budget d x e)) x e

-- ---- with retired samples

module _ {tune : Tuning} {n : ℕ} {r : List ℕ} {nurule : Bool} {eps : Float} {shrinking : Bool} {budget : ℕ} {d : Lent} {y : Input} {o : Whole} (v : Taken tune n r nurule eps shrinking budget d y o)
    (x : Answer) (e : o.out ≡ Ok x) (h : x.exit_reason ≡ ReachedThreshold) where
  abbrev k : Fit
  k = retired_fit tune n y r nurule eps

  abbrev m : List ℕ
  m = y.matrix

  abbrev first : Full
  first = start_of k.given m y.ceilings (start_from k m d)

  abbrev last : Full
  last = after_over (stands_in r) k m d budget

  owned : Owned (problem_of k.given m) last.state
  owned =
      (runs_keep (stands_in r) k.given m y.ceilings (Owned (problem_of k.given m)) (λ s i j hi hj q. owned_updated (problem_of k.given m) y.ceilings k.given.mode k.given.floor q i j n hi hj (omega arith))
      first budget (record { kept = owned_started (problem_of k.given m) y.ceilings (taken_ready v); active = refl })).kept

  stop : NoPair (stands_in r) k.given m last.state n
  unfolding fitted_over answered_over trained_over at_threshold
  stop =
      let q : is_threshold (reason_of last.run.iterations budget) ≡ is_threshold x.exit_reason = ap at_threshold (sym (ap (λ (z : Whole). z.out) v.same) ∙ e) in
      let f = reason_fewer last.run.iterations budget (q ∙ told_threshold x.exit_reason h) in
      elim (runs_went (stands_in r) k.given m y.ceilings first budget refl) [
        | inl z ↦ let i = z.1 in absurd (f (omega arith))
        | inr z ↦ z.2
      ]

  pub taken_threshold : ThresholdOver (stands_in r) k m d budget
  taken_threshold = record {
    stop = stop;
    quiet = stop_quiet (stands_in r) k.given m last.state n (omega arith)
        (entries_in n m (general_fine n m y.labels y.ceilings y.weights y.terms eps budget (retired_fine tune.floor n m y.labels y.ceilings y.weights y.terms r eps shrinking budget v.judged).general).matrix)
        (floor_in tune.floor (retired_fine tune.floor n m y.labels y.ceilings y.weights y.terms r eps shrinking budget v.judged).floor_good_law) owned stop;
  }

module _ (tune : Tuning) (y : Input) (n : ℕ) (r : List ℕ) (nurule : Bool) (eps : Float) (shrinking : Bool) (budget : ℕ) (d : Lent) (x : Answer)
    (e : (retired_for tune y n r nurule eps shrinking budget d).out ≡ Ok x) where
  pub retired_threshold : x.exit_reason ≡ ReachedThreshold → ThresholdOver (stands_in r) (retired_fit tune n y r nurule eps) y.matrix d budget
  retired_threshold = taken_threshold (retired_taken tune n r nurule eps shrinking budget d y x e) x e
