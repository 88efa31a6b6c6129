-- What the code does is what the entry says: a NaN for the linear term of what is retired is passed over. Assumes nothing.
use Prim.Native.Nat.{ℕ, zero, suc, ◌+◌, ◌*◌, ◌≤◌, ◌<◌}
use mathlib.Core.Bool.{Bool, true, false, cond}
use mathlib.Core.List.{List}
use mathlib.Core.Path.{◌≡◌, refl, sym, ap, ◌∙◌}
use borrow.Author.Tests.{ltb-true, ltb-false}
use native.Mathlib.Omega.{arith}
use lib.Dec.{ltb}
use lib.Ieee.{Float, nan, eq}
use lib.ListN.{length, get_or, set, length-set}
use lib.Seq.{set-get_or, get_or-set_other, ext_get_or}
use Rattle.alpha.specs.Weight as Weight
use Rattle.answer.specs.Answer.{coefficient_of, finished_to, support_of, rho_of, ratio_of, reason_of}
use Rattle.answer.specs.Lent.{Lent, lent, Whole, whole, cleared}
use Rattle.answer.specs.Solved.{stuck, read, crate_of, home_of, level_at, settled_by, settled_of, closed_with}
use Rattle.answer.specs.declared.Finish.TheVariants.{Plain}
use Rattle.classification.specs.Entries.{given_by, scratch_of}
use Rattle.fits.specs.Load.{loaded_floats, loaded_numbers, loaded_labels, loaded}
use Rattle.fits.specs.Starts.{nothing}
use Rattle.fits.proofs.Loaded.{length_floats, length_numbers, length_labels, weight_loaded, linear_loaded, ready_loaded, sample_loaded}
use Rattle.kernel.specs.Matrix.{Matrix}
use Rattle.lists.specs.Filled.{filled_to}
use Rattle.lists.proofs.Prefix.{filled_at}
use Rattle.kernel.specs.declared.Kind.TheVariants.{TwoClass}
use Rattle.classification.proofs.Still.{trained_still}
use Rattle.readings.proofs.Order.{length_gathered, length_scattered}
use Rattle.readings.specs.Order.{crate_reading, home_reading, weight_in}
use Rattle.standing.proofs.Alike.{LentAlike}
use Rattle.standing.specs.End.{level_over, objective_over}
use Rattle.standing.specs.Run.{runs_over, trained_over}
use Rattle.standing.proofs.Independent.{same_run, same_weights, same_level, same_objective, trained_order}
use Rattle.standing.proofs.Off.{Goes, runs_goes, trained_goes}
use Rattle.standing.proofs.Rest.{trained_rests}
use Rattle.standing.proofs.Silent.{Silent, level_silent}
use Rattle.standing.proofs.Starts.{silent_started}
use Rattle.rho.specs.declared.Level.{Level}
use Rattle.modes.specs.Modes.{repaired}
use Rattle.solver.specs.End.{trained}
use Rattle.solver.specs.Pass.{runs}
use Rattle.solver.specs.Run.{Full, problem_of}
use Rattle.solver.specs.declared.Given.{Given}
use Rattle.start.specs.Start.{started}
use Rattle.state.specs.Lists.{State, state, Ready}
use Rattle.trace.specs.Trace.{start_of}
use Rattle.trace.proofs.Rests.{same_started}
use Rattle.tuning.specs.declared.Tuning.{Tuning}
use Rattle.retired.specs.Coded.{with_obj, solved_silent, fitted_silent}
use Rattle.retired.specs.Silenced.{silenced}
use Rattle.retired.specs.Differ.{Input, DifferRetired}
use Rattle.retired.specs.Entry.{stands_in, kept, answered_over, fitted_over}
use Rattle.retired.proofs.Independent.{kept_at, kept_place, zero_low, lent_alike, answered_same}
use Rattle.std.specs.Prelude.{Ok}

pub silenced_place : (r : List ℕ) (n : ℕ) → n ≤ 512 → (a : List Float) (k : ℕ) → k < n → get_or (silenced r a n) k nan ≡ cond (stands_in r k) (get_or a k nan) nan
unfolding silenced
silenced_place r n most a k l = kept_at r nan a nothing n k l (omega arith)

-- as it is, a coefficient stays
finished_plain : (l : List ℕ) (r : Float) (d : List Float) (n : ℕ) → n ≤ length d → finished_to Plain l r d n ≡ d
unfolding finished_to coefficient_of
finished_plain l r d zero h = refl
finished_plain l r d (suc n) h = rw (finished_plain l r d n (omega arith)) (set-get_or d n nan)

-- ---- the answer

module _ (g : Given) (l r : List ℕ) (budget : ℕ) (d : Lent) (lc : g.n ≤ length d.crate) (lh : g.n ≤ length d.home) where
  crate_plain : (w : Full) (v : Level) → crate_of g Plain l w v d.crate ≡ crate_reading g.n w.state.numbers (weight_in g.n w.state.floats) d.crate
  unfolding crate_of
  crate_plain w v = finished_plain l v.r _ g.n (rw (length_gathered w.state.numbers (weight_in g.n w.state.floats) d.crate g.n) lc)

  home_plain : (w : Full) (v : Level) → home_of g Plain l w v d.home ≡ home_reading g.n w.state.numbers (weight_in g.n w.state.floats) d.home
  unfolding home_of
  home_plain w v = finished_plain l v.r _ g.n (rw (length_scattered w.state.numbers (weight_in g.n w.state.floats) d.home g.n) lh)

  glue : (st : State) (i : ℕ) (v v' : Level) (c c' h h' : List Float) (z z' : State) → v ≡ v' → c ≡ c' → h ≡ h' → z ≡ z'
      → ◌≡◌ {A = Whole}
      (whole (Ok (record { rho = v.rho; r = ratio_of g.nu v; obj = objective_over (stands_in r) g.n st.floats; iterations = i; exit_reason = reason_of i budget; support = support_of h g.n })) c h z.floats z.numbers z.labels)
      (whole (Ok (record { rho = v'.rho; r = ratio_of g.nu v'; obj = objective_over (stands_in r) g.n st.floats; iterations = i; exit_reason = reason_of i budget; support = support_of h' g.n })) c' h' z'.floats z'.numbers z'.labels)
  glue st i v v' c c' h h' z z' q1 q2 q3 q4 = rw (q1, q2, q3, q4)

  silent_whole : Full → Whole
  silent_whole w =
      let x = settled_of g Plain l budget w d.crate d.home in
      closed_with g.n w.state (read (with_obj x.out (objective_over (stands_in r) g.n w.state.floats)) x.crate x.home)

  -- the answer of the rule's run w, where it isn't refused, passes over what is silent
  silent_answered : (w : Full) → stuck w.run.status ≡ false → level_at g w ≡ level_over (stands_in r) g.n w.state.floats w.state.labels g.nu (repaired g.mode)
      → cleared g.n w.state ≡ cleared g.n (scratch_of d) → silent_whole w ≡ answered_over (stands_in r) g budget w d
  unfolding silent_whole settled_by rho_of answered_over
  silent_answered w e v z =
      rw e (glue w.state w.run.iterations (level_at g w) _ _ _ _ _ (cleared g.n w.state) (cleared g.n (scratch_of d)) v (crate_plain w (level_at g w)) (home_plain w (level_at g w)) z)

-- the same state and count, the same answer
answered_kin : (stands : ℕ → Bool) (g : Given) (budget : ℕ) (d : Lent) (w v : Full) → w.state ≡ v.state → w.run.iterations ≡ v.run.iterations
    → answered_over stands g budget w d ≡ answered_over stands g budget v d
unfolding answered_over
answered_kin stands g budget d w v e h = rw (e, h)

-- ---- the scratch

module _ {A : Type 0} (e x : A) where
  length_filled : (t : List A) (k : ℕ) → length (filled_to x t k) ≡ length t
  unfolding filled_to
  length_filled t zero = refl
  length_filled t (suc k) = simp length-set (length_filled t k)

  filled_other : (t : List A) (k j : ℕ) → k ≤ j → get_or (filled_to x t k) j e ≡ get_or t j e
  unfolding filled_to
  filled_other t zero j h = refl
  filled_other t (suc k) j h = get_or-set_other (filled_to x t k) k j x e (λ q. omega arith) ∙ filled_other t k j (omega arith)

  -- lists that agree behind their first m places are one once these are filled
  filled_same : (t u : List A) (m : ℕ) → m ≤ length t → length t ≡ length u → ((k : ℕ) → m ≤ k → get_or t k e ≡ get_or u k e) → filled_to x t m ≡ filled_to x u m
  filled_same t u m l q h = ext_get_or e (filled_to x t m) (filled_to x u m) (length_filled t m ∙ q ∙ sym (length_filled u m)) (λ i b. go i (ltb i m) refl)
    where
      go : (i : ℕ) (b : Bool) → ltb i m ≡ b → get_or (filled_to x t m) i e ≡ get_or (filled_to x u m) i e
      go i true b = filled_at e x t m i l (ltb-true i m b) ∙ sym (filled_at e x u m i (rw (sym q) l) (ltb-true i m b))
      go i false b = filled_other t m i (ltb-false i m b) ∙ h i (ltb-false i m b) ∙ sym (filled_other u m i (ltb-false i m b))

floats_behind : (n : ℕ) (c a p f : List Float) (k j : ℕ) → k ≤ n → 7 * n ≤ j → get_or (loaded_floats n c a p f k) j nan ≡ get_or f j nan
unfolding loaded_floats
floats_behind n c a p f zero j l h = refl
floats_behind n c a p f (suc k) j l h =
    let t = loaded_floats n c a p f k in
    let t2 = set t (2 * n + k) (get_or a k nan) in
    let t3 = set t2 (3 * n + k) (get_or c k nan) in
    get_or-set_other t3 (4 * n + k) j (get_or p k nan) nan (λ q. omega arith) ∙ get_or-set_other t2 (3 * n + k) j (get_or c k nan) nan (λ q. omega arith)
    ∙ get_or-set_other t (2 * n + k) j (get_or a k nan) nan (λ q. omega arith) ∙ floats_behind n c a p f k j (omega arith) h

numbers_behind : (n : ℕ) (u : List ℕ) (k j : ℕ) → k ≤ n → 2 * n ≤ j → get_or (loaded_numbers n u k) j 0 ≡ get_or u j 0
unfolding loaded_numbers
numbers_behind n u zero j l h = refl
numbers_behind n u (suc k) j l h =
    get_or-set_other (set (loaded_numbers n u k) k k) (n + k) j k 0 (λ q. omega arith) ∙ get_or-set_other (loaded_numbers n u k) k j k 0 (λ q. omega arith) ∙ numbers_behind n u k j (omega arith) h

labels_behind : (l y : List ℕ) (k j : ℕ) → k ≤ j → get_or (loaded_labels l y k) j 0 ≡ get_or y j 0
unfolding loaded_labels
labels_behind l y zero j h = refl
labels_behind l y (suc k) j h = get_or-set_other (loaded_labels l y k) k j _ 0 (λ q. omega arith) ∙ labels_behind l y k j (omega arith)

-- ---- the whole

module _ (tune : Tuning) (n : ℕ) (r : List ℕ) (x : Input) (nurule : Bool) (eps : Float) (budget : ℕ) (d : Lent) (most : n ≤ 512) (lf : 7 * n ≤ length d.floats) (lu : 2 * n ≤ length d.numbers)
    (ly : n ≤ length d.bytes) (lc : n ≤ length d.crate) (lh : n ≤ length d.home) (M : Matrix n x.matrix) where
  abbrev g : Given
  g = given_by tune n TwoClass eps false nurule

  abbrev st : ℕ → Bool
  st = stands_in r

  abbrev a0 : List Float
  a0 = kept r x.weights n

  abbrev p0 : List Float
  p0 = kept r x.terms n

  abbrev p1 : List Float
  p1 = silenced r x.terms n

  -- loaded as the code does, and as the entry says
  abbrev s : State
  s = loaded n x.labels x.ceilings a0 p1 (scratch_of d)

  abbrev t : State
  t = loaded n x.labels x.ceilings a0 p0 (scratch_of d)

  abbrev by_rule : Full
  by_rule = trained g x.matrix x.ceilings budget s

  abbrev silent_run : Full
  silent_run = trained_over st g x.matrix x.ceilings budget s

  abbrev plain_run : Full
  plain_run = trained_over st g x.matrix x.ceilings budget t

  ready_s : Ready (problem_of g x.matrix) s
  ready_s = ready_loaded n TwoClass x.matrix x.labels x.ceilings a0 p1 (scratch_of d) M lf lu ly

  ready_t : Ready (problem_of g x.matrix) t
  ready_t = ready_loaded n TwoClass x.matrix x.labels x.ceilings a0 p0 (scratch_of d) M lf lu ly

  kept_by : (a : List Float) (k : ℕ) → k < n → (b : Bool) → st k ≡ b → get_or (kept r a n) k nan ≡ cond b (get_or a k nan) Weight.zero
  kept_by a k l b h = kept_place r n most a k l ∙ ap (λ (z : Bool). cond z (get_or a k nan) Weight.zero) h

  silenced_by : (a : List Float) (k : ℕ) → k < n → (b : Bool) → st k ≡ b → get_or (silenced r a n) k nan ≡ cond b (get_or a k nan) nan
  silenced_by a k l b h = silenced_place r n most a k l ∙ ap (λ (z : Bool). cond z (get_or a k nan) nan) h

  silent : Silent st (problem_of g x.matrix) (state (started (problem_of g x.matrix) x.ceilings s) s.numbers s.labels)
  silent =
      silent_started st (problem_of g x.matrix) x.ceilings s ready_s.floats
      (λ k l h. linear_loaded n x.ceilings a0 p1 d.floats lf n k (omega arith) l ∙ silenced_by x.terms k l false h)
      (λ k l h. ap (λ (z : Float). eq z Weight.zero) (weight_loaded n x.ceilings a0 p1 d.floats lf n k (omega arith) l ∙ kept_by x.weights k l false h) ∙ zero_low)

  -- pass for pass
  pub going : (t : ℕ) → Goes st g x.matrix refl x.ceilings (runs g x.matrix x.ceilings (start_of g x.matrix x.ceilings s) t)
      (runs_over st g x.matrix x.ceilings (start_of g x.matrix x.ceilings s) t)
  going t =
      runs_goes st g x.matrix refl x.ceilings _ _ t
      (record {
        kin = record { state = refl; iterations = refl; status = refl; active = refl; active' = refl };
        silent = silent;
        long = rw (same_started (problem_of g x.matrix) x.ceilings s).long ready_s.floats;
      })

  goes : Goes st g x.matrix refl x.ceilings by_rule silent_run
  goes = trained_goes st g x.matrix refl x.ceilings budget s silent (rw (same_started (problem_of g x.matrix) x.ceilings s).long ready_s.floats)

  level_is : level_at g by_rule ≡ level_over st n by_rule.state.floats by_rule.state.labels nurule (repaired g.mode)
  unfolding level_at
  level_is = rw (goes.kin.active, goes.kin.state) (level_silent st (problem_of g x.matrix) silent_run.state goes.silent nurule (repaired g.mode))

  cleared_is : cleared n silent_run.state ≡ cleared n (scratch_of d)
  cleared_is =
      let q = trained_rests st g x.matrix x.ceilings s ready_s budget in
      let o = trained_order st g x.matrix x.ceilings budget s in
      let f = length_floats n x.ceilings a0 p1 d.floats n in
      let f1 =
      filled_same nan Weight.zero silent_run.state.floats d.floats (7 * n) (rw (q.floats.long, f) lf) (q.floats.long ∙ f)
      (λ k l. q.floats.at k l ∙ floats_behind n x.ceilings a0 p1 d.floats n k (omega arith) l)
      in
      let u1 =
      filled_same 0 0 (loaded_numbers n d.numbers n) d.numbers (2 * n) (rw (length_numbers n d.numbers n) lu) (length_numbers n d.numbers n)
      (λ k l. numbers_behind n d.numbers n k (omega arith) l)
      in
      let y1 =
      filled_same 0 0 (loaded_labels x.labels d.bytes n) d.bytes n (rw (length_labels x.labels d.bytes n) ly) (length_labels x.labels d.bytes n)
      (λ k l. labels_behind x.labels d.bytes n k l)
      in
      three f1 (ap (λ (z : List ℕ). filled_to 0 z (2 * n)) o ∙ u1) (ap (λ (z : List ℕ). filled_to 0 z n) q.labels ∙ y1)
    where
      three : {f f' : List Float} {u u' y y' : List ℕ} → f ≡ f' → u ≡ u' → y ≡ y'
          → ◌≡◌ {A = State} (record { floats = f; numbers = u; labels = y }) (record { floats = f'; numbers = u'; labels = y' })
      three q1 q2 q3 = rw (q1, q2, q3)

  coded : silent_whole g x.labels r budget d lc lh by_rule ≡ answered_over st g budget silent_run d
  coded =
      silent_answered g x.labels r budget d lc lh by_rule (trained_still g x.matrix x.ceilings refl s.numbers budget s refl).free level_is
      (ap (λ (z : State). cleared n z) goes.kin.state ∙ cleared_is)
      ∙ answered_kin st g budget d by_rule silent_run goes.kin.state goes.kin.iterations

  own : DifferRetired n r x x
  own = record { labels = λ k l h. refl; ceilings = λ k l h. refl; weights = λ k l h. refl; terms = λ k l h. refl; entries = λ i k l c h b. refl }

  pub silent_alike : LentAlike st (problem_of g x.matrix) (problem_of g x.matrix) s t
  silent_alike =
      lent_alike n TwoClass r x x own (scratch_of d) lf lu ly a0 p1 a0 p0 (kept_place r n most x.weights) (kept_place r n most x.weights)
      (λ k l h. silenced_by x.terms k l true h ∙ sym (kept_by x.terms k l true h))

  told : answered_over st g budget silent_run d ≡ answered_over st g budget plain_run d
  told =
      answered_same st g budget d silent_run plain_run
      (same_run st g x.matrix x.matrix x.ceilings x.ceilings (λ k l h. refl) s t ready_s ready_t silent_alike refl budget)
      (trained_order st g x.matrix x.ceilings budget s ∙ sym (trained_order st g x.matrix x.ceilings budget t))
      (λ k l. rw (trained_order st g x.matrix x.ceilings budget s, sample_loaded n d.numbers lu n k (omega arith) l) l)
      (same_weights st g x.matrix x.matrix x.ceilings x.ceilings (λ k l h. refl) s t ready_s ready_t silent_alike refl budget)
      (same_level st g x.matrix x.matrix x.ceilings x.ceilings (λ k l h. refl) s t ready_s ready_t silent_alike refl budget nurule (repaired g.mode))
      (same_objective st g x.matrix x.matrix x.ceilings x.ceilings (λ k l h. refl) s t ready_s ready_t silent_alike refl budget)

  -- what the code leaves is what the entry says
  pub silent_is : fitted_silent g x.matrix x.labels x.ceilings x.weights x.terms r budget d
      ≡ fitted_over st g x.matrix x.labels x.ceilings a0 p0 budget d
  unfolding fitted_silent solved_silent fitted_over silent_whole
  silent_is = coded ∙ told

  -- by the calls of the code
  pub fitted_by : (h : Given) (z : State) (w : Whole) → h ≡ g → z ≡ loaded n x.labels x.ceilings (kept r x.weights n) (silenced r x.terms n) (scratch_of d)
      → w ≡ solved_silent h x.matrix x.labels x.ceilings r budget (lent d.crate d.home z.floats z.numbers z.labels)
      → w ≡ fitted_over st g x.matrix x.labels x.ceilings (kept r x.weights n) (kept r x.terms n) budget d
  unfolding fitted_silent
  fitted_by h z w e q v = rw (v, q, e) silent_is
