-- A training with retired samples that was accepted: home; what stays with a sample; who is retired reads 0; its steps; the code's run. Assumes nothing.
use Prim.Native.Nat.{ℕ, ◌≤◌, ◌<◌}
use mathlib.Core.Bool.{Bool, true, false, cond}
use mathlib.Core.List.{List}
use mathlib.Core.Path.{◌≡◌, refl, sym, ap, ◌∙◌}
use native.Mathlib.Omega.{arith}
use lib.Ieee.{Float, nan}
use lib.ListN.{length, get_or}
use Rattle.std.specs.Prelude.{Some}
use Rattle.alpha.specs.Weight as Weight
use Rattle.answer.specs.Lent.{Lent, Whole}
use Rattle.answer.specs.declared.Answer.{Answer}
use Rattle.classification.specs.Entries.{scratch_of}
use Rattle.fits.proofs.Loaded.{ready_loaded, sample_loaded, index_loaded, label_loaded, linear_loaded, weight_loaded}
use Rattle.kernel.specs.declared.Kind.TheVariants.{TwoClass}
use Rattle.readings.specs.Order.{weight_in, Perm}
use Rattle.readings.proofs.Order.{crate_at, home_at}
use Rattle.retired.specs.Silenced.{silenced}
use Rattle.retired.specs.Differ.{Input}
use Rattle.retired.specs.Entry.{stands_in, kept, answered_over, fitted_over}
use Rattle.retired.proofs.Coded.{going, silent_alike}
use Rattle.retired.proofs.Independent.{kept_place, Taken, taken_usable}
use Rattle.solver.specs.Run.{problem_of, Full}
use Rattle.standing.specs.Run.{trained_over}
use Rattle.standing.proofs.Independent.{trained_twins, trained_order}
use Rattle.standing.proofs.Off.{Goes}
use Rattle.standing.proofs.Rest.{trained_rests}
use Rattle.standing.proofs.Runs.{Twins}
use Rattle.standing.proofs.Sample.{pair_stands, runs_count, traced_few, told_over, travelled_over}
use Rattle.state.specs.Fields.{gradient, alpha, sample}
use Rattle.state.specs.Lists.{Ready, State}
use Rattle.trace.specs.Trace.{start_of}
use Rattle.travel.specs.Home.{last_left, Told}
use Rattle.travel.specs.Travel.{Fresh, Travelled}
use Rattle.tuning.specs.declared.Tuning.{Tuning}
use Rattle.promises.specs.Fit.{Fit, start_from, after, weight_after}
use Rattle.promises.specs.Retired.{retired_fit, silent_fit, after_over, weight_over, pair_over, steps_over, own_over}
use Rattle.std.specs.Prelude.{Result, Ok, Err}
use Rattle.judge.specs.declared.Refusal.{Refusal}

abbrev pub iterations_of : Result Answer Refusal → ℕ
iterations_of (Ok z) = z.iterations
iterations_of (Err refusal) = 0

module _ {tune : Tuning} {n : ℕ} {r : List ℕ} {nurule : Bool} {eps : Float} {shrinking : Bool} {budget : ℕ} {d : Lent} {x : Input} {o : Whole}
    (v : Taken tune n r nurule eps shrinking budget d x o) where
  abbrev k : Fit
  k = retired_fit tune n x r nurule eps

  abbrev m : List ℕ
  m = x.matrix

  abbrev start : State
  start = start_from k m d

  abbrev w : Full
  w = trained_over (stands_in r) k.given m x.ceilings budget start

  abbrev weights : ℕ → Float
  weights = weight_in n w.state.floats

  pub taken_ready : Ready (problem_of k.given m) start
  taken_ready =
      ready_loaded n TwoClass m x.labels x.ceilings (kept r x.weights n) (kept r x.terms n) (scratch_of d) (taken_usable v).matrix v.room.floats v.room.numbers v.room.bytes

  own_sample : (s : ℕ) → s < n → get_or start.numbers s 0 ≡ s
  own_sample s h = sample_loaded n d.numbers v.room.numbers n s (omega arith) h

  taken_fresh : Fresh n start
  taken_fresh = record { order = own_sample; index = λ i h. index_loaded n d.numbers v.room.numbers n i (omega arith) h }

  start_weight : (s : ℕ) → s < n → weight_in n start.floats s ≡ get_or (kept r x.weights n) s nan
  start_weight s h = weight_loaded n x.ceilings (kept r x.weights n) (kept r x.terms n) d.floats v.room.floats n s (omega arith) h

  told : (t : ℕ) → Told (problem_of k.given m) (λ q. last_left (steps_over (stands_in r) k m d t) q (weight_in n start.floats q)) (after_over (stands_in r) k m d t).state
  told = told_over (stands_in r) k.given m x.ceilings start taken_ready taken_fresh

  -- ---- nothing moves

  own_place : (s : ℕ) → s < n → get_or w.state.numbers s 0 ≡ s
  own_place s h = ap (λ (u : List ℕ). get_or u s 0) (trained_order (stands_in r) k.given m x.ceilings budget start) ∙ own_sample s h

  order : Perm n w.state.numbers
  unfolding trained_over
  order = (told budget).order

  home_is : (s : ℕ) → s < n → get_or o.left.home s nan ≡ weights s
  unfolding fitted_over answered_over
  home_is s h =
      ap (λ (z : Whole). get_or z.left.home s nan) v.same
      ∙ home_at nan w.state.numbers weights d.home n s v.room.home order h
      ∙ ap weights (ap order.place (sym (own_place s h)) ∙ order.only s h)

  -- both lists are one and the same
  pub taken_alike : (s : ℕ) → s < n → get_or o.left.crate s nan ≡ get_or o.left.home s nan
  unfolding fitted_over answered_over
  taken_alike s h =
      ap (λ (z : Whole). get_or z.left.crate s nan) v.same
      ∙ crate_at nan w.state.numbers weights d.crate n s v.room.crate h
      ∙ ap weights (own_place s h)
      ∙ sym (home_is s h)

  -- ---- home

  -- the weight after t passes: that at the start, or what the last step that chose the sample left
  pub taken_left : (t s : ℕ) → s < n → weight_over (stands_in r) k m d t s ≡ own_over (stands_in r) k m d t s
  unfolding trained_over
  taken_left t s h =
      (told t).weights s h
      ∙ ap (λ q. last_left (steps_over (stands_in r) k m d t) q (weight_in n start.floats q))
      (ap (λ (u : List ℕ). get_or u s 0) (trained_order (stands_in r) k.given m x.ceilings t start) ∙ own_sample s h)
      ∙ ap (last_left (steps_over (stands_in r) k m d t) s) (start_weight s h)

  pub taken_home : (s : ℕ) → s < n → get_or o.left.home s nan ≡ own_over (stands_in r) k m d budget s
  unfolding trained_over
  taken_home s h = home_is s h ∙ taken_left budget s h

  -- who is retired reads +0
  pub taken_reads : (s : ℕ) → s < n → stands_in r s ≡ false → get_or o.left.home s nan ≡ Weight.zero
  taken_reads s h z =
      home_is s h
      ∙ (trained_rests (stands_in r) k.given m x.ceilings start taken_ready budget).gone s h z
      ∙ start_weight s h
      ∙ kept_place r n v.room.most x.weights s h
      ∙ ap (λ (b : Bool). cond b (get_or x.weights s nan) Weight.zero) z

  -- ---- what stays with a sample, after each number of passes

  pub taken_travels : (t : ℕ) → Travelled n (λ s. get_or x.labels s 0) (λ s. get_or (kept r x.terms n) s nan) (after_over (stands_in r) k m d t).state
  taken_travels t =
      let u = travelled_over (stands_in r) k.given m x.ceilings start taken_ready taken_fresh t in
      let at : ℕ → ℕ = λ i. sample (after_over (stands_in r) k m d t).state i in
      record {
        order = u.order;
        paired = u.paired;
        label = λ i h. u.label i h ∙ label_loaded x.labels d.bytes n (at i) v.room.bytes (u.order.within.below i h);
        term = λ i h.
            u.term i h
            ∙ linear_loaded n x.ceilings (kept r x.weights n) (kept r x.terms n) d.floats v.room.floats n (at i) (omega arith) (u.order.within.below i h);
      }

  -- ---- the steps: both of a pair stand; the iterations answered are the steps, at most the budget

  pub taken_pairs : (t i j : ℕ) → pair_over (stands_in r) k m d t ≡ Some (i, j) → ((i < n) × (stands_in r i ≡ true)) × ((j < n) × (stands_in r j ≡ true))
  taken_pairs t = pair_stands (stands_in r) k.given m x.ceilings (after_over (stands_in r) k m d t)

  pub taken_iterations : (z : Answer) → o.out ≡ Ok z → (z.iterations ≡ length (steps_over (stands_in r) k m d budget)) × (z.iterations ≤ budget)
  unfolding fitted_over answered_over trained_over
  taken_iterations z e =
      let q = runs_count (stands_in r) k.given m x.ceilings (start_of k.given m x.ceilings start) budget in
      let l = traced_few (stands_in r) k.given m x.ceilings (start_of k.given m x.ceilings start) budget in
      let f : z.iterations ≡ w.run.iterations = ap iterations_of (sym e ∙ ap (λ (v : Whole). v.out) v.same) in
      let i : z.iterations ≡ length (steps_over (stands_in r) k m d budget) = omega arith in
      (i, omega arith)

  -- ---- the run of the code: the rule's own, with the linear term NaN where the sample is retired. After each pass it has the same weights, and where a
  -- sample stands the same gradient

  coded_twins : (t : ℕ) → Twins (stands_in r) k.given m m (trained_over (stands_in r) k.given m x.ceilings t (start_from (silent_fit tune n x r nurule eps) m d)) (trained_over (stands_in r) k.given m x.ceilings t start)
  coded_twins t =
      trained_twins (stands_in r) k.given m m x.ceilings x.ceilings (λ i h z. refl) (start_from (silent_fit tune n x r nurule eps) m d) start
      (ready_loaded n TwoClass m x.labels x.ceilings (kept r x.weights n) (silenced r x.terms n) (scratch_of d) (taken_usable v).matrix v.room.floats v.room.numbers v.room.bytes) taken_ready
      (silent_alike tune n r x nurule eps budget d v.room.most v.room.floats v.room.numbers v.room.bytes v.room.crate v.room.home (taken_usable v).matrix)
      refl t

  coded_goes : (t : ℕ) → Goes (stands_in r) k.given m refl x.ceilings (after (silent_fit tune n x r nurule eps) m d t) (trained_over (stands_in r) k.given m x.ceilings t (start_from (silent_fit tune n x r nurule eps) m d))
  unfolding trained_over
  coded_goes t = going tune n r x nurule eps budget d v.room.most v.room.floats v.room.numbers v.room.bytes v.room.crate v.room.home (taken_usable v).matrix t

  pub taken_coded : (t i : ℕ) → i < n → weight_after (silent_fit tune n x r nurule eps) m d t i ≡ weight_over (stands_in r) k m d t i
  unfolding trained_over
  taken_coded t i h = ap (λ (s : State). (alpha (problem_of k.given m) s i).value) (coded_goes t).kin.state ∙ (coded_twins t).alike.weights i h

  pub taken_coded_gradients : (t i : ℕ) → i < n → stands_in r i ≡ true
      → gradient (problem_of k.given m) (after (silent_fit tune n x r nurule eps) m d t).state i ≡ gradient (problem_of k.given m) (after_over (stands_in r) k m d t).state i
  unfolding trained_over
  taken_coded_gradients t i h z = ap (λ (s : State). gradient (problem_of k.given m) s i) (coded_goes t).kin.state ∙ (coded_twins t).alike.gradients i h z
