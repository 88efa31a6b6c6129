-- With nobody retired the entry answers as the general one with shrinking off, refusals too. Assumes nothing.
use Prim.Native.Nat.{ℕ, zero, suc, ◌*◌, ◌≤◌, ◌<◌}
use mathlib.Core.Bool.{Bool, true, false, ◌&&◌, cond}
use mathlib.Core.List.{List}
use mathlib.Core.Path.{◌≡◌, refl, sym, ap, ◌∙◌}
use native.Mathlib.Omega.{arith}
use borrow.Author.Tests.{eq-eqb}
use lib.Dec.{eqb}
use lib.Ieee.{Float, nan, binary64, div}
use lib.ListN.{length, get_or}
use Rattle.alpha.specs.Weight.{two}
use Rattle.alpha.specs.Weight as Weight
use Rattle.answer.specs.Answer.{obj_of}
use Rattle.answer.specs.Lent.{Lent, lent, Whole}
use Rattle.answer.specs.Solved.{stuck, settled_by, settled_of, closed_with, solved, read}
use Rattle.answer.specs.declared.Finish.TheVariants.{Plain}
use Rattle.classification.specs.Entries.{given_by, scratch_of, fitted, decided, sizes_of, general_tuned_sized, general_tuned}
use Rattle.classification.proofs.Laws.{usable_general}
use Rattle.fits.specs.Load.{loaded_floats, loaded}
use Rattle.judge.specs.Judge.{and_then, bytes_good, general_judged, floor_judged, retired_judged}
use Rattle.judge.specs.Sizes.{Room}
use Rattle.judge.proofs.Accepted.{floor_fine, within_bytes}
use Rattle.judge.proofs.Lengths.{room_of}
use Rattle.kernel.specs.Matrix.{Matrix}
use Rattle.kernel.specs.declared.Kind.TheVariants.{TwoClass}
use Rattle.standing.specs.End.{sum_over, objective_over}
use Rattle.solver.specs.End.{sum_to, objective_of, trained}
use Rattle.solver.specs.Run.{Full}
use Rattle.solver.specs.declared.Given.{Given}
use Rattle.state.specs.Lists.{state}
use Rattle.tuning.specs.declared.Tuning.{Tuning}
use Rattle.retired.specs.Coded.{with_obj, solved_silent, fitted_silent}
use Rattle.retired.specs.Silenced.{silenced}
use Rattle.retired.specs.Differ.{Input}
use Rattle.retired.specs.Entry.{stands_in, kept, fitted_over, retired_tuned_sized, retired_tuned}
use Rattle.retired.proofs.Coded.{silenced_place, silent_is}
use Rattle.retired.proofs.Independent.{kept_place}
use Rattle.std.specs.Prelude.{⊤, Result, Ok, Err}
use Rattle.answer.specs.declared.Answer.{Answer}
use Rattle.judge.specs.declared.Refusal.{Refusal}

-- lists that agree in their first places load the same
loaded_same : (n : ℕ) (c a a' p p' f : List Float) (k : ℕ) → ((j : ℕ) → j < k → get_or a j nan ≡ get_or a' j nan) → ((j : ℕ) → j < k → get_or p j nan ≡ get_or p' j nan)
    → loaded_floats n c a p f k ≡ loaded_floats n c a' p' f k
unfolding loaded_floats
loaded_same n c a a' p p' f zero h q = refl
loaded_same n c a a' p p' f (suc k) h q =
    rw (loaded_same n c a a' p p' f k (λ j l. h j (omega arith)) (λ j l. q j (omega arith)), h k (omega arith), q k (omega arith))

module _ (n : ℕ) (r : List ℕ) (all : (k : ℕ) → k < n → stands_in r k ≡ true) where
  sum_all : (f : List Float) (k : ℕ) → k ≤ n → sum_over (stands_in r) n f k ≡ sum_to n f k
  unfolding sum_over sum_to
  sum_all f zero l = refl
  sum_all f (suc k) l = rw (all k (omega arith), sum_all f k (omega arith))

  objective_all : (f : List Float) → objective_over (stands_in r) n f ≡ objective_of n f
  unfolding objective_over
  objective_all f = ap (λ (x : Float). div binary64 x two) (sum_all f n (omega arith))

module _ (g : Given) (r : List ℕ) (all : (k : ℕ) → k < g.n → stands_in r k ≡ true) where
  settled_all : (x : Bool) (l : List ℕ) (budget : ℕ) (w : Full) (c h : List Float)
      → with_obj (settled_by x g Plain l budget w c h).out (objective_over (stands_in r) g.n w.state.floats) ≡ (settled_by x g Plain l budget w c h).out
  unfolding settled_by obj_of
  settled_all true l budget w c h = refl
  settled_all false l budget w c h = rw (objective_all g.n r all w.state.floats)

  solved_all : (m l : List ℕ) (b : List Float) (budget : ℕ) (d : Lent) → solved_silent g m l b r budget d ≡ solved g Plain m l b budget d
  unfolding solved_silent solved
  solved_all m l b budget d =
      let w = trained g m b budget (state d.floats d.numbers d.bytes) in
      let x = settled_of g Plain l budget w d.crate d.home in
      ap (λ (o : Result Answer Refusal). closed_with g.n w.state (read o x.crate x.home)) (settled_all (stuck w.run.status) l budget w d.crate d.home)

module _ (tune : Tuning) (n : ℕ) (r : List ℕ) (all : (k : ℕ) → k < n → stands_in r k ≡ true) (x : Input) (nurule : Bool) (eps : Float) (budget : ℕ) (d : Lent) (most : n ≤ 512)
    (lf : 7 * n ≤ length d.floats) (lu : 2 * n ≤ length d.numbers) (ly : n ≤ length d.bytes) (lc : n ≤ length d.crate) (lh : n ≤ length d.home) (M : Matrix n x.matrix) where
  abbrev g : Given
  g = given_by tune n TwoClass eps false nurule

  loads : loaded_floats n x.ceilings (kept r x.weights n) (silenced r x.terms n) d.floats n ≡ loaded_floats n x.ceilings x.weights x.terms d.floats n
  loads =
      loaded_same n x.ceilings (kept r x.weights n) x.weights (silenced r x.terms n) x.terms d.floats n
      (λ j l. kept_place r n most x.weights j l ∙ ap (λ (z : Bool). cond z (get_or x.weights j nan) Weight.zero) (all j l))
      (λ j l. silenced_place r n most x.terms j l ∙ ap (λ (z : Bool). cond z (get_or x.terms j nan) nan) (all j l))

  fitted_nobody : fitted_over (stands_in r) g x.matrix x.labels x.ceilings (kept r x.weights n) (kept r x.terms n) budget d
      ≡ fitted g Plain x.matrix x.labels x.ceilings x.weights x.terms budget d
  unfolding fitted_silent fitted
  fitted_nobody =
      sym (silent_is tune n r x nurule eps budget d most lf lu ly lc lh M)
      ∙ ap (λ (f : List Float). solved_silent g x.matrix x.labels x.ceilings r budget (lent d.crate d.home f (loaded n x.labels x.ceilings x.weights x.terms (scratch_of d)).numbers (loaded n x.labels x.ceilings x.weights x.terms (scratch_of d)).labels)) loads
      ∙ solved_all g r all x.matrix x.labels x.ceilings budget _

-- ---- the whole entry

module _ (tune : Tuning) (n : ℕ) (r : List ℕ) (long : length r ≡ n) (all : (k : ℕ) → k < n → get_or r k 0 ≡ 0) where
  stands_all : (k : ℕ) → k < n → stands_in r k ≡ true
  stands_all k h = eq-eqb (get_or r k 0) 0 (all k h)

  bytes_all : bytes_good r n ≡ true
  bytes_all = within_bytes r n (λ k h. let z = all k h in omega arith)

  module _ (m l : List ℕ) (c a p : List Float) (nurule : Bool) (eps : Float) (budget : ℕ) (d : Lent) where
    abbrev input : Input
    input = record { matrix = m; labels = l; ceilings = c; weights = a; terms = p }

    judged_nobody : retired_judged tune.floor n m l c a p r eps false budget ≡ floor_judged tune.floor (general_judged n m l c a p eps budget)
    unfolding retired_judged
    judged_nobody = rw bytes_all (after_none _ ∙ after_none _)
      where
        after_none : (j : Result ⊤ Refusal) → and_then j (Ok tt) ≡ j
        after_none (Ok x) = unfold and_then in refl
        after_none (Err refusal) = unfold and_then in refl

    decided_nobody : (j : Result ⊤ Refusal) (v w : Whole) → (j ≡ Ok tt → v ≡ w) → decided j v d ≡ decided j w d
    unfolding decided
    decided_nobody (Ok x) v w h = h refl
    decided_nobody (Err refusal) v w h = refl

    pub sized_nobody : Room n (length m) (length d.crate) (length d.home) (length d.floats) (length d.numbers) (length d.bytes)
        → retired_tuned_sized tune n m l c a p r nurule eps false budget d ≡ general_tuned_sized tune n m l c a p nurule eps false budget d
    unfolding retired_tuned_sized general_tuned_sized
    sized_nobody v =
        rw judged_nobody (decided_nobody (floor_judged tune.floor (general_judged n m l c a p eps budget)) _ _
        (λ q. fitted_nobody tune n r stands_all input nurule eps budget d v.most v.floats v.numbers v.bytes v.crate v.home (usable_general n m budget v.most v.matrix l c a p eps (floor_fine tune.floor _ q).0).matrix))

    pub nobody_retired : retired_tuned tune n m l c a p r nurule eps false budget d ≡ general_tuned tune n m l c a p nurule eps false budget d
    unfolding retired_tuned general_tuned
    nobody_retired =
        let inputs = eqb (length l) n && eqb (length c) n && eqb (length a) n && eqb (length p) n in
        let same : (inputs && eqb (length r) n) ≡ inputs = rw (eq-eqb (length r) n long) (and_true inputs) in
        rw same (decided_nobody (sizes_of n inputs m d) _ _ (λ z. sized_nobody (room_of n inputs _ _ _ _ _ _ z)))
      where
        and_true : (b : Bool) → (b && true) ≡ b
        and_true true = refl
        and_true false = refl
