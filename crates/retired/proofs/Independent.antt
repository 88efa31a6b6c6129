-- What is retired has no say: two trainings that differ in it only give one answer and leave the same lists. Assumes nothing.
use Prim.Native.Nat.{ℕ, zero, suc, ◌*◌, ◌≤◌, ◌<◌}
use mathlib.Core.Bool.{Bool, true, false, ◌&&◌, cond}
use mathlib.Core.List.{List}
use mathlib.Core.Path.{◌≡◌, refl, sym, ap, ap₂, ◌∙◌}
use native.Mathlib.Decide.{ℕ_discrete}
use native.Mathlib.Omega.{arith}
use lib.Dec.{eqb}
use lib.Ieee.{Float, nan, eq, of_bits}
use lib.ListN.{length, get_or, set, length-set}
use lib.Seq.{get_or-set_same, get_or-set_other}
use Rattle.alpha.specs.Weight as Weight
use Rattle.fits.specs.Load.{loaded}
use Rattle.fits.specs.Starts.{nothing}
use Rattle.fits.proofs.Loaded.{weight_loaded, ceiling_loaded, linear_loaded, index_loaded, label_loaded, ready_loaded}
use Rattle.kernel.specs.Matrix.{Matrix, entry_at}
use Rattle.kernel.specs.Row.{kernel_index, alike_of, signed_of, row_at}
use Rattle.kernel.specs.declared.Kind.{Kind}
use Rattle.answer.specs.Answer.{support_of, ratio_of, reason_of}
use Rattle.answer.specs.Lent.{Lent, Whole, whole, cleared}
use Rattle.answer.specs.declared.Answer.{Answer}
use Rattle.classification.specs.Entries.{given_by, scratch_of, sizes_of}
use Rattle.classification.proofs.Laws.{Usable}
use Rattle.judge.specs.Judge.{retired_judged}
use Rattle.judge.specs.Sizes.{Room}
use Rattle.judge.proofs.Lengths.{room_of}
use Rattle.kernel.specs.declared.Kind.TheVariants.{TwoClass}
use Rattle.classification.proofs.Accepts.{decided_in}
use Rattle.readings.specs.Order.{gathered, scattered, weight_in}
use Rattle.standing.specs.End.{level_over, objective_over}
use Rattle.standing.specs.Run.{trained_over}
use Rattle.standing.proofs.Independent.{same_run, same_weights, same_level, same_objective, trained_order}
use Rattle.rho.specs.declared.Level.{Level}
use Rattle.modes.specs.Modes.{repaired}
use Rattle.solver.specs.Run.{Full}
use Rattle.solver.specs.declared.Given.{Given}
use Rattle.solver.specs.declared.Run.{Run}
use Rattle.fits.proofs.Loaded.{sample_loaded}
use Rattle.standing.proofs.Alike.{LentAlike}
use Rattle.state.specs.Fields.{row}
use Rattle.state.specs.Lists.{problem, State}
use Rattle.tuning.specs.declared.Tuning.{Tuning}
use Rattle.retired.proofs.Laws.{usable_retired}
use Rattle.retired.specs.Differ.{Input, retired_for, DifferRetired}
use Rattle.retired.specs.Entry.{stands_in, kept_to, kept, answered_over, fitted_over, retired_tuned_sized, retired_tuned}
use Rattle.std.specs.Prelude.{Ok}

-- ---- what is kept of a list

length_kept : (r : List ℕ) (x : Float) (a d : List Float) (k : ℕ) → length (kept_to r x a d k) ≡ length d
unfolding kept_to
length_kept r x a d zero = refl
length_kept r x a d (suc k) = simp length-set (length_kept r x a d k)

pub kept_at : (r : List ℕ) (x : Float) (a d : List Float) (k j : ℕ) → j < k → k ≤ length d → get_or (kept_to r x a d k) j nan ≡ cond (stands_in r j) (get_or a j nan) x
unfolding kept_to
kept_at r x a d zero j h l = let z : ⊥ = omega arith in absurd z
kept_at r x a d (suc k) j h l = go (ℕ_discrete j k) (kept_at r x a d k j)
  where
    e : List Float
    e = kept_to r x a d k

    v : Float
    v = cond (stands_in r k) (get_or a k nan) x

    go : Dec (j ≡ k) → (j < k → k ≤ length d → get_or e j nan ≡ cond (stands_in r j) (get_or a j nan) x) → get_or (set e k v) j nan ≡ cond (stands_in r j) (get_or a j nan) x
    go (yes q) before = rw q (get_or-set_same e k v nan (rw (length_kept r x a d k) (omega arith)))
    go (no q) before = get_or-set_other e k j v nan q ∙ before (omega arith) (omega arith)

pub kept_place : (r : List ℕ) (n : ℕ) → n ≤ 512 → (a : List Float) (k : ℕ) → k < n → get_or (kept r a n) k nan ≡ cond (stands_in r k) (get_or a k nan) Weight.zero
unfolding kept
kept_place r n most a k l = kept_at r Weight.zero a nothing n k l (omega arith)

pub zero_low : eq Weight.zero Weight.zero ≡ true
unfolding eq of_bits
zero_low = refl

-- ---- loaded, two such trainings are alike

module _ (n : ℕ) (kind : Kind) (r : List ℕ) (x y : Input) (D : DifferRetired n r x y) (d : State)
    (lf : 7 * n ≤ length d.floats) (lu : 2 * n ≤ length d.numbers) (ly : n ≤ length d.labels)
    (a p : List Float) (a' p' : List Float)
    (A : (k : ℕ) → k < n → get_or a k nan ≡ cond (stands_in r k) (get_or x.weights k nan) Weight.zero)
    (A' : (k : ℕ) → k < n → get_or a' k nan ≡ cond (stands_in r k) (get_or y.weights k nan) Weight.zero)
    (P : (k : ℕ) → k < n → stands_in r k ≡ true → get_or p k nan ≡ get_or p' k nan) where
  abbrev s : State
  s = loaded n x.labels x.ceilings a p d

  abbrev t : State
  t = loaded n y.labels y.ceilings a' p' d

  value_same : (k : ℕ) → k < n → get_or a k nan ≡ get_or a' k nan
  value_same k l = A k l ∙ go (stands_in r k) (D.weights k l) ∙ sym (A' k l)
    where
      go : (z : Bool) → (z ≡ true → get_or x.weights k nan ≡ get_or y.weights k nan)
          → cond z (get_or x.weights k nan) Weight.zero ≡ cond z (get_or y.weights k nan) Weight.zero
      go true h = h refl
      go false h = refl

  label_same : (k : ℕ) → k < n → stands_in r k ≡ true → get_or s.labels k 0 ≡ get_or t.labels k 0
  label_same k l h =
      label_loaded x.labels d.labels n k ly l ∙ D.labels k l h ∙ sym (label_loaded y.labels d.labels n k ly l)

  row_by : (a a' b b' : ℕ) (c e : ℕ) (u u' : List ℕ) → a ≡ a' → b ≡ b' → entry_at n u c e ≡ entry_at n u' c e
      → signed_of (alike_of kind a b) (entry_at n u c e) ≡ signed_of (alike_of kind a' b') (entry_at n u' c e)
  row_by a a' b b' c e u u' q1 q2 q3 = rw (q1, q2, q3)

  index_is : (k : ℕ) → k < n → kernel_index n s.numbers k ≡ k
  index_is k l = index_loaded n d.numbers lu n k (omega arith) l

  row_same : (i k : ℕ) → i < n → k < n → stands_in r i ≡ true → stands_in r k ≡ true
      → row (problem n n kind x.matrix) s i k ≡ row (problem n n kind y.matrix) t i k
  unfolding row_at
  row_same i k I K hi hk =
      rw (index_is i I, index_is k K)
      (row_by (get_or s.labels i 0) (get_or t.labels i 0) (get_or s.labels k 0) (get_or t.labels k 0) i k x.matrix y.matrix (label_same i I hi) (label_same k K hk) (D.entries i k I K hi hk))

  pub lent_alike : LentAlike (stands_in r) (problem n n kind x.matrix) (problem n n kind y.matrix) s t
  lent_alike = record {
    weights = λ k l.
        weight_loaded n x.ceilings a p d.floats lf n k (omega arith) l ∙ value_same k l ∙ sym (weight_loaded n y.ceilings a' p' d.floats lf n k (omega arith) l);
    gone = λ k l h. ap (λ (z : Float). eq z Weight.zero) (weight_loaded n x.ceilings a p d.floats lf n k (omega arith) l ∙ A k l ∙ rw h) ∙ zero_low;
    uppers = λ k l h.
        ceiling_loaded n x.ceilings a p d.floats lf n k (omega arith) l ∙ D.ceilings k l h ∙ sym (ceiling_loaded n y.ceilings a' p' d.floats lf n k (omega arith) l);
    terms = λ k l h.
        linear_loaded n x.ceilings a p d.floats lf n k (omega arith) l ∙ P k l h ∙ sym (linear_loaded n y.ceilings a' p' d.floats lf n k (omega arith) l);
    labels = label_same;
    rows = row_same;
    own = λ k l h. rw (index_is k l) (D.entries k k l l h h);
  }

-- ---- one answer

gathered_same : (order : List ℕ) (w w' : ℕ → Float) (r : List Float) (n : ℕ) → ((k : ℕ) → k < n → w (get_or order k 0) ≡ w' (get_or order k 0)) → gathered order w r n ≡ gathered order w' r n
unfolding gathered
gathered_same order w w' r zero h = refl
gathered_same order w w' r (suc n) h =
    ap₂ (λ (d : List Float) (x : Float). set d n x) (gathered_same order w w' r n (λ k l. h k (omega arith))) (h n (omega arith))

scattered_same : (order : List ℕ) (w w' : ℕ → Float) (r : List Float) (n : ℕ) → ((k : ℕ) → k < n → w k ≡ w' k) → scattered order w r n ≡ scattered order w' r n
unfolding scattered
scattered_same order w w' r zero h = refl
scattered_same order w w' r (suc n) h =
    ap₂ (λ (d : List Float) (x : Float). set d (get_or order n 0) x) (scattered_same order w w' r n (λ k l. h k (omega arith))) (h n (omega arith))

module _ (stands : ℕ → Bool) (g : Given) (budget : ℕ) (d : Lent) where
  answered_by : (i i' : ℕ) (v v' : Level) (o o' : Float) (c c' h h' : List Float) → i ≡ i' → v ≡ v' → o ≡ o' → c ≡ c' → h ≡ h'
      → let z = cleared g.n (scratch_of d) in
      ◌≡◌ {A = Whole}
      (whole (Ok (record { rho = v.rho; r = ratio_of g.nu v; obj = o; iterations = i; exit_reason = reason_of i budget; support = support_of h g.n })) c h z.floats z.numbers z.labels)
      (whole (Ok (record { rho = v'.rho; r = ratio_of g.nu v'; obj = o'; iterations = i'; exit_reason = reason_of i' budget; support = support_of h' g.n })) c' h' z.floats z.numbers z.labels)
  answered_by i i' v v' o o' c c' h h' q1 q2 q3 q4 q5 = rw (q1, q2, q3, q4, q5)

  pub answered_same : (w v : Full) → w.run ≡ v.run → w.state.numbers ≡ v.state.numbers → ((k : ℕ) → k < g.n → get_or w.state.numbers k 0 < g.n)
      → ((k : ℕ) → k < g.n → weight_in g.n w.state.floats k ≡ weight_in g.n v.state.floats k)
      → level_over stands g.n w.state.floats w.state.labels g.nu (repaired g.mode) ≡ level_over stands g.n v.state.floats v.state.labels g.nu (repaired g.mode)
      → objective_over stands g.n w.state.floats ≡ objective_over stands g.n v.state.floats
      → answered_over stands g budget w d ≡ answered_over stands g budget v d
  unfolding answered_over
  answered_same w v e o l q x y =
      answered_by _ _ _ _ _ _ _ _ _ _ (ap (λ (z : Run). z.iterations) e) x y
      (gathered_same w.state.numbers (weight_in g.n w.state.floats) (weight_in g.n v.state.floats) d.crate g.n (λ k h. q (get_or w.state.numbers k 0) (l k h))
      ∙ ap (λ (u : List ℕ). gathered u (weight_in g.n v.state.floats) d.crate g.n) o)
      (scattered_same w.state.numbers (weight_in g.n w.state.floats) (weight_in g.n v.state.floats) d.home g.n q
      ∙ ap (λ (u : List ℕ). scattered u (weight_in g.n v.state.floats) d.home g.n) o)

-- ---- the theorem

module _ (tune : Tuning) (n : ℕ) (r : List ℕ) (x y : Input) (D : DifferRetired n r x y) (nurule : Bool) (eps : Float) (budget : ℕ) (d : Lent)
    (most : n ≤ 512) (lf : 7 * n ≤ length d.floats) (lu : 2 * n ≤ length d.numbers) (ly : n ≤ length d.bytes)
    (M : Matrix n x.matrix) (M' : Matrix n y.matrix) where
  abbrev g : Given
  g = given_by tune n TwoClass eps false nurule

  abbrev fit_of : Input → Whole
  fit_of z = fitted_over (stands_in r) g z.matrix z.labels z.ceilings (kept r z.weights n) (kept r z.terms n) budget d

  kept_stands : (a : List Float) (k : ℕ) → k < n → stands_in r k ≡ true → get_or (kept r a n) k nan ≡ get_or a k nan
  kept_stands a k l h = kept_place r n most a k l ∙ ap (λ (z : Bool). cond z (get_or a k nan) Weight.zero) h

  pub fitted_independent : fit_of x ≡ fit_of y
  unfolding fitted_over
  fitted_independent =
      let s = loaded n x.labels x.ceilings (kept r x.weights n) (kept r x.terms n) (scratch_of d) in
      let t = loaded n y.labels y.ceilings (kept r y.weights n) (kept r y.terms n) (scratch_of d) in
      let R = ready_loaded n TwoClass x.matrix x.labels x.ceilings (kept r x.weights n) (kept r x.terms n) (scratch_of d) M lf lu ly in
      let R' = ready_loaded n TwoClass y.matrix y.labels y.ceilings (kept r y.weights n) (kept r y.terms n) (scratch_of d) M' lf lu ly in
      let A =
      lent_alike n TwoClass r x y D (scratch_of d) lf lu ly (kept r x.weights n) (kept r x.terms n) (kept r y.weights n) (kept r y.terms n) (kept_place r n most x.weights) (kept_place r n most y.weights)
      (λ k l h. kept_stands x.terms k l h ∙ D.terms k l h ∙ sym (kept_stands y.terms k l h))
      in
      answered_same (stands_in r) g budget d (trained_over (stands_in r) g x.matrix x.ceilings budget s) (trained_over (stands_in r) g y.matrix y.ceilings budget t)
      (same_run (stands_in r) g x.matrix y.matrix x.ceilings y.ceilings D.ceilings s t R R' A refl budget)
      (trained_order (stands_in r) g x.matrix x.ceilings budget s ∙ sym (trained_order (stands_in r) g y.matrix y.ceilings budget t))
      (λ k l. rw (trained_order (stands_in r) g x.matrix x.ceilings budget s, sample_loaded n d.numbers lu n k (omega arith) l) l)
      (same_weights (stands_in r) g x.matrix y.matrix x.ceilings y.ceilings D.ceilings s t R R' A refl budget)
      (same_level (stands_in r) g x.matrix y.matrix x.ceilings y.ceilings D.ceilings s t R R' A refl budget nurule (repaired g.mode))
      (same_objective (stands_in r) g x.matrix y.matrix x.ceilings y.ceilings D.ceilings s t R R' A refl budget)

-- the outcome o is that of the fit over what stands, of an input that was judged fine, over lists that suffice
pub record Taken (tune : Tuning) (n : ℕ) (r : List ℕ) (nurule : Bool) (eps : Float) (shrinking : Bool) (budget : ℕ) (d : Lent) (x : Input) (o : Whole) : Type 0 where
  pub room : Room n (length x.matrix) (length d.crate) (length d.home) (length d.floats) (length d.numbers) (length d.bytes)
  pub judged : retired_judged tune.floor n x.matrix x.labels x.ceilings x.weights x.terms r eps shrinking budget ≡ Ok tt
  pub same : o ≡ fitted_over (stands_in r) (given_by tune n TwoClass eps false nurule) x.matrix x.labels x.ceilings (kept r x.weights n) (kept r x.terms n) budget d

module _ {tune : Tuning} {n : ℕ} {r : List ℕ} {nurule : Bool} {eps : Float} {shrinking : Bool} {budget : ℕ} {d : Lent} where
  pub taken_usable : {x : Input} {o : Whole} → Taken tune n r nurule eps shrinking budget d x o → Usable n x.matrix budget
  taken_usable {x = x} v = usable_retired tune.floor n x.matrix budget v.room.most v.room.matrix x.labels x.ceilings x.weights x.terms r eps shrinking v.judged

  -- two of them that differ in what is retired only
  pub taken_independent : {x y : Input} {o o' : Whole} → DifferRetired n r x y → Taken tune n r nurule eps shrinking budget d x o → Taken tune n r nurule eps shrinking budget d y o' → o ≡ o'
  taken_independent {x = x} {y = y} D v w =
      v.same
      ∙ fitted_independent tune n r x y D nurule eps budget d v.room.most v.room.floats v.room.numbers v.room.bytes (taken_usable v).matrix (taken_usable w).matrix
      ∙ sym w.same

module _ (tune : Tuning) (n : ℕ) (r : List ℕ) (nurule : Bool) (eps : Float) (shrinking : Bool) (budget : ℕ) (d : Lent) where
  abbrev sized_for : Input → Whole
  sized_for x = retired_tuned_sized tune n x.matrix x.labels x.ceilings x.weights x.terms r nurule eps shrinking budget d

  out_of : (z : Answer) (w v : Whole) → w ≡ v → w.out ≡ Ok z → v.out ≡ Ok z
  out_of z w v q h = rw q at h

  -- after the sizes
  pub sized_taken : (x : Input) → Room n (length x.matrix) (length d.crate) (length d.home) (length d.floats) (length d.numbers) (length d.bytes)
      → (z : Answer) → (sized_for x).out ≡ Ok z → Taken tune n r nurule eps shrinking budget d x (sized_for x)
  unfolding retired_tuned_sized
  sized_taken x room z e = let v = decided_in _ d z (retired_judged tune.floor n x.matrix x.labels x.ceilings x.weights x.terms r eps shrinking budget) e in record { room = room; judged = v.0; same = v.1 }

  -- where the entry accepts
  pub retired_taken : (x : Input) (z : Answer) → (retired_for tune x n r nurule eps shrinking budget d).out ≡ Ok z → Taken tune n r nurule eps shrinking budget d x (retired_for tune x n r nurule eps shrinking budget d)
  unfolding retired_tuned
  retired_taken x z e =
      let inputs = eqb (length x.labels) n && eqb (length x.ceilings) n && eqb (length x.weights) n && eqb (length x.terms) n && eqb (length r) n in
      let q = decided_in (sized_for x) d z (sizes_of n inputs x.matrix d) e in
      let v = sized_taken x (room_of n inputs _ _ _ _ _ _ q.0) z (out_of z _ _ q.1 e) in
      record { room = v.room; judged = v.judged; same = q.1 ∙ v.same }

  -- two trainings that differ in what is retired only: where both are accepted, one answer, and the same lists
  pub retired_independent : (x y : Input) → DifferRetired n r x y → (z z' : Answer)
      → (retired_for tune x n r nurule eps shrinking budget d).out ≡ Ok z → (retired_for tune y n r nurule eps shrinking budget d).out ≡ Ok z'
      → retired_for tune x n r nurule eps shrinking budget d ≡ retired_for tune y n r nurule eps shrinking budget d
  retired_independent x y D z z' e e' = taken_independent D (retired_taken x z e) (retired_taken y z' e')
