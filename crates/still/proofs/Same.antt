-- With shrinking off an entry without an order table answers what the rule's entry answers, refusals from 3 on too. Assumes nothing.
--
-- Main theorems:
--   c_same, nu_same, one_class_same: where what is lent to each suffices, the outcome is the same, and where it is accepted so is every coefficient; where the
--   lists lent for the result are the same, so they are after
--   c_sized_same, nu_sized_same, one_class_sized_same: the same of what follows refusals 1 and 2
use Prim.Native.Nat.{ℕ, ◌*◌, ◌≤◌}
use mathlib.Core.Bool.{Bool, true, false}
use mathlib.Core.List.{List}
use mathlib.Core.Path.{◌≡◌, refl, ap, ◌∙◌}
use native.Mathlib.Omega.{arith}
use lib.Dec.{eqb}
use lib.Ieee.{Float, nan}
use lib.ListN.{length, get_or}
use Rattle.answer.specs.Lent.{Lent, Whole}
use Rattle.answer.specs.declared.Finish.{Finish}
use Rattle.classification.specs.Entries.{decided, sizes_of, fit_c_tuned_sized, fit_c_tuned, fit_nu_tuned_sized, fit_nu_tuned, fit_one_class_tuned_sized, fit_one_class_tuned}
use Rattle.judge.specs.Judge.{and_then, floor_judged}
use Rattle.judge.specs.Sizes.{Room}
use Rattle.judge.proofs.Accepted.{floor_fine, c_fine, nu_fine}
use Rattle.judge.proofs.Lengths.{room_of}
use Rattle.orderless.specs.Sheet.{sized}
use Rattle.solver.specs.declared.Given.{Given}
use Rattle.tuning.specs.declared.Tuning.{Tuning}
use Rattle.still.specs.Answered.{Answers, fitted_still}
use Rattle.still.specs.Entries.{StillLent, StillWhole, still_left, still_sizes, StillRoom, still_judged, still_decided, still_c_tuned_sized, still_c_tuned, still_nu_tuned_sized, still_nu_tuned, still_one_class_tuned_sized, still_one_class_tuned}
use Rattle.still.proofs.Fitted.{out_alike, result_alike}
use Rattle.still.proofs.Fits.{c_still, nu_still, one_class_still}
use Rattle.still.specs.Same.{Same}
use Rattle.still.proofs.Sizes.{room_still}
use Rattle.std.specs.Prelude.{⊤, Result, Ok, Err}
use Rattle.judge.specs.declared.Refusal.{Refusal}

fit_same : (g : Given) (how : Finish) (m l : List ℕ) (top : Bool → Float) (term : ℕ → Float) (a : List Float) (budget : ℕ) (d : Lent) (e : StillLent) (w : Whole)
    → Answers w (fitted_still g how m l top term a budget e.floats) d → g.n ≤ length d.home → g.n ≤ length e.result
    → Same g.n d e w (still_left g.n (fitted_still g how m l top term a budget e.floats e.result) e)
fit_same g how m l top term a budget d e w A long long' = record {
  out = A.out ∙ out_alike g how m l top term a budget e.floats d.home e.result long long';
  places = λ x X k K.
      ap (λ (z : List Float). get_or z k nan) A.home ∙ result_alike g how m l top term a budget e.floats d.home e.result long long' k K;
  lists = λ q. A.home ∙ ap (λ (z : List Float). (fitted_still g how m l top term a budget e.floats z).result) q;
  crates = λ q. A.crate ∙ ap (λ (z : List Float). (fitted_still g how m l top term a budget e.floats z).result) q;
}

-- with shrinking off nothing is refused by 13
off : (j : Result ⊤ Refusal) → and_then j (Ok tt) ≡ j
unfolding and_then
off (Ok x) = refl
off (Err refusal) = refl

module _ (n : ℕ) (d : Lent) (e : StillLent) (w : Whole) (v : StillWhole) where
  decided_same : (j : Result ⊤ Refusal) → (j ≡ Ok tt → Same n d e w v) → Same n d e (decided j w d) (still_decided j v e)
  unfolding decided still_decided
  decided_same (Ok p) s = s refl
  decided_same (Err refusal) s = record { out = refl; places = λ x X. let z : ⊥ = cc in absurd z; lists = λ q. q; crates = λ q. q }

  judged_same : (x : Float) (j : Result ⊤ Refusal) → (j ≡ Ok tt → Same n d e w v) → Same n d e (decided (floor_judged x j) w d) (still_decided (still_judged x false j) v e)
  judged_same x j s = rw (off (floor_judged x j)) (decided_same (floor_judged x j) (λ h. s (floor_fine x j h).0))

  entered_same : (a b : Result ⊤ Refusal) → a ≡ Ok tt → b ≡ Ok tt → Same n d e w v → Same n d e (decided a w d) (still_decided b v e)
  unfolding decided still_decided
  entered_same a b p q s = rw (p, q) s

pub room_nu : (nu : Bool) (n f : ℕ) → 5 * n ≤ f → sized nu n ≤ f
room_nu true n f h = h
room_nu false n f h = omega arith

-- ---- after refusals 1 and 2

module _ (t : Tuning) (n : ℕ) (m : List ℕ) (eps : Float) (budget : ℕ) (d : Lent) (e : StillLent)
    (R : Room n (length m) (length d.crate) (length d.home) (length d.floats) (length d.numbers) (length d.bytes))
    (S : StillRoom n (length m) (length e.result) (length e.floats) (length e.bytes)) where
  pub c_sized_same : (l : List ℕ) (cpos cneg : Float) → Same n d e (fit_c_tuned_sized t n m l cpos cneg eps false budget d) (still_c_tuned_sized t n m l cpos cneg eps false budget e)
  unfolding fit_c_tuned_sized still_c_tuned_sized
  c_sized_same l cpos cneg = judged_same n d e _ _ t.floor _ (λ h.
      let q = c_fine n m l cpos cneg eps budget h in
      fit_same _ _ _ _ _ _ _ budget d e _ (c_still _ m budget d e.floats refl refl R.most R.floats R.numbers R.bytes (room_nu false n _ S.floats) l refl q.labels cpos cneg q.cpos_good q.cneg_good) R.home S.result)

  pub nu_sized_same : (l : List ℕ) (nu : Float) → Same n d e (fit_nu_tuned_sized t n m l nu eps false budget d) (still_nu_tuned_sized t n m l nu eps false budget e)
  unfolding fit_nu_tuned_sized still_nu_tuned_sized
  nu_sized_same l nu = judged_same n d e _ _ t.floor _ (λ h.
      let q = nu_fine n m l nu eps budget h in
      fit_same _ _ _ _ _ _ _ budget d e _ (nu_still _ m budget d e.floats refl refl R.most R.floats R.numbers R.bytes (room_nu true n _ S.floats) l refl q.labels nu) R.home S.result)

  pub one_class_sized_same : (nu : Float) → Same n d e (fit_one_class_tuned_sized t n m nu eps false budget d) (still_one_class_tuned_sized t n m nu eps false budget e)
  unfolding fit_one_class_tuned_sized still_one_class_tuned_sized
  one_class_sized_same nu = judged_same n d e _ _ t.floor _ (λ h.
      fit_same _ _ _ _ _ _ _ budget d e _ (one_class_still _ m budget d e.floats refl refl R.most R.floats R.numbers R.bytes (room_nu false n _ S.floats) refl nu) R.home S.result)

-- ---- the entries

module _ (t : Tuning) (n : ℕ) (m l : List ℕ) (eps : Float) (budget : ℕ) (d : Lent) (e : StillLent)
    (fits : sizes_of n (eqb (length l) n) m d ≡ Ok tt) (suffices : still_sizes n (eqb (length l) n) m e ≡ Ok tt) where
  pub c_same : (cpos cneg : Float) → Same n d e (fit_c_tuned t n m l cpos cneg eps false budget d) (still_c_tuned t n m l cpos cneg eps false budget e)
  unfolding fit_c_tuned still_c_tuned
  c_same cpos cneg =
      entered_same n d e _ _ _ _ fits suffices (c_sized_same t n m eps budget d e (room_of _ _ _ _ _ _ _ _ fits) (room_still _ _ _ _ _ _ suffices) l cpos cneg)

  pub nu_same : (nu : Float) → Same n d e (fit_nu_tuned t n m l nu eps false budget d) (still_nu_tuned t n m l nu eps false budget e)
  unfolding fit_nu_tuned still_nu_tuned
  nu_same nu = entered_same n d e _ _ _ _ fits suffices (nu_sized_same t n m eps budget d e (room_of _ _ _ _ _ _ _ _ fits) (room_still _ _ _ _ _ _ suffices) l nu)

module _ (t : Tuning) (n : ℕ) (m : List ℕ) (eps : Float) (budget : ℕ) (d : Lent) (e : StillLent) (fits : sizes_of n true m d ≡ Ok tt) (suffices : still_sizes n true m e ≡ Ok tt) where
  pub one_class_same : (nu : Float) → Same n d e (fit_one_class_tuned t n m nu eps false budget d) (still_one_class_tuned t n m nu eps false budget e)
  unfolding fit_one_class_tuned still_one_class_tuned
  one_class_same nu =
      entered_same n d e _ _ _ _ fits suffices (one_class_sized_same t n m eps budget d e (room_of _ _ _ _ _ _ _ _ fits) (room_still _ _ _ _ _ _ suffices) nu)
