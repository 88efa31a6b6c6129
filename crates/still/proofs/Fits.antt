-- With shrinking off each fit of the rule answers what its fit without an order table answers: C, nu, one-class. Assumes nothing.
--
-- Main theorems:
--   c_still: the C fit, with judged labels and costs; `nu_still`: the nu fit; `one_class_still`: the one-class fit
use Prim.Native.Nat.{ℕ, zero, suc, ◌*◌, ◌≤◌, ◌<◌}
use mathlib.Core.Bool.{Bool, true, false, cond}
use mathlib.Core.List.{List}
use mathlib.Core.Logic.{◌⊎◌, inl, inr}
use mathlib.Core.Path.{◌≡◌, refl, sym, ◌∙◌}
use native.Mathlib.Omega.{arith}
use lib.Ieee.{Float, of_bits, lt}
use lib.ListN.{length, get_or}
use Rattle.alpha.specs.Weight as Weight
use Rattle.alpha.specs.Weight.{one, minus_one}
use Rattle.answer.specs.Lent.{Lent}
use Rattle.answer.specs.declared.Finish.TheVariants.{Plain, Signed, Scaled}
use Rattle.classification.specs.Entries.{fitted}
use Rattle.fits.specs.Starts.{nothing, evenly, all_positive, costs_to, half, shared_to, one_class_to}
use Rattle.fits.proofs.Starts.{nothing_at, evenly_at, positive_at, cost_at}
use Rattle.judge.specs.Judge.{first, label_good, is_ceiling}
use Rattle.judge.proofs.Accepted.{label_within, cost_within}
use Rattle.judge.proofs.First.{first_fine}
use Rattle.kernel.specs.declared.Kind.{Kind}
use Rattle.kernel.specs.declared.Kind.TheVariants.{TwoClass, OneClass}
use Rattle.orderless.specs.Sheet.{sized, ceilings_of}
use Rattle.orderless.proofs.Lent.{Labelled, steady_zero, steady_minus_one}
use Rattle.rho.specs.Rho.{positive_in}
use Rattle.rounding.proofs.Order.{holds}
use Rattle.solver.specs.declared.Given.{Given}
use Rattle.still.specs.Answered.{Answers}
use Rattle.still.specs.Fits.{still_c, still_nu, still_one_class}
use Rattle.still.proofs.Fitted.{ByLabel, fitted_still_law}
use Rattle.std.specs.Prelude.{Ok}
use Rattle.judge.specs.declared.Refusal.TheVariants.{Label}

one_above : lt Weight.zero one ≡ true
unfolding lt of_bits
one_above = refl

either_one : (t : Bool) → ceilings_of one one t ≡ one
either_one true = refl
either_one false = refl

one_or_zero : (a : ℕ) → a ≤ 1 → (a ≡ 1) ⊎ (a ≡ 0)
one_or_zero zero h = inr refl
one_or_zero (suc zero) h = inl refl
one_or_zero (suc (suc a)) h = let z : ⊥ = omega arith in absurd z

two_labels : (kind : Kind) (l : List ℕ) (n : ℕ) → kind ≡ TwoClass → first Label (label_good l) n 0 ≡ Ok tt → (k : ℕ) → k < n → Labelled kind (get_or l k 0)
two_labels kind l n e h k K = rw e (one_or_zero (get_or l k 0) (label_within l k (first_fine Label (label_good l) n 0 h k (omega arith) (omega arith))))

-- ---- what each fit lends, by label

module _ (g : Given) (most : g.n ≤ 512) where
  module _ (l : List ℕ) (two : g.kind ≡ TwoClass) (labels : first Label (label_good l) g.n 0 ≡ Ok tt) where
    pub c_lent : (cpos cneg : Float) → is_ceiling cpos ≡ true → is_ceiling cneg ≡ true
        → ByLabel g l (costs_to cpos cneg l nothing g.n) (evenly minus_one g.n) (ceilings_of cpos cneg) (λ k. minus_one)
    c_lent cpos cneg up un = record {
      labels = two_labels g.kind l g.n two labels;
      ceilings = λ k K. cost_at g.n k most K cpos cneg l;
      above = above;
      terms = λ k K. evenly_at g.n k most K minus_one;
      steady = λ k K. steady_minus_one;
    }
      where
        above : (t : Bool) → lt Weight.zero (cond t cpos cneg) ≡ true
        above true = (holds _).0 (cost_within cpos up).0
        above false = (holds _).0 (cost_within cneg un).0

    pub nu_lent : ByLabel g l (evenly one g.n) nothing (ceilings_of one one) (λ k. Weight.zero)
    nu_lent = record {
      labels = two_labels g.kind l g.n two labels;
      ceilings = λ k K. evenly_at g.n k most K one ∙ sym (either_one (positive_in l k));
      above = λ t. rw (either_one t) one_above;
      terms = λ k K. nothing_at g.n k most K;
      steady = λ k K. steady_zero;
    }

  pub one_class_lent : g.kind ≡ OneClass → ByLabel g (all_positive g.n) (evenly one g.n) nothing (ceilings_of one one) (λ k. Weight.zero)
  one_class_lent single = record {
    labels = λ k K. rw single (positive_at g.n k most K);
    ceilings = λ k K. evenly_at g.n k most K one ∙ sym (either_one (positive_in (all_positive g.n) k));
    above = λ t. rw (either_one t) one_above;
    terms = λ k K. nothing_at g.n k most K;
    steady = λ k K. steady_zero;
  }

-- ---- what each fit answers

module _ (g : Given) (m : List ℕ) (budget : ℕ) (d : Lent) (f : List Float) (off : g.shrinking ≡ false) (square : g.side ≡ g.n) (most : g.n ≤ 512)
    (lf : 7 * g.n ≤ length d.floats) (lu : 2 * g.n ≤ length d.numbers) (ly : g.n ≤ length d.bytes) (room : sized g.nu g.n ≤ length f) where
  module _ (l : List ℕ) (two : g.kind ≡ TwoClass) (labels : first Label (label_good l) g.n 0 ≡ Ok tt) where
    pub c_still : (cpos cneg : Float) → is_ceiling cpos ≡ true → is_ceiling cneg ≡ true
        → Answers (fitted g Signed m l (costs_to cpos cneg l nothing g.n) nothing (evenly minus_one g.n) budget d) (still_c g m l cpos cneg budget f) d
    c_still cpos cneg up un =
        fitted_still_law g Signed m l (costs_to cpos cneg l nothing g.n) nothing (evenly minus_one g.n) (ceilings_of cpos cneg) (λ k. minus_one) budget d f off square (c_lent g most l two labels cpos cneg up un) lf lu ly room

    pub nu_still : (nu : Float)
        → Answers (fitted g Scaled m l (evenly one g.n) (shared_to (half nu g.n) l nothing g.n) nothing budget d) (still_nu g m l nu budget f) d
    nu_still nu = fitted_still_law g Scaled m l (evenly one g.n) (shared_to (half nu g.n) l nothing g.n) nothing (ceilings_of one one) (λ k. Weight.zero) budget d f off square (nu_lent g most l two labels) lf lu ly room

  pub one_class_still : (single : g.kind ≡ OneClass) (nu : Float)
      → Answers (fitted g Plain m (all_positive g.n) (evenly one g.n) (one_class_to nu g.n nothing g.n) nothing budget d) (still_one_class g m nu budget f) d
  one_class_still single nu =
      fitted_still_law g Plain m (all_positive g.n) (evenly one g.n) (one_class_to nu g.n nothing g.n) nothing (ceilings_of one one) (λ k. Weight.zero) budget d f off square (one_class_lent g most single) lf lu ly room
