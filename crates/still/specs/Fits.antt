-- The three fits without an order table: what each starts from is what the rule's fit starts from.
use Rattle.std.specs.Prelude.{ℕ, List, Float}
use Rattle.alpha.specs.Weight as Weight
use Rattle.alpha.specs.Weight.{one, minus_one}
use Rattle.answer.specs.declared.Finish.TheVariants.{Plain, Signed, Scaled}
use Rattle.fits.specs.Starts.{nothing, all_positive, half, shared_to, one_class_to}
use Rattle.orderless.specs.Sheet.{ceilings_of}
use Rattle.solver.specs.declared.Given.{Given}
use Rattle.still.specs.Answered.{Reply, fitted_still}

-- m is the matrix; f is the lent scratch, h the result list
module _ (g : Given) (m : List ℕ) where
  abbrev pub still_c : List ℕ → Float → Float → ℕ → List Float → List Float → Reply
  still_c l cpos cneg = fitted_still g Signed m l (ceilings_of cpos cneg) (λ k. minus_one) nothing

  abbrev pub still_nu : List ℕ → Float → ℕ → List Float → List Float → Reply
  still_nu l nu = fitted_still g Scaled m l (ceilings_of one one) (λ k. Weight.zero) (shared_to (half nu g.n) l nothing g.n)

  abbrev pub still_one_class : Float → ℕ → List Float → List Float → Reply
  still_one_class nu = fitted_still g Plain m (all_positive g.n) (ceilings_of one one) (λ k. Weight.zero) (one_class_to nu g.n nothing g.n)
