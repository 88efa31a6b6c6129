-- What the entries lend: labels 1 and 0, or 1 alone without classes; every position its own sample. And the linear terms, -1 and +0. Assumes nothing.
use Prim.Native.Nat.{ℕ, ◌<◌}
use mathlib.Core.Bool.{Bool, true, beq}
use mathlib.Core.List.{List}
use mathlib.Core.Logic.{◌⊎◌, inl, inr}
use mathlib.Core.Path.{◌≡◌, refl, ap₂}
use lib.Dec.{eqb}
use lib.Ieee.{Float, of_bits, neg, lt, fits}
use lib.ListN.{get_or}
use Rattle.alpha.specs.Weight as Weight
use Rattle.alpha.specs.Weight.{minus_one}
use Rattle.kernel.specs.Matrix.{entry_at}
use Rattle.kernel.specs.Row.{kernel_index, alike_of, signed_of, row_at}
use Rattle.kernel.specs.declared.Kind.{Kind}
use Rattle.kernel.specs.declared.Kind.TheVariants.{TwoClass, OneClass}
use Rattle.rho.specs.Rho.{positive_in}
use Rattle.solver.specs.declared.Given.{Given}
use Rattle.state.specs.Fields.{bound}
use Rattle.orderless.specs.Plain.{plain}
use Rattle.orderless.proofs.Plain.{Steady}
use Rattle.orderless.proofs.Relation.{Lent}

-- a label of a problem with two classes, and of one without
abbrev pub Labelled : Kind → ℕ → Type 0
Labelled TwoClass a = (a ≡ 1) ⊎ (a ≡ 0)
Labelled OneClass a = a ≡ 1

labels_agree : (kind : Kind) (a c : ℕ) → Labelled kind a → Labelled kind c → (eqb a c ≡ beq (eqb a 1) (eqb c 1)) × (alike_of kind a c ≡ beq (eqb a 1) (eqb c 1))
labels_agree TwoClass a c (inl h) (inl k) = rw (h, k) (refl, refl)
labels_agree TwoClass a c (inl h) (inr k) = rw (h, k) (refl, refl)
labels_agree TwoClass a c (inr h) (inl k) = rw (h, k) (refl, refl)
labels_agree TwoClass a c (inr h) (inr k) = rw (h, k) (refl, refl)
labels_agree OneClass a c h k = rw (h, k) (refl, refl)

module _ (g : Given) (m u y : List ℕ) (top : Bool → Float) (b : List Float) where
  pub lent : ((k : ℕ) → k < g.n → kernel_index g.n u k ≡ k) → ((k : ℕ) → k < g.n → Labelled g.kind (get_or y k 0))
      → ((k : ℕ) → k < g.n → bound b k ≡ top (positive_in y k)) → ((t : Bool) → lt Weight.zero (top t) ≡ true) → Lent g m u y top b
  unfolding row_at
  lent index label bounds above = record {
    index = index;
    rows = λ i k I K.
        ap₂ signed_of (labels_agree g.kind (get_or y i 0) (get_or y k 0) (label i I) (label k K)).1
        (ap₂ (entry_at g.side m) (index i I) (index k K));
    labels = λ i k I K. (labels_agree g.kind (get_or y i 0) (get_or y k 0) (label i I) (label k K)).0;
    bounds = bounds;
    above = above;
  }

pub steady_zero : Steady Weight.zero
unfolding of_bits fits plain
steady_zero = record { fit = tt; same = refl }

pub steady_minus_one : Steady minus_one
unfolding of_bits neg fits plain
steady_minus_one = record { fit = tt; same = refl }
