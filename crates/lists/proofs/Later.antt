-- A list that is written place after place: what lies behind stays. Assumes nothing.
use Prim.Native.Nat.{ℕ, zero, suc, ◌≤◌}
use mathlib.Core.List.{List}
use mathlib.Core.Path.{◌≡◌, refl, ◌∙◌}
use native.Mathlib.Omega.{arith}
use lib.ListN.{length, get_or, set}
use lib.Seq.{get_or-set_other}
use Rattle.lists.specs.Filled.{filled_to}
use Rattle.lists.proofs.Prefix.{prefix_length}

module _ {A : Type 0} (d : A) (to : ℕ → List A) (v : ℕ → A) (step : (k : ℕ) → to (suc k) ≡ set (to k) k (v k)) where
  pub prefix_later : (k j : ℕ) → k ≤ j → get_or (to k) j d ≡ get_or (to 0) j d
  prefix_later zero j h = refl
  prefix_later (suc k) j h = rw (step k) (get_or-set_other (to k) k j (v k) d (λ (e : j ≡ k). omega arith) ∙ prefix_later k j (omega arith))

module _ {A : Type 0} (d x : A) (t : List A) (k : ℕ) where
  pub length_filled : length (filled_to x t k) ≡ length t
  unfolding filled_to
  length_filled = prefix_length d (filled_to x t) (λ k. x) (λ k. refl) k

  pub filled_later : (j : ℕ) → k ≤ j → get_or (filled_to x t k) j d ≡ get_or t j d
  unfolding filled_to
  filled_later = prefix_later d (filled_to x t) (λ k. x) (λ k. refl) k
