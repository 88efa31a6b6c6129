-- A list that is written place after place: what stands where. Assumes nothing.
use Prim.Native.Nat.{ℕ, zero, suc, ◌≤◌, ◌<◌}
use mathlib.Core.List.{List}
use mathlib.Core.Path.{◌≡◌, refl, ◌∙◌}
use native.Mathlib.Decide.{ℕ_discrete}
use native.Mathlib.Omega.{arith}
use lib.ListN.{length, get_or, set, length-set}
use lib.Seq.{get_or-set_same, get_or-set_other}
use Rattle.lists.specs.Filled.{filled_to}

-- to k is the list after the first k places: each step writes place k with v k
module _ {A : Type 0} (d : A) (to : ℕ → List A) (v : ℕ → A) (step : (k : ℕ) → to (suc k) ≡ set (to k) k (v k)) where
  pub prefix_length : (k : ℕ) → length (to k) ≡ length (to 0)
  prefix_length zero = refl
  prefix_length (suc k) = rw (step k) (length-set (to k) k (v k) ∙ prefix_length k)

  pub prefix_at : (k j : ℕ) → k ≤ length (to 0) → j < k → get_or (to k) j d ≡ v j
  prefix_at zero j b h = absurd (omega arith)
  prefix_at (suc k) j b h = rw (step k) (go (prefix_at k j (omega arith)) (ℕ_discrete j k))
    where
      go : (j < k → get_or (to k) j d ≡ v j) → Dec (j ≡ k) → get_or (set (to k) k (v k)) j d ≡ v j
      go before (yes e) = rw e (get_or-set_same (to k) k (v k) d (rw (prefix_length k) b))
      go before (no e) = get_or-set_other (to k) k j (v k) d e ∙ before (omega arith)

pub filled_at : {A : Type 0} (d x : A) (t : List A) (k j : ℕ) → k ≤ length t → j < k → get_or (filled_to x t k) j d ≡ x
unfolding filled_to
filled_at d x t = prefix_at d (filled_to x t) (λ k. x) (λ k. refl)
