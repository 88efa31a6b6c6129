-- What stands at each sample's place of the lists that a fit starts from. Assumes nothing.
use Prim.Native.Nat.{ℕ, ◌≤◌, ◌<◌}
use mathlib.Core.List.{List}
use mathlib.Core.Path.{◌≡◌, refl}
use native.Mathlib.Omega.{arith}
use lib.Ieee.{Float, nan}
use lib.ListN.{get_or, replicate, length-replicate, get_or-replicate}
use Rattle.alpha.specs.Weight as Weight
use Rattle.lists.proofs.Prefix.{prefix_at, filled_at}
use Rattle.fits.specs.Starts.{nothing, evenly, all_positive, cost_of, costs_to}

module _ (n i : ℕ) (most : n ≤ 512) (inside : i < n) where
  pub nothing_at : get_or nothing i nan ≡ Weight.zero
  nothing_at = get_or-replicate 512 i Weight.zero nan (omega (arith, most))

  pub evenly_at : (x : Float) → get_or (evenly x n) i nan ≡ x
  evenly_at x = filled_at nan x nothing n i (rw (length-replicate 512 Weight.zero) most) inside

  pub positive_at : get_or (all_positive n) i 0 ≡ 1
  positive_at = filled_at {A = ℕ} 0 1 (replicate 512 0) n i (rw (length-replicate {A = ℕ} 512 0) most) inside

  pub cost_at : (cpos cneg : Float) (l : List ℕ) → get_or (costs_to cpos cneg l nothing n) i nan ≡ cost_of cpos cneg (get_or l i 0)
  unfolding costs_to
  cost_at cpos cneg l =
      prefix_at nan (costs_to cpos cneg l nothing) (λ k. cost_of cpos cneg (get_or l k 0)) (λ k. refl) n i (rw (length-replicate 512 Weight.zero) most) inside
