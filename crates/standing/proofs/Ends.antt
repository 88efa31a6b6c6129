-- States that are alike over what stands have one rho, one r and one obj. Assumes nothing.
use Prim.Native.Nat.{ℕ, zero, suc, ◌+◌, ◌*◌, ◌<◌, ◌≤◌}
use mathlib.Core.Bool.{Bool, true, false, ◌&&◌, cond}
use mathlib.Core.List.{List}
use mathlib.Core.Path.{◌≡◌, refl, ap, ap₂}
use native.Mathlib.Omega.{arith}
use lib.Dec.{eqb}
use lib.Ieee.{Float, nan, binary64, of_bits, add, mul, div}
use lib.ListN.{get_or}
use Rattle.alpha.specs.Weight.{two}
use Rattle.alpha.specs.declared.Alpha.{Alpha}
use Rattle.kernel.specs.declared.Kind.{Kind}
use Rattle.rho.specs.Rho.{share_with_c, joined_nu, positive_in, signed, middle, level_of}
use Rattle.rho.specs.declared.Share.{Share}
use Rattle.state.specs.Fields.{alpha_in}
use Rattle.state.specs.Lists.{problem, State}
use Rattle.standing.proofs.Alike.{Alike}
use Rattle.standing.specs.End.{share_c_over, share_nu_over, level_over, sum_over, objective_over}
use Rattle.standing.proofs.Choices.{alpha_same}

module _ (stands : ℕ → Bool) (n side : ℕ) (kind : Kind) (m m' : List ℕ) (s t : State)
    (A : Alike stands (problem n side kind m) (problem n side kind m') s t) where
  alpha_is : (k : ℕ) → k < n → stands k ≡ true → alpha_in n s.floats k ≡ alpha_in n t.floats k
  alpha_is = alpha_same stands (problem n side kind m) (problem n side kind m') s t A

  weighed_by : (y y' : ℕ) (w w' : Alpha) (g g' : Float) (e e' : Share) → y ≡ y' → w ≡ w' → g ≡ g' → e ≡ e'
      → share_with_c (eqb y 1) w (signed (eqb y 1) g) e ≡ share_with_c (eqb y' 1) w' (signed (eqb y' 1) g') e'
  weighed_by y y' w w' g g' e e' q1 q2 q3 q4 = rw (q1, q2, q3, q4)

  share_c_alike : (a : ℕ) → a ≤ n → share_c_over stands n s.floats s.labels a ≡ share_c_over stands n t.floats t.labels a
  unfolding share_c_over
  share_c_alike zero l = refl
  share_c_alike (suc a) l = go (stands a) refl (share_c_alike a (omega arith))
    where
      go : (x : Bool) → stands a ≡ x → share_c_over stands n s.floats s.labels a ≡ share_c_over stands n t.floats t.labels a
          → cond x
          (share_with_c (positive_in s.labels a) (alpha_in n s.floats a) (signed (positive_in s.labels a) (get_or s.floats a nan)) (share_c_over stands n s.floats s.labels a))
          (share_c_over stands n s.floats s.labels a)
          ≡ cond x
          (share_with_c (positive_in t.labels a) (alpha_in n t.floats a) (signed (positive_in t.labels a) (get_or t.floats a nan)) (share_c_over stands n t.floats t.labels a))
          (share_c_over stands n t.floats t.labels a)
      go true h z = weighed_by _ _ _ _ _ _ _ _ (A.labels a (omega arith) h) (alpha_is a (omega arith) h) (A.gradients a (omega arith) h) z
      go false h z = z

  share_nu_alike : (r : Bool) (label a : ℕ) → a ≤ n → share_nu_over stands n s.floats s.labels r label a ≡ share_nu_over stands n t.floats t.labels r label a
  unfolding share_nu_over joined_nu
  share_nu_alike r label zero l = refl
  share_nu_alike r label (suc a) l = go (stands a) refl (share_nu_alike r label a (omega arith))
    where
      go : (x : Bool) → stands a ≡ x → share_nu_over stands n s.floats s.labels r label a ≡ share_nu_over stands n t.floats t.labels r label a
          → joined_nu r (x && eqb (get_or s.labels a 0) label) (alpha_in n s.floats a) (get_or s.floats a nan) (share_nu_over stands n s.floats s.labels r label a)
          ≡ joined_nu r (x && eqb (get_or t.labels a 0) label) (alpha_in n t.floats a) (get_or t.floats a nan) (share_nu_over stands n t.floats t.labels r label a)
      go true h z = rw (A.labels a (omega arith) h, alpha_is a (omega arith) h, A.gradients a (omega arith) h, z)
      go false h z = z

  pub level_alike : (nu x : Bool) → level_over stands n s.floats s.labels nu x ≡ level_over stands n t.floats t.labels nu x
  unfolding level_over
  level_alike true r = ap₂ (λ (x y : Share). level_of (middle x) (middle y)) (share_nu_alike r 1 n (omega arith)) (share_nu_alike r 0 n (omega arith))
  level_alike false r = ap (λ (x : Share). record { rho = middle x; r = of_bits binary64 0 }) (share_c_alike n (omega arith))

  sum_alike : (a : ℕ) → a ≤ n → sum_over stands n s.floats a ≡ sum_over stands n t.floats a
  unfolding sum_over
  sum_alike zero l = refl
  sum_alike (suc a) l = go (stands a) refl (sum_alike a (omega arith))
    where
      one : List Float → ℕ → Float
      one f k = mul binary64 (get_or f (2 * n + k) nan) (add binary64 (get_or f k nan) (get_or f (4 * n + k) nan))

      go : (x : Bool) → stands a ≡ x → sum_over stands n s.floats a ≡ sum_over stands n t.floats a
          → cond x (add binary64 (sum_over stands n s.floats a) (mul binary64 (get_or s.floats (2 * n + a) nan) (add binary64 (get_or s.floats a nan) (get_or s.floats (4 * n + a) nan)))) (sum_over stands n s.floats a)
          ≡ cond x (add binary64 (sum_over stands n t.floats a) (mul binary64 (get_or t.floats (2 * n + a) nan) (add binary64 (get_or t.floats a nan) (get_or t.floats (4 * n + a) nan)))) (sum_over stands n t.floats a)
      go true h z = rw (z, A.weights a (omega arith), A.gradients a (omega arith) h, A.terms a (omega arith) h)
      go false h z = z

  pub objective_alike : objective_over stands n s.floats ≡ objective_over stands n t.floats
  unfolding objective_over
  objective_alike = ap (λ (x : Float). div binary64 x two) (sum_alike n (omega arith))
