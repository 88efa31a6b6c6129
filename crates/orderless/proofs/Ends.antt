-- Side by side, the two trainings have the same rho, companion and objective. Assumes no_share.
use Prim.Native.Nat.{ℕ, zero, suc, ◌+◌, ◌*◌, ◌≤◌, ◌<◌}
use mathlib.Core.Bool.{Bool, true, false}
use mathlib.Core.List.{List}
use mathlib.Core.Path.{◌≡◌, refl, ap, ap₂}
use native.Mathlib.Omega.{arith}
use lib.Ieee.{Float, nan, binary64, of_bits, div}
use lib.ListN.{get_or}
use Rattle.alpha.specs.Weight.{two}
use Rattle.alpha.specs.declared.Alpha.{Alpha}
use Rattle.modes.specs.Modes.{repaired}
use Rattle.rho.specs.Rho.{middle, level_of, share_c, share_nu, level_by}
use Rattle.rho.specs.declared.Share.{Share}
use Rattle.solver.specs.End.{sum_to, objective_of}
use Rattle.solver.specs.declared.Given.{Given}
use Rattle.state.specs.Fields.{alpha_in}
use Rattle.orderless.specs.End.{share_c_of, share_nu_of, level_for, sum_of, level_in, objective_in}
use Rattle.orderless.specs.Sheet.{Sheet, alpha_of}
use Rattle.orderless.specs.Step.{slope}
use Rattle.orderless.proofs.Relation.{Lent, Mirrors}
use Rattle.orderless.proofs.Stepped.{alpha_is, slope_is}

module _ (n : ℕ) (f : List Float) (y : List ℕ) (w : ℕ → Alpha) (v : ℕ → Float)
    (weights : (k : ℕ) → k < n → alpha_in n f k ≡ w k) (slopes : (k : ℕ) → k < n → get_or f k nan ≡ v k) where
  share_c_law : (a : ℕ) → a ≤ n → share_c n f y a ≡ share_c_of y w v a
  unfolding share_c share_c_of
  share_c_law zero l = refl
  share_c_law (suc a) l = rw (weights a (omega arith), slopes a (omega arith), share_c_law a (omega arith))

  share_nu_law : (r : Bool) (label a : ℕ) → a ≤ n → share_nu r n f y label a ≡ share_nu_of y w v r label a
  unfolding share_nu share_nu_of
  share_nu_law r label zero l = refl
  share_nu_law r label (suc a) l = rw (weights a (omega arith), slopes a (omega arith), share_nu_law r label a (omega arith))

  level_same : (nu x : Bool) → level_by nu x n f y n ≡ level_for y w v nu x n
  unfolding level_by level_for
  level_same true x = ap₂ (λ (a b : Share). level_of (middle a) (middle b)) (share_nu_law x 1 n (omega arith)) (share_nu_law x 0 n (omega arith))
  level_same false x = ap (λ (a : Share). record { rho = middle a; r = of_bits binary64 0 }) (share_c_law n (omega arith))

  sum_same : (x term : ℕ → Float) → ((k : ℕ) → k < n → get_or f (2 * n + k) nan ≡ x k) → ((k : ℕ) → k < n → get_or f (4 * n + k) nan ≡ term k)
      → (a : ℕ) → a ≤ n → sum_to n f a ≡ sum_of x v term a
  unfolding sum_to sum_of
  sum_same x term X T zero l = refl
  sum_same x term X T (suc a) l = rw (X a (omega arith), T a (omega arith), slopes a (omega arith), sum_same x term X T a (omega arith))

module _ (g : Given) (m u y : List ℕ) (top : Bool → Float) (b : List Float) (C : Lent g m u y top b) (term : ℕ → Float) (f : List Float) (o : Sheet) (M : Mirrors g m u y top term f o) where
  pub level_is : level_by g.nu (repaired g.mode) g.n f y g.n ≡ level_in g m y top o
  level_is = level_same g.n f y (alpha_of y top o) (slope g m y top o) (alpha_is g m u y top b C term f o M) (slope_is g m u y top b C term f o M) g.nu (repaired g.mode)

  pub objective_is : objective_of g.n f ≡ objective_in g m y top o term
  objective_is =
      ap (λ (x : Float). div binary64 x two)
      (sum_same g.n f y (alpha_of y top o) (slope g m y top o) (alpha_is g m u y top b C term f o M) (slope_is g m u y top b C term f o M) o.weights term M.weights M.terms g.n (omega arith))
