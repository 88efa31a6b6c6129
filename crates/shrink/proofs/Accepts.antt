-- A walk that ends at the current count is never refused. Assumes nothing.
use Prim.Native.Nat.{ℕ, zero, suc}
use mathlib.Core.Bool.{Bool, true, false, cond, true≢false}
use mathlib.Core.Path.{◌≡◌, refl, sym, ◌∙◌}
use native.Mathlib.Omega.{arith}
use borrow.Author.Tests.{le-leb}
use lib.Dec.{leb}
use Rattle.shrink.specs.Walk.{Walking, exchanged, dropped, visited, walked}

module _ {S : Type 0} (drops : S → ℕ → Bool) (swap : S → ℕ → ℕ → S) where
  -- below the current count there is one to fall from
  visited_accepts : (i : ℕ) (w : Walking S) → w.refused ≡ false → (visited true drops swap i w).refused ≡ false
  unfolding visited dropped exchanged
  visited_accepts i w h = go w.refused h (leb w.active i) refl (drops w.state i)
    where
      some : (a : ℕ) → leb a i ≡ false → (dropped drops swap w.state i a).refused ≡ false
      some zero e = absurd (true≢false (sym (le-leb zero i (omega arith)) ∙ e))
      some (suc a) e = refl

      go : (r : Bool) → r ≡ false → (x : Bool) → leb w.active i ≡ x → (c : Bool)
          → (cond r w (cond x w (cond c (dropped drops swap w.state i w.active) w))).refused ≡ false
      go true q x e c = absurd (true≢false q)
      go false q true e c = h
      go false q false e true = some w.active e
      go false q false e false = h

  pub walked_accepts : (a : ℕ) (s : S) (m : ℕ) → (walked true drops swap a s m).refused ≡ false
  unfolding walked
  walked_accepts a s zero = refl
  walked_accepts a s (suc i) = visited_accepts i (walked true drops swap a s i) (walked_accepts a s i)
