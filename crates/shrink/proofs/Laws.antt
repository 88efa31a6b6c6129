-- The walk by its tests. Assumes nothing.
use Prim.Native.Nat.{ℕ, zero, suc, ◌-◌, ◌≤◌, ◌<◌}
use mathlib.Core.Bool.{Bool, true, false, cond, ◌&&◌}
use mathlib.Core.Logic.{inl, inr}
use mathlib.Core.Path.{◌≡◌, refl}
use native.Mathlib.Nat.{eq-or-lt_of_le, le_of_suc-le-suc}
use native.Mathlib.Omega.{arith}
use borrow.Author.Tests.{lt-ltb, le-ltb}
use lib.Dec.{leb}
use Rattle.shrink.specs.Walk.{walking, count_fallen, exchanged, dropped, visited, walked}

module _ {S : Type 0} (swap : S → ℕ → ℕ → S) (s : S) (i a : ℕ) where
  pub exchanged_far : i < a → walking a false (swap s i a) ≡ exchanged swap s i a
  unfolding exchanged
  exchanged_far h = rw (lt-ltb i a h)

  pub exchanged_near : a ≤ i → walking a false s ≡ exchanged swap s i a
  unfolding exchanged
  exchanged_near h = rw (le-ltb i a h)

module _ {S : Type 0} (drops : S → ℕ → Bool) (s : S) (i : ℕ) where
  pub fallen_kept : (a : ℕ) → i < a → drops s a ≡ false → a ≡ count_fallen drops s i a
  unfolding count_fallen
  fallen_kept zero h k = refl
  fallen_kept (suc a) h k = rw (lt-ltb i (suc a) h, k)

  pub fallen_dropped : (a : ℕ) → i < a → drops s a ≡ true → count_fallen drops s i a ≡ count_fallen drops s i (a - 1)
  unfolding count_fallen
  fallen_dropped zero h k = let z : ⊥ = omega arith in absurd z
  fallen_dropped (suc a) h k = let e : suc a - 1 ≡ a = omega arith in rw (lt-ltb i (suc a) h, k, e)

  pub fallen_end : (a : ℕ) → a ≤ i → a ≡ count_fallen drops s i a
  unfolding count_fallen
  fallen_end zero h = refl
  fallen_end (suc a) h = rw (le-ltb i (suc a) h)

  module _ (swap : S → ℕ → ℕ → S) (ends : Bool) where
    pub visited_refused : (a : ℕ) → walking a true s ≡ visited ends drops swap i (walking a true s)
    unfolding visited
    visited_refused a = refl

    pub visited_past : (a : ℕ) (r : Bool) → (ends && leb a i) ≡ true → walking a r s ≡ visited ends drops swap i (walking a r s)
    unfolding visited
    visited_past a true h = refl
    visited_past a false h = rw h

    pub visited_kept : (a : ℕ) (r : Bool) → drops s i ≡ false → walking a r s ≡ visited ends drops swap i (walking a r s)
    unfolding visited
    visited_kept a true h = refl
    visited_kept a false h = go (ends && leb a i)
      where
        go : (x : Bool) → walking a false s ≡ cond x (walking a false s) (cond (drops s i) (dropped drops swap s i a) (walking a false s))
        go true = refl
        go false = rw h

    pub visited_none : (a : ℕ) → (ends && leb a i) ≡ false → a ≡ 0 → drops s i ≡ true → walking 0 true s ≡ visited ends drops swap i (walking a false s)
    unfolding visited dropped
    visited_none zero p e h = rw (p, h)
    visited_none (suc a) p e h = let z : ⊥ = omega arith in absurd z

    pub visited_some : (a : ℕ) → (ends && leb a i) ≡ false → (a ≡ 0 → ⊥) → drops s i ≡ true
        → exchanged swap s i (count_fallen drops s i (a - 1)) ≡ visited ends drops swap i (walking a false s)
    unfolding visited dropped
    visited_some zero p e h = absurd (e refl)
    visited_some (suc a) p e h = let q : suc a - 1 ≡ a = omega arith in rw (p, h, q)

module _ {S : Type 0} (ends : Bool) (drops : S → ℕ → Bool) (swap : S → ℕ → ℕ → S) (a : ℕ) (s : S) where
  -- a refused walk stays as it is
  pub walked_refused : (m k : ℕ) → m ≤ k → (walked ends drops swap a s m).refused ≡ true → walked ends drops swap a s k ≡ walked ends drops swap a s m
  unfolding walked visited
  walked_refused m zero l h = let e : m ≡ 0 = omega arith in rw e
  walked_refused m (suc k) l h = elim (eq-or-lt_of_le l) [
    | inl e ↦ rw e
    | inr q ↦ rw (walked_refused m k (le_of_suc-le-suc q) h, h)
  ]
