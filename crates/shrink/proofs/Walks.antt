-- What every exchange keeps, a walk keeps, and its count never rises. Assumes nothing.
use Prim.Native.Nat.{ℕ, zero, suc, ◌≤◌, ◌<◌}
use mathlib.Core.Bool.{Bool, true, false, cond, ◌&&◌}
use native.Mathlib.Omega.{arith}
use lib.Dec.{ltb, leb}
use Rattle.shrink.specs.Walk.{Walking, count_fallen, exchanged, dropped, visited, walked}

fallen_most : {S : Type 0} (drops : S → ℕ → Bool) (s : S) (i a : ℕ) → count_fallen drops s i a ≤ a
unfolding count_fallen
fallen_most drops s i zero = omega arith
fallen_most drops s i (suc a) = go (ltb i (suc a) && drops s (suc a)) (fallen_most drops s i a)
  where
    go : (b : Bool) → count_fallen drops s i a ≤ a → cond b (count_fallen drops s i a) (suc a) ≤ suc a
    go true h = omega arith
    go false h = omega arith

-- kept, with a count of a at the most
pub record Walks {S : Type 0} (P : S → Type 0) (a : ℕ) (w : Walking S) : Type 0 where
  pub kept : P w.state
  pub most : w.active ≤ a

module _ {S : Type 0} (n : ℕ) (P : S → Type 0) (swap : S → ℕ → ℕ → S) (keeps : (s : S) (i j : ℕ) → i < n → j < n → P s → P (swap s i j))
    (ends : Bool) (drops : S → ℕ → Bool) (a : ℕ) (h : a ≤ n) where
  walks_exchanged : (s : S) (i c : ℕ) → P s → i < n → c < n → c ≤ a → Walks P a (exchanged swap s i c)
  unfolding exchanged
  walks_exchanged s i c r l g k = record { kept = go (ltb i c); most = k }
    where
      go : (b : Bool) → P (cond b (swap s i c) s)
      go true = keeps s i c l g r
      go false = r

  walks_dropped : (s : S) (i c : ℕ) → P s → i < n → c ≤ a → Walks P a (dropped drops swap s i c)
  unfolding dropped
  walks_dropped s i zero r l k = record { kept = r; most = omega arith }
  walks_dropped s i (suc c) r l k =
      let m = fallen_most drops s i c in
      walks_exchanged s i (count_fallen drops s i c) r l (omega arith) (omega arith)

  walks_visited : (i : ℕ) (w : Walking S) → i < n → Walks P a w → Walks P a (visited ends drops swap i w)
  unfolding visited
  walks_visited i w l r = go w.refused (ends && leb w.active i) (drops w.state i)
    where
      go : (b e c : Bool) → Walks P a (cond b w (cond e w (cond c (dropped drops swap w.state i w.active) w)))
      go true e c = r
      go false true c = r
      go false false true = walks_dropped w.state i w.active r.kept l r.most
      go false false false = r

  pub walks : (s : S) (m : ℕ) → m ≤ n → P s → Walks P a (walked ends drops swap a s m)
  unfolding walked
  walks s zero l r = record { kept = r; most = omega arith }
  walks s (suc i) l r = walks_visited i (walked ends drops swap a s i) (omega arith) (walks s i (omega arith) r)
