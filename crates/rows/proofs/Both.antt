-- A row's multiples for two fields, added place by place, are the two added one after the other. Assumes nothing.
use Prim.Native.Nat.{ℕ, zero, suc, ◌+◌, ◌<◌}
use mathlib.Core.List.{List}
use mathlib.Core.Path.{◌≡◌, refl, sym, subst}
use native.Mathlib.Nat.{zero-add}
use native.Mathlib.Omega.{arith}
use lib.Ieee.{Float, nan, binary64, add, mul}
use lib.ListN.{get_or, set}
use lib.Seq.{get_or-set_other, set_comm}
use Rattle.rows.specs.Added.{row_added}
use Rattle.rows.proofs.Filled.{row_added_other}
use Rattle.state.specs.Lists.{Problem, State, state}
use Rattle.state.specs.Fields.{row}

module _ (p : Problem) (s : State) (base : ℕ) (x : Float) (i lo : ℕ) (q : ℕ) (v : Float) where
  -- a place outside is stored before or after
  row_added_set : (k : ℕ) → ((h : ℕ) → h < k → q ≡ base + (lo + h) → ⊥)
      → row_added p (state (set s.floats q v) s.numbers s.labels) base x i lo k ≡ set (row_added p s base x i lo k) q v
  unfolding row_added
  row_added_set zero out = refl
  row_added_set (suc k) out =
      let g = row_added p s base x i lo k in
      let at = base + (lo + k) in
      rw (row_added_set k (λ h l. out h (omega arith)), get_or-set_other g q at v nan (λ e. out k (omega arith) (sym e)))
      (set_comm g q at v _ (out k (omega arith)))

module _ (p : Problem) (s : State) (x z : Float) (i : ℕ) where
  -- the first positions of the gradient, then those of the fixed gradient
  abbrev pub both : ℕ → List Float
  both k = row_added p (state (row_added p s 0 x i 0 k) s.numbers s.labels) p.n z i 0 k

  -- the sums by which a place is named are the place
  placed : (a b k : ℕ) → a ≡ k → b ≡ k → let g = row_added p s 0 x i 0 k in
      set g a (add binary64 (get_or g a nan) (mul binary64 x (row p s i b))) ≡ set g k (add binary64 (get_or g k nan) (mul binary64 x (row p s i k)))
  placed a b k d e = rw (d, e)

  pub both_more : (k : ℕ) → k < p.n → let r = row p s i k in let f = set (both k) k (add binary64 (get_or (both k) k nan) (mul binary64 x r)) in
      set f (p.n + k) (add binary64 (get_or f (p.n + k) nan) (mul binary64 z r)) ≡ both (suc k)
  unfolding row_added
  both_more k l =
      rw (get_or-set_other (both k) k (p.n + k) _ nan (λ e. omega arith)) (subst
      (λ (g : List Float). set (set (both k) k (add binary64 (get_or (both k) k nan) (mul binary64 x (row p s i k)))) (p.n + k) (add binary64 (get_or (both k) (p.n + k) nan) (mul binary64 z (row p s i k)))
      ≡ row_added p (state g s.numbers s.labels) p.n z i 0 (suc k))
      (sym (placed (0 + (0 + k)) (0 + k) k (omega arith) (omega arith)))
      (let t = state (row_added p s 0 x i 0 k) s.numbers s.labels in
      let v = add binary64 (get_or (row_added p s 0 x i 0 k) k nan) (mul binary64 x (row p s i k)) in
      rw (zero-add, row_added_set p t p.n z i 0 k v k (λ h g e. omega arith), row_added_other p t p.n z i 0 k k (λ h g e. omega arith), get_or-set_other (row_added p t p.n z i 0 k) k (p.n + k) v nan (λ e. omega arith))))
