-- A loop from a on that has come to k: its next place. Assumes nothing.
use Prim.Native.Nat.{ℕ, suc, ◌+◌, ◌-◌, ◌*◌, ◌≤◌}
use mathlib.Core.Bool.{Bool}
use mathlib.Core.List.{List}
use mathlib.Core.Path.{◌≡◌}
use native.Mathlib.Omega.{arith}
use lib.Ieee.{Float, nan, binary64, add}
use lib.ListN.{get_or, set}
use Rattle.state.specs.Lists.{Problem, State, over}
use Rattle.reconstruct.specs.Reconstruct.{fresh_to, outer_at, outer_to}

fresh_at : (n a : ℕ) (f : List Float) (d k : ℕ) → k ≡ a + d → let g = fresh_to n a f d in
    set g k (add binary64 (get_or g (n + k) nan) (get_or g (4 * n + k) nan)) ≡ fresh_to n a f (suc d)
unfolding fresh_to
fresh_at n a f d k e = rw e

pub fresh_next : (n a : ℕ) (f : List Float) (k : ℕ) → a ≤ k → let g = fresh_to n a f (k - a) in
    set g k (add binary64 (get_or g (n + k) nan) (get_or g (4 * n + k) nan)) ≡ fresh_to n a f (k + 1 - a)
fresh_next n a f k l =
    let d : k + 1 - a ≡ suc (k - a) = omega arith in
    rw d (fresh_at n a f (k - a) k (omega arith))

outer_after : (p : Problem) (inner : Bool) (a : ℕ) (s : State) (d i : ℕ) → i ≡ a + d
    → outer_at p inner (over s (outer_to p inner a s d)) a i ≡ outer_to p inner a s (suc d)
unfolding outer_to
outer_after p inner a s d i e = rw e

pub outer_next : (p : Problem) (inner : Bool) (a : ℕ) (s : State) (i : ℕ) → a ≤ i
    → outer_at p inner (over s (outer_to p inner a s (i - a))) a i ≡ outer_to p inner a s (i + 1 - a)
outer_next p inner a s i l =
    let d : i + 1 - a ≡ suc (i - a) = omega arith in
    rw d (outer_after p inner a s (i - a) i (omega arith))
