-- A walk keeps a state ready. Assumes nothing.
use Prim.Native.Nat.{ℕ, ◌≤◌}
use mathlib.Core.Bool.{Bool}
use Rattle.state.specs.Lists.{Problem, State, Ready}
use Rattle.state.specs.Moving.{moved}
use Rattle.state.proofs.Kept.{ready_moved}
use Rattle.shrink.specs.Walk.{walked}
use Rattle.shrink.proofs.Walks.{Walks, walks}

pub ready_walked : (p : Problem) (ends : Bool) (drops : State → ℕ → Bool) (a : ℕ) → a ≤ p.n → (s : State) (m : ℕ) → m ≤ p.n → Ready p s
    → Walks (Ready p) a (walked ends drops (moved p.n) a s m)
ready_walked p ends drops a h = walks p.n (Ready p) (moved p.n) (λ s i j x y r. ready_moved r i j x y) ends drops a h
