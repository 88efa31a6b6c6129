-- Where all but gradients and fixed gradients stays, the box is kept. Assumes nothing.
use Prim.Native.Nat.{ℕ, ◌+◌, ◌*◌, ◌≤◌, ◌<◌}
use mathlib.Core.Bool.{Bool}
use mathlib.Core.List.{List}
use mathlib.Core.Path.{◌≡◌, ap₂}
use native.Mathlib.Omega.{arith}
use lib.Ieee.{Float}
use Rattle.alpha.specs.Weight.{weight}
use Rattle.reconstruct.specs.Reconstruct.{reconstructed}
use Rattle.state.specs.Fields.{alpha}
use Rattle.state.specs.Lists.{Problem, State, state}
use Rattle.state.proofs.Kept.{ready_floats}
use Rattle.trace.proofs.Rests.{Same, same_reconstructed}
use Rattle.boxrun.specs.Boxed.{LentBoxed, Boxed}
use Rattle.boxrun.proofs.Owned.{owned_kept}

module _ {b : Float} {p : Problem} {s : State} (f : List Float) {hi : ℕ} (e : Same (2 * p.n) hi s.floats f) where
  pub kept_lent : 4 * p.n ≤ hi → LentBoxed b p s → LentBoxed b p (state f s.numbers s.labels)
  kept_lent l w = record { ready = ready_floats w.ready f e.long; held = λ k h. rw (same k h) (w.held k h); label = w.label }
    where
      same : (k : ℕ) → k < p.n → alpha p (state f s.numbers s.labels) k ≡ alpha p s k
      same k h = ap₂ weight (e.at (2 * p.n + k) (omega arith) (omega arith)) (e.at (3 * p.n + k) (omega arith) (omega arith))

  pub kept_boxed : 5 * p.n + p.side ≤ hi → Boxed b p s → Boxed b p (state f s.numbers s.labels)
  kept_boxed l w = record { lent = kept_lent (omega arith) w.lent; own = (owned_kept {p = p} {s = s} f e l (record { ready = w.lent.ready; own = w.own })).own }

pub boxed_reconstructed : {b : Float} {p : Problem} (s : State) (x : Bool) (a : ℕ) → a ≤ p.n → Boxed b p s → Boxed b p (state (reconstructed p x a s) s.numbers s.labels)
boxed_reconstructed {b} {p} s x a l w =
    let e = same_reconstructed p x a l (5 * p.n + p.side) s in
    kept_boxed {b = b} {p = p} {s = s} (reconstructed p x a s) (record { long = e.long; at = λ q h y. e.at q (omega arith) y }) (omega arith) w
