-- Moving keeps a run in the box. Assumes nothing.
use Prim.Native.Nat.{ℕ, ◌*◌, ◌≤◌, ◌<◌}
use mathlib.Core.Path.{◌≡◌, ap₂}
use native.Mathlib.Omega.{arith}
use lib.Ieee.{Float, nan}
use lib.ListN.{length}
use Rattle.alpha.specs.Weight.{weight}
use Rattle.state.specs.Fields.{alpha}
use Rattle.state.specs.Lists.{Problem, State}
use Rattle.state.specs.Moving.{moved}
use Rattle.state.proofs.Kept.{ready_moved}
use Rattle.state.proofs.Moves.{source, source_below, swapped_at, fields_at}
use Rattle.boxrun.specs.Boxed.{Boxed}
use Rattle.boxrun.proofs.Owned.{owned_moved}

module _ {b : Float} {p : Problem} where
  pub boxed_moved : {s : State} → Boxed b p s → (i j : ℕ) → i < p.n → j < p.n → Boxed b p (moved p.n s i j)
  unfolding moved
  boxed_moved {s} w i j hi hj = record {
    lent = record {
      ready = unfold moved in ready_moved w.lent.ready i j hi hj;
      held = λ k h. rw (same k h) (w.lent.held (source i j k) (source_below p.n i j k hi hj h));
      label = λ k h. rw (swapped_at 0 s.labels i j k (omega arith) (omega arith)) (w.lent.label (source i j k) (source_below p.n i j k hi hj h));
    };
    own = unfold moved in (owned_moved (record { ready = w.lent.ready; own = w.own }) i j hi hj).own;
  }
    where
      long : 7 * p.n ≤ length s.floats
      long = w.lent.ready.floats

      same : (k : ℕ) → k < p.n → alpha p (moved p.n s i j) k ≡ alpha p s (source i j k)
      same k h =
          ap₂ weight
          (fields_at nan p.n s.floats i j hi hj 5 2 k (omega arith) (omega arith) h)
          (fields_at nan p.n s.floats i j hi hj 5 3 k (omega arith) (omega arith) h)
