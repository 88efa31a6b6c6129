-- What keeps a state ready. Assumes nothing.
use Prim.Native.Nat.{ℕ, ◌<◌}
use mathlib.Core.List.{List}
use mathlib.Core.Path.{◌≡◌}
use native.Mathlib.Nat.{one-mul}
use native.Mathlib.Omega.{arith}
use lib.Ieee.{Float, nan}
use lib.ListN.{length}
use Rattle.kernel.specs.Row.{kernel_index}
use Rattle.state.specs.Lists.{Problem, State, state, Ready}
use Rattle.state.specs.Moving.{swapped_fields, moved}
use Rattle.state.proofs.Moves.{source, source_below, length_swapped, length_fields, fields_at}

-- a new list of floats of the same length
pub ready_floats : {p : Problem} {s : State} → Ready p s → (f : List Float) → length f ≡ length s.floats → Ready p (state f s.numbers s.labels)
ready_floats r f e = record { matrix = r.matrix; indexed = r.indexed; square = r.square; floats = omega (arith, r.floats); labels = r.labels }

-- a move
pub ready_moved : {p : Problem} {s : State} → Ready p s → (i j : ℕ) → i < p.n → j < p.n → Ready p (moved p.n s i j)
unfolding moved
ready_moved {p} {s} r i j a b = record {
  matrix = r.matrix;
  indexed = record {
    small = r.indexed.small;
    long = rw (length_fields 0 p.n s.numbers i j 2) r.indexed.long;
    below = λ k c. rw (index k c) (r.indexed.below (source i j k) (source_below p.n i j k a b c));
  };
  square = r.square;
  floats = rw (length_fields nan p.n s.floats i j 5) r.floats;
  labels = rw (length_swapped 0 s.labels i j) r.labels;
}
  where
    index : (k : ℕ) → k < p.n → kernel_index p.n (swapped_fields 0 p.n s.numbers i j 2) k ≡ kernel_index p.n s.numbers (source i j k)
    index k c = rw one-mul at (fields_at 0 p.n s.numbers i j a b 2 1 k r.indexed.long (omega arith) c)
