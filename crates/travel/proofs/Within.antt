-- The order that a run leaves names samples: where each kernel index is the sample number at the start, it is at the end. Assumes nothing.
--
-- Main theorems:
--   sample_moved: what a move does to the order; `index_moved`: and to the kernel indices
--   runs_numbered: where each kernel index is the sample number, it is after any number of passes; `trained_numbered`: and at the end
--   trained_within: so the order that is left names samples only, where the matrix has n rows
use Prim.Native.Nat.{ℕ, ◌*◌, ◌≤◌, ◌<◌}
use mathlib.Core.List.{List}
use mathlib.Core.Path.{◌≡◌, sym, ◌∙◌}
use native.Mathlib.Nat.{zero-mul, one-mul, zero-add}
use native.Mathlib.Omega.{arith}
use lib.Ieee.{Float}
use lib.ListN.{length, get_or}
use Rattle.kernel.specs.Row.{kernel_index}
use Rattle.modes.specs.Modes.{repaired}
use Rattle.reconstruct.specs.Reconstruct.{reconstructed}
use Rattle.readings.specs.Order.{NamesSamples}
use Rattle.solver.specs.End.{trained}
use Rattle.solver.specs.Pass.{runs}
use Rattle.solver.specs.Run.{problem_of, Full}
use Rattle.solver.specs.declared.Given.{Given}
use Rattle.start.specs.Start.{started}
use Rattle.state.specs.Lists.{Problem, State, Ready, over}
use Rattle.state.specs.Moving.{swapped_fields, moved}
use Rattle.state.proofs.Kept.{ready_floats, ready_moved}
use Rattle.state.proofs.Moves.{source, source_below, fields_at}
use Rattle.trace.proofs.Kept.{pair_keeps, runs_keeps, trained_keeps}
use Rattle.trace.proofs.Rests.{same_started, same_reconstructed}
use Rattle.update.specs.Update.{updated, updated_state}
use Rattle.update.proofs.Left.{length_updated}
use Rattle.travel.specs.Travel.{Paired}

-- ---- a move

module _ (n : ℕ) (u : List ℕ) (i j : ℕ) (a : i < n) (b : j < n) (l : 2 * n ≤ length u) where
  pub sample_moved : (k : ℕ) → k < n → get_or (swapped_fields 0 n u i j 2) k 0 ≡ get_or u (source i j k) 0
  sample_moved k c = simp (zero-mul, zero-add) at (fields_at 0 n u i j a b 2 0 k l (omega arith) c)

  pub index_moved : (k : ℕ) → k < n → kernel_index n (swapped_fields 0 n u i j 2) k ≡ kernel_index n u (source i j k)
  index_moved k c = rw one-mul at (fields_at 0 n u i j a b 2 1 k l (omega arith) c)

  paired_moved : Paired n u → Paired n (swapped_fields 0 n u i j 2)
  paired_moved p =
      record { same = λ k c. sample_moved k c ∙ p.same (source i j k) (source_below n i j k a b c) ∙ sym (index_moved k c) }

-- ---- ready, and each kernel index the sample number

pub record Numbered (p : Problem) (s : State) : Type 0 where
  pub ready : Ready p s
  pub paired : Paired p.n s.numbers

numbered_floats : (p : Problem) (s : State) (f : List Float) → length f ≡ length s.floats → Numbered p s → Numbered p (over s f)
numbered_floats p s f e w = record { ready = ready_floats w.ready f e; paired = w.paired }

numbered_moved : (p : Problem) (s : State) (i j : ℕ) → i < p.n → j < p.n → Numbered p s → Numbered p (moved p.n s i j)
unfolding moved
numbered_moved p s i j a b w =
    record { ready = ready_moved w.ready i j a b; paired = paired_moved p.n s.numbers i j a b w.ready.indexed.long w.paired }

numbered_within : (p : Problem) (s : State) → p.side ≡ p.n → Numbered p s → NamesSamples p.n s.numbers
numbered_within p s e w =
    let l = w.ready.indexed.long in
    record { long = omega arith; below = λ k c. let x = w.paired.same k c in let y = w.ready.indexed.below k c in omega arith }

module _ (g : Given) (m : List ℕ) (b : List Float) where
  abbrev p : Problem
  p = problem_of g m

  by_rebuilt : (s : State) (a : ℕ) → a ≤ g.n → Numbered p s → Numbered p (over s (reconstructed p (repaired g.mode) a s))
  by_rebuilt s a l = numbered_floats p s (reconstructed p (repaired g.mode) a s) (same_reconstructed p (repaired g.mode) a l 0 s).long

  by_updated : (s : State) (i j a : ℕ) → i < a → j < a → a ≤ g.n → (i ≡ j → ⊥) → Numbered p s → Numbered p (updated_state p b g.mode g.floor s i j a)
  by_updated s i j a x y l d = numbered_floats p s (updated p b g.mode g.floor s i j a) (length_updated p b g.mode g.floor s i j a)

  -- at each point of a run
  pub runs_numbered : (w : Full) (t : ℕ) → w.run.active ≤ g.n → Numbered p w.state → Numbered p (runs g m b w t).state
  runs_numbered w t h k = (runs_keeps g m (Numbered p) by_rebuilt (numbered_moved p) b (pair_keeps g m (Numbered p) b by_updated) w t (record { kept = k; active = h })).kept

  pub trained_numbered : (budget : ℕ) (s : State) → Numbered p s → Numbered p (trained g m b budget s).state
  trained_numbered budget s k =
      (trained_keeps g m (Numbered p) by_rebuilt (numbered_moved p) b (pair_keeps g m (Numbered p) b by_updated) budget s (numbered_floats p s (started p b s) (same_started p b s).long k)).kept

  -- the order that is left names samples only
  pub trained_within : (budget : ℕ) (s : State) → Ready p s → Paired g.n s.numbers → g.side ≡ g.n
      → NamesSamples g.n (trained g m b budget s).state.numbers
  trained_within budget s r q e = numbered_within p (trained g m b budget s).state e (trained_numbered budget s (record { ready = r; paired = q }))
