-- Where ceilings travel, each position has its sample's own at each point of a run. Assumes nothing.
use Prim.Native.Nat.{ℕ, ◌+◌, ◌*◌, ◌≤◌, ◌<◌}
use mathlib.Core.Bool.{true}
use mathlib.Core.List.{List}
use mathlib.Core.Path.{◌≡◌, sym, ap, ◌∙◌}
use native.Mathlib.Decide.{ℕ_discrete}
use native.Mathlib.Nat.{zero-mul, zero-add}
use native.Mathlib.Omega.{arith}
use lib.Ieee.{Float, nan}
use lib.ListN.{length, get_or}
use Rattle.modes.specs.Modes.{travels, repaired}
use Rattle.reconstruct.specs.Reconstruct.{reconstructed}
use Rattle.solver.specs.End.{trained}
use Rattle.solver.specs.Pass.{runs}
use Rattle.solver.specs.Run.{problem_of, Full}
use Rattle.solver.specs.declared.Given.{Given}
use Rattle.state.specs.Fields.{alpha, sample}
use Rattle.state.specs.Lists.{Problem, State, over}
use Rattle.state.specs.Moving.{moved, swapped_fields}
use Rattle.state.proofs.Moves.{source, source_below, fields_at, length_fields}
use Rattle.trace.proofs.Kept.{pair_keeps, runs_keeps, trained_keeps}
use Rattle.trace.proofs.Rests.{same_reconstructed, same_started}
use Rattle.travel.specs.Travel.{OwnCeilings}
use Rattle.update.specs.Update.{ceiling_in, ceiling, updated_state}
use Rattle.update.proofs.Left.{length_updated, alpha_i, alpha_j, alpha_other}

module _ (g : Given) (m : List ℕ) (b : List Float) (h : travels g.mode ≡ true) (own : ℕ → Float) where
  abbrev p : Problem
  p = problem_of g m

  pub record Carries (s : State) : Type 0 where
    pub room : 7 * g.n ≤ length s.floats
    pub many : 2 * g.n ≤ length s.numbers
    pub upper : OwnCeilings g.n own s

  ceiling_own : (s : State) (k : ℕ) → ceiling p g.mode b s k ≡ (alpha p s k).upper
  unfolding ceiling_in
  ceiling_own s k = rw h

  by_rebuilt : (s : State) (a : ℕ) → a ≤ g.n → Carries s → Carries (over s (reconstructed p (repaired g.mode) a s))
  by_rebuilt s a l o =
      let e = same_reconstructed p (repaired g.mode) a l (4 * g.n) s in
      record { room = rw e.long o.room; many = o.many; upper = λ k z. e.at (3 * g.n + k) (omega arith) (omega arith) ∙ o.upper k z }

  by_moved : (s : State) (i j : ℕ) → i < g.n → j < g.n → Carries s → Carries (moved g.n s i j)
  unfolding moved
  by_moved s i j x y o =
      let r = o.room in
      let q = o.many in
      record {
        room = rw (length_fields nan g.n s.floats i j 5) r;
        many = rw (length_fields 0 g.n s.numbers i j 2) q;
        upper = λ k z.
            fields_at nan g.n s.floats i j x y 5 3 k (omega arith) (omega arith) z
            ∙ o.upper (source i j k) (source_below g.n i j k x y z)
            ∙ ap own (sym (first k z));
      }
    where
      first : (k : ℕ) → k < g.n → get_or (swapped_fields 0 g.n s.numbers i j 2) k 0 ≡ get_or s.numbers (source i j k) 0
      first k z = simp (zero-mul, zero-add) at (fields_at 0 g.n s.numbers i j x y 2 0 k o.many (omega arith) z)

  by_updated : (s : State) (i j a : ℕ) → i < a → j < a → a ≤ g.n → (i ≡ j → ⊥) → Carries s → Carries (updated_state p b g.mode g.floor s i j a)
  by_updated s i j a I J A d o =
      record { room = rw (length_updated p b g.mode g.floor s i j a) o.room; many = o.many; upper = λ k z. go k z (ℕ_discrete k i) (ℕ_discrete k j) }
    where
      x : i < g.n
      x = omega arith

      y : j < g.n
      y = omega arith

      go : (k : ℕ) → k < g.n → Dec (k ≡ i) → Dec (k ≡ j) → (alpha p (updated_state p b g.mode g.floor s i j a) k).upper ≡ own (sample s k)
      go k z (yes e) f = rw e (ap (λ r. r.upper) (alpha_i p b g.mode g.floor s i j a x y A o.room d) ∙ ceiling_own s i ∙ o.upper i x)
      go k z (no e) (yes f) = rw f (ap (λ r. r.upper) (alpha_j p b g.mode g.floor s i j a x y A o.room) ∙ ceiling_own s j ∙ o.upper j y)
      go k z (no e) (no f) = ap (λ r. r.upper) (alpha_other p b g.mode g.floor s i j a x y A o.room k z e f) ∙ o.upper k z

  pub ceilings_runs : (w : Full) (t : ℕ) → w.run.active ≤ g.n → Carries w.state → Carries (runs g m b w t).state
  ceilings_runs w t l o = (runs_keeps g m Carries by_rebuilt by_moved b (pair_keeps g m Carries b by_updated) w t (record { kept = o; active = l })).kept

  -- and at its end
  pub ceilings_trained : (budget : ℕ) (s : State) → Carries s → Carries (trained g m b budget s).state
  ceilings_trained budget s o =
      let e = same_started p b s in
      (trained_keeps g m Carries by_rebuilt by_moved b (pair_keeps g m Carries b by_updated) budget s
      (record { room = rw e.long o.room; many = o.many; upper = λ k z. e.at (3 * g.n + k) (omega arith) (omega arith) ∙ o.upper k z })).kept
