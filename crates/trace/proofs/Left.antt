-- What a step records is what the update left, at active positions. Assumes nothing.
--
-- Main theorems:
--   step_left: the step that a pass adds is of two active positions, of the samples that stood there, with the weights that the update left
--   each_step: the k-th step of a trace is that of pass k, which was made
use Prim.Native.Nat.{ℕ, zero, suc, ◌*◌, ◌≤◌, ◌<◌}
use mathlib.Core.Bool.{Bool, true, false}
use mathlib.Core.List.{List, [], ◌∷◌, ◌++◌, append-nil}
use mathlib.Core.Logic.{inl, inr}
use mathlib.Core.Path.{◌≡◌, refl, sym, ap, subst, ◌∙◌}
use native.Mathlib.Nat.{eq-or-lt_of_le}
use native.Mathlib.Omega.{arith}
use lib.Ieee.{Float, nan}
use lib.ListN.{length, get_or, length-append, get_or-append}
use lib.Seq.{get_or_at}
use Rattle.std.specs.Prelude.{Option, Some, None}
use Rattle.modes.specs.Modes.{repaired}
use Rattle.reconstruct.specs.Reconstruct.{reconstructed}
use Rattle.solver.specs.Pass.{chosen, rebuilt, refreshed, counted_down, passed, runs}
use Rattle.solver.specs.Run.{problem_of, Full, goes}
use Rattle.solver.specs.declared.Given.{Given}
use Rattle.solver.proofs.Laws.{chosen_below}
use Rattle.state.specs.Fields.{alpha, sample}
use Rattle.state.specs.Lists.{State, over}
use Rattle.state.specs.Moving.{moved}
use Rattle.state.proofs.Moves.{length_fields}
use Rattle.update.specs.Update.{pair_at}
use Rattle.update.proofs.Left.{alpha_i, alpha_j}
use Rattle.trace.specs.Trace.{Step, look_by, look_at, pair_from, step_at, steps_of, added, traced}
use Rattle.trace.proofs.Kept.{chosen_apart, refreshed_keeps, counted_keeps, look_keeps}
use Rattle.trace.proofs.Passes.{pass_steps, pair_look}
use Rattle.trace.proofs.Rests.{same_reconstructed}
use Rattle.trace.proofs.Trace.{steps_going}

module _ (g : Given) (m : List ℕ) where
  -- the floats are long enough
  abbrev pub Roomy : State → Type 0
  Roomy s = 7 * g.n ≤ length s.floats

  roomy_rebuilt : (s : State) (a : ℕ) → a ≤ g.n → Roomy s → Roomy (over s (reconstructed (problem_of g m) (repaired g.mode) a s))
  roomy_rebuilt s a l r = rw (same_reconstructed (problem_of g m) (repaired g.mode) a l 0 s).long r

  roomy_moved : (s : State) (i j : ℕ) → i < g.n → j < g.n → Roomy s → Roomy (moved g.n s i j)
  unfolding moved
  roomy_moved s i j a b r = rw (length_fields nan g.n s.floats i j 5) r

  look_numbers : (v : Full) (c : Option (ℕ × ℕ)) → (look_by g m v c).state.numbers ≡ v.state.numbers
  unfolding look_by refreshed rebuilt
  look_numbers v (Some (i, j)) = refl
  look_numbers v None = refl

  look_roomy : (v : Full) (c : Option (ℕ × ℕ)) → v.run.active ≤ g.n → Roomy v.state → Roomy (look_by g m v c).state
  unfolding look_by
  look_roomy v (Some (i, j)) l r = r
  look_roomy v None l r = (refreshed_keeps g m Roomy roomy_rebuilt roomy_moved v (record { kept = r; active = l })).kept

  module _ (b : List Float) where
    -- e is the step that the pass which begins in w adds
    pub record StepLeft (w : Full) (e : Step) : Type 0 where
      pub adds : added g m b true w ≡ e ∷ []
      -- of two active positions
      pub active_i : e.i < (look_at g m (counted_down g m w)).run.active
      pub active_j : e.j < (look_at g m (counted_down g m w)).run.active
      pub below : (look_at g m (counted_down g m w)).run.active ≤ g.n
      pub apart : e.i ≡ e.j → ⊥
      -- of the samples that stood there when the pair was chosen
      pub stood_i : e.sample_i ≡ sample (counted_down g m w).state e.i
      pub stood_j : e.sample_j ≡ sample (counted_down g m w).state e.j
      -- the weights are those of the update's pair, and those that stand there after the pass
      pub pair_i : e.left_i ≡ (pair_at (problem_of g m) b g.mode g.floor (look_at g m (counted_down g m w)).state e.i e.j).i.value
      pub pair_j : e.left_j ≡ (pair_at (problem_of g m) b g.mode g.floor (look_at g m (counted_down g m w)).state e.i e.j).j.value
      pub after_i : e.left_i ≡ (alpha (problem_of g m) (passed g m b w).state e.i).value
      pub after_j : e.left_j ≡ (alpha (problem_of g m) (passed g m b w).state e.j).value

    pub step_left : (w : Full) (i j : ℕ) → w.run.active ≤ g.n → Roomy w.state → pair_from g m w ≡ Some (i, j) → StepLeft w (step_at g m (passed g m b w) i j)
    unfolding added steps_of
    step_left w i j l r e =
        let p = problem_of g m in
        let v = counted_down g m w in
        let u = look_at g m v in
        let k = counted_keeps g m Roomy roomy_rebuilt roomy_moved w (record { kept = r; active = l }) in
        let c = pair_look g m w i j e in
        let inside = chosen_below g m u i j c in
        let apart = chosen_apart g m u i j c in
        let few = (look_keeps g m Roomy roomy_rebuilt roomy_moved v k).active in
        let step = pass_steps g m b w i j e in
        let room = look_roomy v (chosen g m v) k.active k.kept in
        let i-in = inside.0 in
        let j-in = inside.1 in
        let stood : (passed g m b w).state.numbers ≡ v.state.numbers = ap (λ (s : State). s.numbers) step.state ∙ look_numbers v (chosen g m v) in
        record {
          adds = rw e;
          active_i = i-in;
          active_j = j-in;
          below = few;
          apart = apart;
          stood_i = ap (λ (u : List ℕ). get_or u i 0) stood;
          stood_j = ap (λ (u : List ℕ). get_or u j 0) stood;
          pair_i =
              ap (λ (s : State). (alpha p s i).value) step.state
              ∙ ap (λ a. a.value) (alpha_i p b g.mode g.floor u.state i j u.run.active (omega arith) (omega arith) (omega arith) room apart);
          pair_j =
              ap (λ (s : State). (alpha p s j).value) step.state
              ∙ ap (λ a. a.value) (alpha_j p b g.mode g.floor u.state i j u.run.active (omega arith) (omega arith) (omega arith) room);
          after_i = refl;
          after_j = refl;
        }

    -- ---- each step of a trace

    -- e is the step of pass k, which was made
    pub record StepOf (w : Full) (k : ℕ) (e : Step) : Type 0 where
      pub going : goes (runs g m b w k).run.status ≡ true
      pub pair : pair_from g m (runs g m b w k) ≡ Some (e.i, e.j)
      pub is : e ≡ step_at g m (passed g m b (runs g m b w k)) e.i e.j

    pub each_step : (w : Full) (t k : ℕ) (d : Step) → k < length (traced g m b w t) → StepOf w k (get_or (traced g m b w t) k d)
    unfolding traced added steps_of
    each_step w zero k d h = let z : ⊥ = omega arith in absurd z
    each_step w (suc t) k d h = go (goes v.run.status) refl (each_step w t k d) h
      where
        v : Full
        v = runs g m b w t

        old : (es : List Step) (l : k < length (traced g m b w t)) → StepOf w k (get_or (traced g m b w t) k d) → StepOf w k (get_or (traced g m b w t ++ es) k d)
        old es l s = rw (get_or-append (traced g m b w t) es d k l) s

        one : (c : Option (ℕ × ℕ)) → goes v.run.status ≡ true → pair_from g m v ≡ c → (k < length (traced g m b w t) → StepOf w k (get_or (traced g m b w t) k d))
            → k < length (traced g m b w t ++ steps_of g m (passed g m b v) c)
            → StepOf w k (get_or (traced g m b w t ++ steps_of g m (passed g m b v) c) k d)
        one (Some (i, j)) going e ih l =
            let s = length-append (traced g m b w t) (step_at g m (passed g m b v) i j ∷ []) in
            let r : k ≤ length (traced g m b w t) = omega arith in
            elim (eq-or-lt_of_le r) [
              | inl z ↦
                  rw (get_or_at (traced g m b w t) (step_at g m (passed g m b v) i j) [] d k (sym z))
                  (subst (λ (u : ℕ). StepOf w u (step_at g m (passed g m b v) i j)) (sym (z ∙ steps_going g m b w t going)) (record { going = going; pair = e; is = refl }))
              | inr z ↦ old (step_at g m (passed g m b v) i j ∷ []) z (ih z)
            ]
        one None going e ih l = let z = append-nil (traced g m b w t) in let y = rw z at l in old [] y (ih y)

        go : (x : Bool) → goes v.run.status ≡ x → (k < length (traced g m b w t) → StepOf w k (get_or (traced g m b w t) k d))
            → k < length (traced g m b w t ++ added g m b x v) → StepOf w k (get_or (traced g m b w t ++ added g m b x v) k d)
        go true e ih l = one (pair_from g m v) e refl ih l
        go false e ih l = let z = append-nil (traced g m b w t) in let y = rw z at l in old [] y (ih y)
