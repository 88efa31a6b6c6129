-- What a pass does, by the pair with which it steps. Assumes nothing.
--
-- Main theorems:
--   look_status, look_iterations: no look ends a run or counts a step
--   pair_look: the pair with which a pass steps is the choice in the state of its last look
--   pass_steps: a pass with a pair is one update from that state, and one iteration
--   pass_ends: a pass with no pair goes no further than its walk, or finds none at either look and ends the run
use Prim.Native.Nat.{ℕ, ◌+◌}
use mathlib.Core.Bool.{Bool, true, false, cond}
use mathlib.Core.List.{List}
use mathlib.Core.Logic.{◌⊎◌, inl, inr}
use mathlib.Core.Path.{◌≡◌, refl, sym, ◌∙◌}
use lib.Ieee.{Float}
use Rattle.std.proofs.lemmas.Option.{none-some}
use Rattle.std.specs.Prelude.{Option, Some, None}
use Rattle.modes.specs.Modes.{repaired}
use Rattle.partner.proofs.Rule.{same_pair}
use Rattle.solver.specs.Pass.{chosen, refreshed, counted_down, stepped, looked, worked_by, onward, passed}
use Rattle.solver.specs.Run.{problem_of, Full, active_at, goes}
use Rattle.solver.specs.declared.Given.{Given}
use Rattle.solver.specs.declared.Status.TheVariants.{Done}
use Rattle.update.specs.Update.{updated_state}
use Rattle.trace.specs.Trace.{look_by, look_at, pair_on, pair_from}

module _ (g : Given) (m : List ℕ) where
  either_status : (x : Bool) (v : Full) → (cond x (active_at v.run g.n) v.run).status ≡ v.run.status
  either_status true v = refl
  either_status false v = refl

  either_iterations : (x : Bool) (v : Full) → (cond x (active_at v.run g.n) v.run).iterations ≡ v.run.iterations
  either_iterations true v = refl
  either_iterations false v = refl

  -- no look ends a run or counts a step
  pub look_status : (v : Full) (c : Option (ℕ × ℕ)) → (look_by g m v c).run.status ≡ v.run.status
  unfolding look_by refreshed
  look_status v (Some (i, j)) = refl
  look_status v None = either_status (repaired g.mode) v

  pub look_iterations : (v : Full) (c : Option (ℕ × ℕ)) → (look_by g m v c).run.iterations ≡ v.run.iterations
  unfolding look_by refreshed
  look_iterations v (Some (i, j)) = refl
  look_iterations v None = either_iterations (repaired g.mode) v

  -- the state of the last look gives the pair
  on_look : (x : Bool) (v : Full) (i j : ℕ) → pair_on g m x v ≡ Some (i, j) → chosen g m (look_at g m v) ≡ Some (i, j)
  unfolding pair_on
  on_look true v i j e = e
  on_look false v i j e = absurd (none-some (i, j) e)

  pub pair_look : (w : Full) (i j : ℕ) → pair_from g m w ≡ Some (i, j) → chosen g m (look_at g m (counted_down g m w)) ≡ Some (i, j)
  unfolding pair_from
  pair_look w i j e = let v = counted_down g m w in on_look (goes v.run.status) v i j e

module _ (g : Given) (m : List ℕ) (b : List Float) where
  -- from the state of the look u, the pass that leaves v steps with i and j: one update, one iteration
  pub record Steps (u v : Full) (i j : ℕ) : Type 0 where
    pub state : v.state ≡ updated_state (problem_of g m) b g.mode g.floor u.state i j u.run.active
    pub active : v.run.active ≡ u.run.active
    pub iterations : v.run.iterations ≡ u.run.iterations + 1
    pub status : v.run.status ≡ u.run.status

  looked_steps : (u : Full) (c : Option (ℕ × ℕ)) (i j : ℕ) → c ≡ Some (i, j) → Steps u (looked g m b u c) i j
  unfolding looked stepped
  looked_steps u (Some (h, k)) i j e =
      let x = same_pair h k i j e in
      rw (x.0, x.1) (record { state = refl; active = refl; iterations = refl; status = refl })
  looked_steps u None i j e = absurd (none-some (i, j) e)

  worked_steps : (v : Full) (c : Option (ℕ × ℕ)) (i j : ℕ) → chosen g m v ≡ c → chosen g m (look_by g m v c) ≡ Some (i, j) → Steps (look_by g m v c) (worked_by g m b v c) i j
  unfolding worked_by look_by stepped
  worked_steps v (Some (h, k)) i j e q =
      let x = same_pair h k i j (sym e ∙ q) in
      rw (x.0, x.1) (record { state = refl; active = refl; iterations = refl; status = refl })
  worked_steps v None i j e q = looked_steps (refreshed g m v) (chosen g m (refreshed g m v)) i j q

  onward_steps : (x : Bool) (v : Full) (i j : ℕ) → pair_on g m x v ≡ Some (i, j) → Steps (look_at g m v) (onward g m b x v) i j
  unfolding onward pair_on
  onward_steps true v i j e = worked_steps v (chosen g m v) i j refl e
  onward_steps false v i j e = absurd (none-some (i, j) e)

  -- a pass with a pair is one update from the state of its last look
  pub pass_steps : (w : Full) (i j : ℕ) → pair_from g m w ≡ Some (i, j) → Steps (look_at g m (counted_down g m w)) (passed g m b w) i j
  unfolding passed pair_from
  pass_steps w i j e = let v = counted_down g m w in onward_steps (goes v.run.status) v i j e

  -- ---- a pass with no pair

  -- refused by the walk; or no pair at either look
  pub record Ends (v x : Full) : Type 0 where
    pub first : chosen g m v ≡ None
    pub second : chosen g m (refreshed g m v) ≡ None
    pub state : x.state ≡ (refreshed g m v).state
    pub active : x.run.active ≡ (refreshed g m v).run.active
    pub iterations : x.run.iterations ≡ v.run.iterations
    pub status : x.run.status ≡ Done

  worked_ends : (v : Full) (c : Option (ℕ × ℕ)) → chosen g m v ≡ c → chosen g m (look_by g m v c) ≡ None → Ends v (worked_by g m b v c)
  unfolding worked_by look_by looked
  worked_ends v (Some (h, k)) e q = absurd (none-some (h, k) (sym q ∙ e))
  worked_ends v None e q = record { first = e; second = q; state = rw q; active = rw q; iterations = rw q (look_iterations g m v None); status = rw q }

  onward_ends : (x : Bool) (v : Full) → pair_on g m x v ≡ None → ((x ≡ false) × (onward g m b x v ≡ v)) ⊎ Ends v (onward g m b x v)
  unfolding onward pair_on
  onward_ends true v e = inr (worked_ends v (chosen g m v) refl e)
  onward_ends false v e = inl (refl, refl)

  pub pass_ends : (w : Full) → pair_from g m w ≡ None
      → ((goes (counted_down g m w).run.status ≡ false) × (passed g m b w ≡ counted_down g m w)) ⊎ Ends (counted_down g m w) (passed g m b w)
  unfolding passed pair_from
  pass_ends w e = let v = counted_down g m w in onward_ends (goes v.run.status) v e
