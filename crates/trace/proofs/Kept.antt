-- What reconstruction, moves and updates keep, a run keeps. Assumes nothing.
--
-- Main theorems:
--   chosen_apart: the two of a pair are two
--   pair_keeps: what an update at any two active positions keeps, one at a chosen pair keeps
--   look_keeps: what reconstruction and moves keep holds where a pass takes its last look; `rebuilt_keeps`, `shrunk_keeps`, `counted_keeps` before it
--   passed_keeps: with updates, a pass keeps it
--   runs_keeps: and a run of any number of passes
--   trained_keeps: and start, run and end together; `closed_keeps` for the end alone
use Prim.Native.Nat.{ℕ, zero, suc, ◌-◌, ◌≤◌, ◌<◌}
use mathlib.Core.Bool.{Bool, true, false, not, ◌&&◌, cond}
use mathlib.Core.List.{List}
use mathlib.Core.Path.{◌≡◌, refl}
use native.Mathlib.Omega.{arith}
use lib.Dec.{eqb, ltb}
use lib.Ieee.{Float, binary64, mul, le}
use Rattle.std.specs.Prelude.{Option, Some, None}
use Rattle.choose_c.specs.Choice.{choice_c}
use Rattle.choose_c.proofs.Rule as C
use Rattle.choose_nu.specs.Choice.{choice_nu}
use Rattle.choose_nu.proofs.Rule as Nu
use Rattle.modes.specs.Modes.{repaired}
use Rattle.reconstruct.specs.Reconstruct.{reconstructed}
use Rattle.shrink.specs.Drops.{drops_at}
use Rattle.shrink.specs.declared.Limits.{Limits}
use Rattle.shrink.proofs.Walks.{walks}
use Rattle.start.specs.Start.{started}
use Rattle.state.specs.Lists.{State, over}
use Rattle.state.specs.Moving.{moved}
use Rattle.solver.specs.End.{closed, trained}
use Rattle.solver.specs.Pass.{ten, chosen, rebuilt, refreshed, tops_of, restored, walked_from, shrunk, counted_down, stepped, looked, worked_by, onward, passed, next, runs}
use Rattle.solver.specs.Run.{ready_of, problem_of, Full, full, with_run, goes, counter_at, active_at, reopened, period}
use Rattle.solver.specs.declared.Given.{Given}
use Rattle.solver.specs.declared.Run.{Run}
use Rattle.solver.proofs.Laws.{chosen_below}
use Rattle.update.specs.Update.{updated_state}
use Rattle.trace.specs.Trace.{look_by, look_at}

-- the lists kept, with an active count of n at the most
pub record Keeps (g : Given) (P : State → Type 0) (w : Full) : Type 0 where
  pub kept : P w.state
  pub active : w.run.active ≤ g.n

module _ (g : Given) (m : List ℕ) where
  -- the two of a pair are two
  pub chosen_apart : (w : Full) (i j : ℕ) → chosen g m w ≡ Some (i, j) → i ≡ j → ⊥
  unfolding chosen
  chosen_apart w i j = go g.nu
    where
      go : (x : Bool)
          → cond x (choice_nu (problem_of g m) w.state g.floor g.eps w.run.active) (choice_c (problem_of g m) w.state g.floor g.eps w.run.active) ≡ Some (i, j)
          → i ≡ j → ⊥
      go true e = ((Nu.pair_rule (problem_of g m) w.state w.run.active g.floor g.eps i j).0 e).1.apart
      go false e = ((C.pair_rule (problem_of g m) w.state w.run.active g.floor g.eps i j).0 e).1.apart

  -- for what asks of the pair only that it is of two active positions
  pub pair_keeps : (P : State → Type 0) (b : List Float)
      → ((s : State) (i j a : ℕ) → i < a → j < a → a ≤ g.n → (i ≡ j → ⊥) → P s → P (updated_state (problem_of g m) b g.mode g.floor s i j a))
      → (w : Full) (i j : ℕ) → chosen g m w ≡ Some (i, j) → Keeps g P w → P (updated_state (problem_of g m) b g.mode g.floor w.state i j w.run.active)
  pair_keeps P b on-pair w i j e k =
      let l = chosen_below g m w i j e in
      on-pair w.state i j w.run.active l.0 l.1 k.active (chosen_apart w i j e) k.kept

  module _ (P : State → Type 0)
      (on_rebuilt : (s : State) (a : ℕ) → a ≤ g.n → P s → P (over s (reconstructed (problem_of g m) (repaired g.mode) a s)))
      (on_moved : (s : State) (i j : ℕ) → i < g.n → j < g.n → P s → P (moved g.n s i j)) where
    abbrev K : Full → Type 0
    K = Keeps g P

    keeps_either : (x : Bool) (v w : Full) → K v → K w → K (cond x v w)
    keeps_either true v w a b = a
    keeps_either false v w a b = b

    pub rebuilt_keeps : (w : Full) → K w → K (rebuilt g m w)
    unfolding rebuilt
    rebuilt_keeps w k = record { kept = on_rebuilt w.state w.run.active k.active k.kept; active = k.active }

    either_active : (x : Bool) (r : Run) → r.active ≤ g.n → (cond x (active_at r g.n) r).active ≤ g.n
    either_active true r h = omega arith
    either_active false r h = h

    pub refreshed_keeps : (w : Full) → K w → K (refreshed g m w)
    unfolding refreshed
    refreshed_keeps w k = record { kept = (rebuilt_keeps w k).kept; active = either_active (repaired g.mode) w.run k.active }

    restored_keeps : (level : Float) (w : Full) → K w → K (restored g m level w)
    unfolding restored
    restored_keeps level w k =
        keeps_either (not w.run.unshrink && le level (mul binary64 g.eps ten)) (with_run (rebuilt g m w) (reopened w.run g.n)) w
        (record { kept = (rebuilt_keeps w k).kept; active = omega arith }) k

    walked_keeps : (l : Limits) (w : Full) → K w → K (walked_from g m l w)
    unfolding walked_from
    walked_keeps l w k =
        let r = walks g.n P (moved g.n) on_moved l.ends (drops_at g.n l) w.run.active k.active w.state w.run.active k.active k.kept in
        record { kept = r.kept; active = omega (arith, r.most, k.active) }

    pub shrunk_keeps : (w : Full) → K w → K (shrunk g m w)
    unfolding shrunk
    shrunk_keeps w k = let t = tops_of g m w in walked_keeps t.limits (restored g m t.level w) (restored_keeps t.level w k)

    pub counted_keeps : (w : Full) → K w → K (counted_down g m w)
    unfolding counted_down
    counted_keeps w k =
        let v = with_run w (counter_at w.run (period g.n)) in
        let r : K v = record { kept = k.kept; active = k.active } in
        keeps_either (ltb 0 (w.run.counter - 1)) (with_run w (counter_at w.run (w.run.counter - 1))) (cond g.shrinking (shrunk g m v) v)
        (record { kept = k.kept; active = k.active }) (keeps_either g.shrinking (shrunk g m v) v (shrunk_keeps v r) r)

    pub closed_keeps : (budget : ℕ) (w : Full) → K w → K (closed g m budget w)
    unfolding closed
    closed_keeps budget w k =
        keeps_either (eqb w.run.iterations budget && ltb w.run.active g.n) (with_run (rebuilt g m w) (active_at w.run g.n)) w
        (record { kept = (rebuilt_keeps w k).kept; active = omega arith }) k

    -- where a pass takes its last look
    pub look_keeps : (v : Full) → K v → K (look_at g m v)
    unfolding look_by
    look_keeps v k = go (chosen g m v)
      where
        go : (c : Option (ℕ × ℕ)) → K (look_by g m v c)
        go (Some (i, j)) = k
        go None = refreshed_keeps v k

    -- an update from a state w whose choice is i and j keeps it
    module _ (b : List Float)
        (on_updated : (w : Full) (i j : ℕ) → chosen g m w ≡ Some (i, j) → K w → P (updated_state (problem_of g m) b g.mode g.floor w.state i j w.run.active)) where
      looked_keeps : (w : Full) (c : Option (ℕ × ℕ)) → chosen g m w ≡ c → K w → K (looked g m b w c)
      unfolding looked stepped
      looked_keeps w (Some (i, j)) e k = record { kept = on_updated w i j e k; active = k.active }
      looked_keeps w None e k = record { kept = k.kept; active = k.active }

      worked_keeps : (w : Full) (c : Option (ℕ × ℕ)) → chosen g m w ≡ c → K w → K (worked_by g m b w c)
      unfolding worked_by stepped
      worked_keeps w (Some (i, j)) e k = record { kept = on_updated w i j e k; active = k.active }
      worked_keeps w None e k = looked_keeps (refreshed g m w) (chosen g m (refreshed g m w)) refl (refreshed_keeps w k)

      onward_keeps : (x : Bool) (w : Full) → K w → K (onward g m b x w)
      unfolding onward
      onward_keeps true w k = worked_keeps w (chosen g m w) refl k
      onward_keeps false w k = k

      pub passed_keeps : (w : Full) → K w → K (passed g m b w)
      unfolding passed
      passed_keeps w k = let v = counted_down g m w in onward_keeps (goes v.run.status) v (counted_keeps w k)

      next_keeps : (x : Bool) (w : Full) → K w → K (next g m b x w)
      unfolding next
      next_keeps true w k = passed_keeps w k
      next_keeps false w k = k

      pub runs_keeps : (w : Full) (t : ℕ) → K w → K (runs g m b w t)
      unfolding runs
      runs_keeps w zero k = k
      runs_keeps w (suc t) k = let v = runs g m b w t in next_keeps (goes v.run.status) v (runs_keeps w t k)

      pub trained_keeps : (budget : ℕ) (s : State) → P (over s (started (problem_of g m) b s)) → K (trained g m b budget s)
      unfolding trained
      trained_keeps budget s k =
          let w = full (ready_of g.n) (started (problem_of g m) b s) s.numbers s.labels in
          closed_keeps budget (runs g m b w budget) (runs_keeps w budget (record { kept = k; active = omega arith }))
