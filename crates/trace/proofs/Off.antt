-- With shrinking off and all positions active, a pass is its pair's update and nothing else. Assumes nothing.
--
-- Main theorems:
--   rebuilt_off, refreshed_off: nothing is rebuilt; `closed_off`: nor at the end
--   step_off: a pass that steps leaves the update of the state in which it began
use Prim.Native.Nat.{ℕ, ◌-◌}
use mathlib.Core.Bool.{Bool, true, false, ◌&&◌, cond, true≢false}
use mathlib.Core.List.{List}
use mathlib.Core.Path.{◌≡◌, refl, sym, ap, ap₂, ◌∙◌}
use native.Mathlib.Omega.{arith}
use borrow.Author.Tests.{eq-eqb, le-ltb}
use lib.Dec.{eqb, ltb}
use lib.Ieee.{Float}
use Rattle.std.specs.Prelude.{Option, Some, None}
use Rattle.modes.specs.Modes.{repaired}
use Rattle.reconstruct.specs.Reconstruct.{reconstructed}
use Rattle.solver.specs.End.{closed}
use Rattle.solver.specs.Pass.{chosen, rebuilt, refreshed, shrunk, counted_down, passed}
use Rattle.solver.specs.Run.{problem_of, Full, with_run, counter_at, active_at, period}
use Rattle.solver.specs.declared.Given.{Given}
use Rattle.state.specs.Lists.{State}
use Rattle.update.specs.Update.{updated_state}
use Rattle.trace.specs.Trace.{look_by, pair_from}
use Rattle.trace.proofs.Passes.{pass_steps}

module _ (g : Given) (m : List ℕ) where
  -- nothing is inactive, so nothing is rebuilt
  pub rebuilt_off : (w : Full) → w.run.active ≡ g.n → rebuilt g m w ≡ w
  unfolding rebuilt reconstructed
  rebuilt_off w e = rw (e, eq-eqb g.n g.n refl)

  pub refreshed_off : (w : Full) → w.run.active ≡ g.n → refreshed g m w ≡ w
  unfolding refreshed
  refreshed_off w e = rw (rebuilt_off w e) (go (repaired g.mode))
    where
      go : (x : Bool) → with_run w (cond x (active_at w.run g.n) w.run) ≡ w
      go true = ap (λ a. with_run w (active_at w.run a)) (sym e)
      go false = refl

  pub closed_off : (budget : ℕ) (w : Full) → w.run.active ≡ g.n → closed g m budget w ≡ w
  unfolding closed
  closed_off budget w e = go (eqb w.run.iterations budget) (ltb w.run.active g.n) (le-ltb w.run.active g.n (omega arith))
    where
      go : (x y : Bool) → y ≡ false → cond (x && y) (with_run (rebuilt g m w) (active_at w.run g.n)) w ≡ w
      go true true h = absurd (true≢false h)
      go true false h = refl
      go false y h = refl

  module _ (off : g.shrinking ≡ false) where
    -- only the counter falls
    pub record Uncounted (w v : Full) : Type 0 where
      pub state : v.state ≡ w.state
      pub active : v.run.active ≡ w.run.active
      pub iterations : v.run.iterations ≡ w.run.iterations
      pub status : v.run.status ≡ w.run.status

    pub counted_off : (w : Full) → Uncounted w (counted_down g m w)
    unfolding counted_down
    counted_off w = go (ltb 0 (w.run.counter - 1)) g.shrinking off
      where
        u : Full
        u = with_run w (counter_at w.run (period g.n))

        go : (x y : Bool) → y ≡ false → Uncounted w (cond x (with_run w (counter_at w.run (w.run.counter - 1))) (cond y (shrunk g m u) u))
        go true y e = record { state = refl; active = refl; iterations = refl; status = refl }
        go false true e = absurd (true≢false e)
        go false false e = record { state = refl; active = refl; iterations = refl; status = refl }

    look_off : (v : Full) (c : Option (ℕ × ℕ)) → v.run.active ≡ g.n → look_by g m v c ≡ v
    unfolding look_by
    look_off v (Some (i, j)) e = refl
    look_off v None e = refreshed_off v e

    pub step_off : (b : List Float) (w : Full) (i j : ℕ) → w.run.active ≡ g.n → pair_from g m w ≡ Some (i, j)
        → (passed g m b w).state ≡ updated_state (problem_of g m) b g.mode g.floor w.state i j g.n
    step_off b w i j e q =
        let v = counted_down g m w in
        let z = counted_off w in
        let full = z.active ∙ e in
        let look = look_off v (chosen g m v) full in
        let same = ap (λ (x : Full). x.state) look ∙ z.state in
        let there = ap (λ (x : Full). x.run.active) look ∙ full in
        (pass_steps g m b w i j q).state ∙ ap₂ (λ (s : State) (a : ℕ). updated_state (problem_of g m) b g.mode g.floor s i j a) same there
