-- The box over a whole run, and no NaN step in it. Assumes nothing.
use Prim.Native.Nat.{ℕ, ◌<◌, ◌≤◌}
use mathlib.Core.Bool.{Bool, true, false, cond}
use mathlib.Core.List.{List}
use mathlib.Core.Path.{◌≡◌}
use native.Mathlib.Omega.{arith}
use lib.Ieee.{Float}
use Rattle.std.specs.Prelude.{Some}
use Rattle.boxed.specs.Delta.{delta_at}
use Rattle.boxed.specs.Range.{In}
use Rattle.boxed.proofs.Pairs.{no_nan_c, no_nan_nu}
use Rattle.choose_c.specs.Choice.{choice_c}
use Rattle.choose_nu.specs.Choice.{choice_nu}
use Rattle.modes.specs.Modes.{repaired}
use Rattle.reconstruct.specs.Reconstruct.{reconstructed}
use Rattle.rounding.specs.Units.{NotNan}
use Rattle.solver.specs.End.{trained}
use Rattle.solver.specs.Pass.{chosen, counted_down, runs}
use Rattle.solver.specs.Run.{problem_of, Full}
use Rattle.solver.specs.declared.Given.{Given}
use Rattle.solver.proofs.Laws.{chosen_below}
use Rattle.state.specs.Fields.{alpha}
use Rattle.state.specs.Lists.{Problem, State, over}
use Rattle.state.specs.Moving.{moved}
use Rattle.trace.specs.Trace.{look_at, pair_from, start_of}
use Rattle.trace.proofs.Kept.{Keeps, chosen_apart, counted_keeps, look_keeps, runs_keeps, trained_keeps}
use Rattle.trace.proofs.Passes.{pair_look}
use Rattle.update.specs.Update.{updated_state}
use Rattle.boxrun.specs.Boxed.{OneCeiling, LentBoxed, Boxed}
use Rattle.boxrun.proofs.Kept.{boxed_reconstructed}
use Rattle.boxrun.proofs.Moved.{boxed_moved}
use Rattle.boxrun.proofs.Started.{boxed_started}
use Rattle.boxrun.proofs.Step.{plain, boxed_updated}

module _ (g : Given) (m : List ℕ) {b : Float} {bs : List Float} (o : OneCeiling (problem_of g m) g.floor b bs) where
  abbrev p : Problem
  p = problem_of g m

  abbrev B : State → Type 0
  B = Boxed b p

  -- the step of a pair that is chosen is no NaN
  step_real : (w : Full) (i j : ℕ) → chosen g m w ≡ Some (i, j) → Keeps g B w → NotNan (delta_at p w.state g.floor i j)
  unfolding chosen
  step_real w i j e h = go g.nu e
    where
      hi : i < g.n
      hi = let q = chosen_below g m w i j e in let a = h.active in omega (arith, q.0)

      hj : j < g.n
      hj = let q = chosen_below g m w i j e in let a = h.active in omega (arith, q.1)

      go : (x : Bool) → cond x (choice_nu p w.state g.floor g.eps w.run.active) (choice_c p w.state g.floor g.eps w.run.active) ≡ Some (i, j)
          → NotNan (delta_at p w.state g.floor i j)
      go true q = no_nan_nu p w.state g.floor i j g.eps w.run.active (plain o h.kept i j hi hj) q
      go false q = no_nan_c p w.state g.floor i j g.eps w.run.active (plain o h.kept i j hi hj) q

  by_rebuilt : (s : State) (a : ℕ) → a ≤ g.n → B s → B (over s (reconstructed p (repaired g.mode) a s))
  by_rebuilt s a l w = boxed_reconstructed {b = b} {p = p} s (repaired g.mode) a l w

  by_moved : (s : State) (i j : ℕ) → i < g.n → j < g.n → B s → B (moved g.n s i j)
  by_moved s i j x y w = boxed_moved w i j x y

  by_updated : (w : Full) (i j : ℕ) → chosen g m w ≡ Some (i, j) → Keeps g B w → B (updated_state p bs g.mode g.floor w.state i j w.run.active)
  by_updated w i j e h =
      let l = chosen_below g m w i j e in
      boxed_updated o h.kept g.mode i j w.run.active (omega (arith, l.0, h.active)) (omega (arith, l.1, h.active)) h.active (chosen_apart g m w i j e) (step_real w i j e h)

  box_runs : (s : State) → LentBoxed b p s → (t : ℕ) → Keeps g B (runs g m bs (start_of g m bs s) t)
  box_runs s h t = runs_keeps g m B by_rebuilt by_moved bs by_updated (start_of g m bs s) t (record { kept = boxed_started p bs h; active = omega arith })

  -- every weight lies in 0..b after each pass
  pub box_weights : (s : State) → LentBoxed b p s → (t k : ℕ) → k < g.n → In b (alpha p (runs g m bs (start_of g m bs s) t).state k).value
  box_weights s h t k l = ((box_runs s h t).kept.lent.held k l).value

  -- and at the end, whatever the budget
  pub box_trained : (s : State) → LentBoxed b p s → (budget k : ℕ) → k < g.n → In b (alpha p (trained g m bs budget s).state k).value
  box_trained s h budget k l =
      ((trained_keeps g m B by_rebuilt by_moved bs by_updated budget s (boxed_started p bs h)).kept.lent.held k l).value

  -- the pair that is chosen there steps by no NaN
  pub no_nan_chosen : (s : State) → LentBoxed b p s → (t i j : ℕ) → chosen g m (runs g m bs (start_of g m bs s) t) ≡ Some (i, j)
      → NotNan (delta_at p (runs g m bs (start_of g m bs s) t).state g.floor i j)
  no_nan_chosen s h t i j e = step_real (runs g m bs (start_of g m bs s) t) i j e (box_runs s h t)

  -- no step is NaN: where the pass after t steps with i and j, it steps from its last look
  pub no_nan_runs : (s : State) → LentBoxed b p s → (t i j : ℕ) → pair_from g m (runs g m bs (start_of g m bs s) t) ≡ Some (i, j)
      → NotNan (delta_at p (look_at g m (counted_down g m (runs g m bs (start_of g m bs s) t))).state g.floor i j)
  no_nan_runs s h t i j e =
      let w = runs g m bs (start_of g m bs s) t in
      let v = counted_down g m w in
      step_real (look_at g m v) i j (pair_look g m w i j e)
      (look_keeps g m B by_rebuilt by_moved v (counted_keeps g m B by_rebuilt by_moved w (box_runs s h t)))
