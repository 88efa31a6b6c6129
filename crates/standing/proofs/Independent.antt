-- Two trainings that differ in retired samples only end with one small record, one rho, r and obj, and the same weights. Assumes nothing.
use Prim.Native.Nat.{ℕ, ◌<◌}
use mathlib.Core.Bool.{Bool}
use mathlib.Core.List.{List}
use mathlib.Core.Path.{◌≡◌, refl}
use lib.Ieee.{Float}
use Rattle.solver.specs.Run.{problem_of, Full, full, ready_of}
use Rattle.solver.specs.declared.Given.{Given}
use Rattle.start.specs.Start.{started}
use Rattle.state.specs.Fields.{alpha}
use Rattle.state.specs.Lists.{State, Ready}
use Rattle.trace.proofs.Rests.{same_started}
use Rattle.standing.proofs.Alike.{LentAlike, SameBounds}
use Rattle.standing.specs.End.{level_over, objective_over}
use Rattle.standing.specs.Run.{trained_over}
use Rattle.standing.proofs.Ends.{level_alike, objective_alike}
use Rattle.standing.proofs.Runs.{Twins, runs_twins, runs_order}
use Rattle.standing.proofs.Starts.{started_alike}

module _ (stands : ℕ → Bool) (g : Given) (m m' : List ℕ) (b c : List Float) (B : SameBounds stands g.n b c) (s t : State)
    (R : Ready (problem_of g m) s) (R' : Ready (problem_of g m') t) (A : LentAlike stands (problem_of g m) (problem_of g m') s t) (O : s.numbers ≡ t.numbers) (budget : ℕ) where
  abbrev w : Full
  w = trained_over stands g m b budget s

  abbrev v : Full
  v = trained_over stands g m' c budget t

  pub trained_twins : Twins stands g m m' w v
  unfolding trained_over
  trained_twins =
      runs_twins stands g m m' b c B (full (ready_of g.n) (started (problem_of g m) b s) s.numbers s.labels)
      (full (ready_of g.n) (started (problem_of g m') c t) t.numbers t.labels) budget
      (record {
        run = refl;
        active = refl;
        order = O;
        alike = started_alike stands g.n g.side g.kind m m' b c s t R R' A;
        long = rw (same_started (problem_of g m) b s).long R.floats;
        long' = rw (same_started (problem_of g m') c t).long R'.floats;
      })

  pub same_run : w.run ≡ v.run
  same_run = trained_twins.run

  pub same_weights : (k : ℕ) → k < g.n → (alpha (problem_of g m) w.state k).value ≡ (alpha (problem_of g m') v.state k).value
  same_weights = trained_twins.alike.weights

  pub same_level : (nu x : Bool) → level_over stands g.n w.state.floats w.state.labels nu x ≡ level_over stands g.n v.state.floats v.state.labels nu x
  same_level = level_alike stands g.n g.side g.kind m m' w.state v.state trained_twins.alike

  pub same_objective : objective_over stands g.n w.state.floats ≡ objective_over stands g.n v.state.floats
  same_objective = objective_alike stands g.n g.side g.kind m m' w.state v.state trained_twins.alike

pub trained_order : (stands : ℕ → Bool) (g : Given) (m : List ℕ) (b : List Float) (budget : ℕ) (s : State) → (trained_over stands g m b budget s).state.numbers ≡ s.numbers
unfolding trained_over
trained_order stands g m b budget s = runs_order stands g m b (full (ready_of g.n) (started (problem_of g m) b s) s.numbers s.labels) budget
