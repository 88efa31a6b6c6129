-- A pass by its tests. Assumes nothing.
use Prim.Native.Nat.{ℕ, zero, suc, ◌+◌, ◌-◌, ◌≤◌, ◌<◌}
use mathlib.Core.Bool.{Bool, true, false, not, ◌&&◌, cond}
use mathlib.Core.List.{List}
use mathlib.Core.Path.{◌≡◌, refl}
use native.Mathlib.Nat.{zero-add, suc-add}
use borrow.Author.Tests.{lt-ltb, le-ltb}
use denote.Enum.Bare.{sameb}
use lib.Dec.{eqb, ltb}
use lib.Ieee.{Float, binary64, mul, le}
use Rattle.std.specs.Prelude.{Some, None}
use Rattle.choose_c.specs.Choice.{choice_c}
use Rattle.choose_c.proofs.Rule as C
use Rattle.choose_nu.specs.Choice.{choice_nu}
use Rattle.choose_nu.proofs.Rule as Nu
use Rattle.modes.specs.Modes.{repaired}
use Rattle.shrink.specs.Drops.{walked_over}
use Rattle.shrink.specs.Walk.{Walking}
use Rattle.start.specs.Start.{started}
use Rattle.state.specs.Lists.{State}
use Rattle.solver.specs.Run.{ready_of, problem_of, Full, full, with_run, goes, counter_at, active_at, reopened, ended, after_walk, period}
use Rattle.solver.specs.End.{closed, trained}
use Rattle.solver.specs.Pass.{ten, chosen, rebuilt, refreshed, tops_of, restored, walked_from, shrunk, counted_down, stepped, looked, looked_again, worked_by, worked, onward, passed, next, runs}
use Rattle.solver.specs.declared.Given.{Given}
use Rattle.solver.specs.contracts.Status.{the_type}
use Rattle.solver.specs.declared.Run.{Run}
use Rattle.solver.specs.declared.Status.{Status}
use Rattle.solver.specs.declared.Status.TheVariants.{Going, Done, Refused}
use Rattle.solver.specs.declared.Tops.{Tops}

-- the derived == and !=
pub is_going : (s : Status) → sameb the_type s Going ≡ goes s
unfolding goes
is_going Going = refl
is_going Done = refl
is_going Refused = refl

pub not_going : (s : Status) (x : Bool) → x ≡ not (sameb the_type s Going) → goes s ≡ not x
unfolding goes
not_going Going x e = rw e
not_going Done x e = rw e
not_going Refused x e = rw e

restored_iterations : (g : Given) (m : List ℕ) (level : Float) (w : Full) → (restored g m level w).run.iterations ≡ w.run.iterations
unfolding restored
restored_iterations g m level w = go (not w.run.unshrink && le level (mul binary64 g.eps ten))
  where
    go : (x : Bool) → (cond x (with_run (rebuilt g m w) (reopened w.run g.n)) w).run.iterations ≡ w.run.iterations
    go true = refl
    go false = refl

shrunk_iterations : (g : Given) (m : List ℕ) (w : Full) → (shrunk g m w).run.iterations ≡ w.run.iterations
unfolding shrunk walked_from
shrunk_iterations g m w = restored_iterations g m (tops_of g m w).level w

module _ (g : Given) (m : List ℕ) (w : Full) where
  module _ (level : Float) where
    pub restored_before : w.run.unshrink ≡ true → w ≡ restored g m level w
    unfolding restored
    restored_before h = rw h

    pub restored_high : w.run.unshrink ≡ false → le level (mul binary64 g.eps ten) ≡ false → w ≡ restored g m level w
    unfolding restored
    restored_high h k = rw (h, k)

    pub restored_low : w.run.unshrink ≡ false → le level (mul binary64 g.eps ten) ≡ true
        → with_run (rebuilt g m w) (reopened w.run g.n) ≡ restored g m level w
    unfolding restored
    restored_low h k = rw (h, k)

  pub shrunk_by : (t : Tops) (v : Full) (k : Walking State) (q : Run) → t ≡ tops_of g m w → v ≡ restored g m t.level w
      → k ≡ walked_over g.n t.limits v.run.active v.state → q ≡ after_walk v.run k.active k.refused
      → ◌≡◌ {A = Full} (record { run = q; state = k.state }) (shrunk g m w)
  unfolding shrunk walked_from
  shrunk_by t v k q a b c d = rw (d, c, b, a)

  pub refreshed_by : (v : Full) → v ≡ rebuilt g m w → with_run v (cond (repaired g.mode) (active_at w.run g.n) w.run) ≡ refreshed g m w
  unfolding refreshed
  refreshed_by v e = rw e

  -- ---- the counter

  pub counted_some : 0 < w.run.counter - 1 → with_run w (counter_at w.run (w.run.counter - 1)) ≡ counted_down g m w
  unfolding counted_down
  counted_some h = rw (lt-ltb 0 (w.run.counter - 1) h)

  pub counted_none : w.run.counter - 1 ≤ 0 → g.shrinking ≡ false → with_run w (counter_at w.run (period g.n)) ≡ counted_down g m w
  unfolding counted_down
  counted_none h k = rw (le-ltb 0 (w.run.counter - 1) h, k)

  pub counted_shrunk : w.run.counter - 1 ≤ 0 → g.shrinking ≡ true → shrunk g m (with_run w (counter_at w.run (period g.n))) ≡ counted_down g m w
  unfolding counted_down
  counted_shrunk h k = rw (le-ltb 0 (w.run.counter - 1) h, k)

  -- no step is counted on the way
  pub counted_iterations : (counted_down g m w).run.iterations ≡ w.run.iterations
  unfolding counted_down
  counted_iterations = go (ltb 0 (w.run.counter - 1)) g.shrinking
    where
      go : (x y : Bool)
          → (cond x (with_run w (counter_at w.run (w.run.counter - 1))) (cond y (shrunk g m (with_run w (counter_at w.run (period g.n)))) (with_run w (counter_at w.run (period g.n))))).run.iterations
          ≡ w.run.iterations
      go true y = refl
      go false true = shrunk_iterations g m (with_run w (counter_at w.run (period g.n)))
      go false false = refl

  -- ---- the pair

  -- both of a pair are active
  pub chosen_below : (i j : ℕ) → chosen g m w ≡ Some (i, j) → (i < w.run.active) × (j < w.run.active)
  unfolding chosen
  chosen_below i j = go g.nu
    where
      go : (x : Bool)
          → cond x (choice_nu (problem_of g m) w.state g.floor g.eps w.run.active) (choice_c (problem_of g m) w.state g.floor g.eps w.run.active) ≡ Some (i, j)
          → (i < w.run.active) × (j < w.run.active)
      go true e = let r = ((Nu.pair_rule (problem_of g m) w.state w.run.active g.floor g.eps i j).0 e).1.second in (r.after.led.inside, r.inside)
      go false e = let r = ((C.pair_rule (problem_of g m) w.state w.run.active g.floor g.eps i j).0 e).1.second in (r.after.led.inside, r.inside)

  module _ (b : List Float) where
    pub looked_pair : (i j : ℕ) → chosen g m w ≡ Some (i, j) → stepped g m b (with_run w (counter_at w.run 1)) i j ≡ looked_again g m b w
    unfolding looked
    looked_pair i j e = rw e

    pub looked_none : chosen g m w ≡ None → with_run w (ended w.run) ≡ looked_again g m b w
    unfolding looked
    looked_none e = rw e

    pub worked_pair : (i j : ℕ) → chosen g m w ≡ Some (i, j) → stepped g m b w i j ≡ worked g m b w
    unfolding worked_by
    worked_pair i j e = rw e

    pub worked_none : chosen g m w ≡ None → looked_again g m b (refreshed g m w) ≡ worked g m b w
    unfolding worked_by
    worked_none e = rw e

    pub passed_on_law : (v : Full) → v ≡ counted_down g m w → goes v.run.status ≡ true → worked g m b v ≡ passed g m b w
    unfolding passed onward
    passed_on_law v e h = rw (← e, h)

    pub passed_off : (v : Full) → v ≡ counted_down g m w → goes v.run.status ≡ false → v ≡ passed g m b w
    unfolding passed onward
    passed_off v e h = rw (← e, h)

    -- ---- the run

    pub runs_on : (t : ℕ) (v : Full) → v ≡ runs g m b w t → goes v.run.status ≡ true → passed g m b v ≡ runs g m b w (suc t)
    unfolding runs next
    runs_on t v e h = rw (← e, h)

    -- once it has stopped, nothing more happens
    pub runs_off : (t k : ℕ) → goes (runs g m b w t).run.status ≡ false → runs g m b w (k + t) ≡ runs g m b w t
    unfolding runs next
    runs_off t zero h = simp zero-add
    runs_off t (suc k) h = rw (suc-add, runs_off t k h, h)

  -- ---- the end

  pub closed_out : (budget : ℕ) → (eqb w.run.iterations budget && ltb w.run.active g.n) ≡ true
      → with_run (rebuilt g m w) (active_at w.run g.n) ≡ closed g m budget w
  unfolding closed
  closed_out budget h = rw h

  pub closed_in : (budget : ℕ) → (eqb w.run.iterations budget && ltb w.run.active g.n) ≡ false → w ≡ closed g m budget w
  unfolding closed
  closed_in budget h = rw h

pub trained_by : (g : Given) (m : List ℕ) (b : List Float) (budget : ℕ) (s : State) (f : List Float) (r : Run) (v w : Full) → f ≡ started (problem_of g m) b s
    → r ≡ ready_of g.n → v ≡ runs g m b (full r f s.numbers s.labels) budget → w ≡ closed g m budget v → w ≡ trained g m b budget s
unfolding trained
trained_by g m b budget s f r v w x y z u = rw (u, z, y, x)
