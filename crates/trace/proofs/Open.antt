-- Repaired, no run is refused with 11. Assumes nothing.
use Prim.Native.Nat.{ℕ, zero, suc, ◌-◌}
use mathlib.Core.Bool.{Bool, true, false, not, ◌&&◌, cond}
use mathlib.Core.List.{List}
use mathlib.Core.Path.{◌≡◌, refl, sym, ◌∙◌}
use native.Mathlib.Omega.{arith}
use lib.Dec.{eqb, ltb}
use lib.Ieee.{Float, binary64, mul, le}
use Rattle.std.specs.Prelude.{Option, Some, None}
use Rattle.choose_c.specs.Choice.{extremes_c}
use Rattle.choose_nu.specs.Choice.{extremes_nu}
use Rattle.modes.specs.Modes.{repaired}
use Rattle.shrink.specs.Drops.{limits_nu, drops_at, walked_over}
use Rattle.shrink.specs.Walk.{walked}
use Rattle.shrink.specs.declared.Limits.{Limits}
use Rattle.shrink.proofs.Accepts.{walked_accepts}
use Rattle.solver.specs.End.{closed, trained}
use Rattle.solver.specs.Pass.{ten, chosen, rebuilt, refreshed, tops_c, tops_nu, tops_of, restored, walked_from, shrunk, counted_down, stepped, looked, worked_by, onward, passed, next, runs}
use Rattle.solver.specs.Run.{problem_of, Full, with_run, goes, counter_at, active_at, reopened, period, ready_of, full}
use Rattle.solver.specs.declared.Given.{Given}
use Rattle.solver.specs.declared.Status.TheVariants.{Going, Done, Refused}
use Rattle.start.specs.Start.{started}
use Rattle.state.specs.Lists.{State}
use Rattle.state.specs.Moving.{moved}

walk_accepts : (l : Limits) → l.ends ≡ true → (n a : ℕ) (s : State) → (walked_over n l a s).refused ≡ false
walk_accepts l e n a s = go l.ends (drops_at n l) e
  where
    go : (x : Bool) (drops : State → ℕ → Bool) → x ≡ true → (walked x drops (moved n) a s a).refused ≡ false
    go x drops q = rw q (walked_accepts drops (moved n) a s a)

abbrev Open : Full → Type 0
Open w = w.run.status ≡ Refused → ⊥

module _ (g : Given) (m : List ℕ) (h : repaired g.mode ≡ true) where
  ends : (w : Full) → (tops_of g m w).limits.ends ≡ true
  unfolding tops_of limits_nu
  ends w = go g.nu
    where
      go : (x : Bool) → (cond x (tops_nu (repaired g.mode) (extremes_nu (problem_of g m) w.state w.run.active)) (tops_c (repaired g.mode) (extremes_c (problem_of g m) w.state w.run.active))).limits.ends ≡ true
      go true = h
      go false = h

  restored_kept : (level : Float) (w : Full) → (restored g m level w).run.status ≡ w.run.status
  unfolding restored
  restored_kept level w = go (not w.run.unshrink && le level (mul binary64 g.eps ten))
    where
      go : (x : Bool) → (cond x (with_run (rebuilt g m w) (reopened w.run g.n)) w).run.status ≡ w.run.status
      go true = refl
      go false = refl

  shrunk_kept : (w : Full) → (shrunk g m w).run.status ≡ w.run.status
  unfolding shrunk walked_from
  shrunk_kept w =
      let v = restored g m (tops_of g m w).level w in
      rw (walk_accepts (tops_of g m w).limits (ends w) g.n v.run.active v.state) (restored_kept (tops_of g m w).level w)

  counted_kept : (w : Full) → (counted_down g m w).run.status ≡ w.run.status
  unfolding counted_down
  counted_kept w = go (ltb 0 (w.run.counter - 1)) g.shrinking
    where
      v : Full
      v = with_run w (counter_at w.run (period g.n))

      go : (x y : Bool) → (cond x (with_run w (counter_at w.run (w.run.counter - 1))) (cond y (shrunk g m v) v)).run.status ≡ w.run.status
      go true y = refl
      go false true = shrunk_kept v
      go false false = refl

  refreshed_kept : (w : Full) → (refreshed g m w).run.status ≡ w.run.status
  unfolding refreshed
  refreshed_kept w = go (repaired g.mode)
    where
      go : (x : Bool) → (cond x (active_at w.run g.n) w.run).status ≡ w.run.status
      go true = refl
      go false = refl

  done_open : Done ≡ Refused → ⊥
  done_open e = let z : ◌≡◌ {A = ℕ} 0 1 = cc in omega arith

  going_open : Going ≡ Refused → ⊥
  going_open e = let z : ◌≡◌ {A = ℕ} 0 1 = cc in omega arith

  module _ (b : List Float) where
    looked_open : (w : Full) (c : Option (ℕ × ℕ)) → Open w → Open (looked g m b w c)
    unfolding looked stepped
    looked_open w (Some (i, j)) o e = o e
    looked_open w None o e = done_open e

    worked_open : (w : Full) (c : Option (ℕ × ℕ)) → Open w → Open (worked_by g m b w c)
    unfolding worked_by stepped
    worked_open w (Some (i, j)) o e = o e
    worked_open w None o e = looked_open (refreshed g m w) (chosen g m (refreshed g m w)) (λ z. o (sym (refreshed_kept w) ∙ z)) e

    onward_open : (x : Bool) (w : Full) → Open w → Open (onward g m b x w)
    unfolding onward
    onward_open true w o = worked_open w (chosen g m w) o
    onward_open false w o = o

    passed_open : (w : Full) → Open w → Open (passed g m b w)
    unfolding passed
    passed_open w o = let v = counted_down g m w in onward_open (goes v.run.status) v (λ e. o (sym (counted_kept w) ∙ e))

    next_open : (x : Bool) (w : Full) → Open w → Open (next g m b x w)
    unfolding next
    next_open true w o = passed_open w o
    next_open false w o = o

    pub runs_open : (w : Full) (t : ℕ) → Open w → Open (runs g m b w t)
    unfolding runs
    runs_open w zero o = o
    runs_open w (suc t) o = let v = runs g m b w t in next_open (goes v.run.status) v (runs_open w t o)

    -- refusal 11 never occurs
    pub trained_open : (budget : ℕ) (s : State) → Open (trained g m b budget s)
    unfolding trained closed
    trained_open budget s = go (eqb v.run.iterations budget && ltb v.run.active g.n)
      where
        v : Full
        v = runs g m b (full (ready_of g.n) (started (problem_of g m) b s) s.numbers s.labels) budget

        o : Open v
        o = runs_open (full (ready_of g.n) (started (problem_of g m) b s) s.numbers s.labels) budget going_open

        go : (x : Bool) → Open (cond x (with_run (rebuilt g m v) (active_at v.run g.n)) v)
        go true = o
        go false = o
