-- With shrinking off the order stays as it was, all n positions stay active, and no run is refused. Assumes nothing.
use Prim.Native.Nat.{ℕ, zero, suc}
use mathlib.Core.Bool.{Bool, true, false}
use mathlib.Core.List.{List}
use mathlib.Core.Path.{◌≡◌, refl, ap, ◌∙◌}
use lib.Ieee.{Float}
use Rattle.std.specs.Prelude.{Option, Some, None}
use Rattle.answer.specs.Solved.{stuck}
use Rattle.solver.specs.End.{closed, trained}
use Rattle.solver.specs.Pass.{chosen, counted_down, stepped, looked, worked_by, onward, passed, next, runs}
use Rattle.solver.specs.Run.{Full, with_run, goes, counter_at}
use Rattle.solver.specs.declared.Given.{Given}
use Rattle.state.specs.Lists.{State}
use Rattle.trace.proofs.Off.{refreshed_off, closed_off, counted_off}
use Rattle.classification.specs.Still.{Still}

module _ (g : Given) (m : List ℕ) (b : List Float) (off : g.shrinking ≡ false) (u : List ℕ) where
  counted_still : (w : Full) → Still u g.n w → Still u g.n (counted_down g m w)
  counted_still w s =
      let c = counted_off g m off w in
      record { order = ap (λ (z : State). z.numbers) c.state ∙ s.order; active = c.active ∙ s.active; free = ap stuck c.status ∙ s.free }

  stepped_still : (w : Full) (i j : ℕ) → Still u g.n w → Still u g.n (stepped g m b w i j)
  unfolding stepped
  stepped_still w i j s = record { order = s.order; active = s.active; free = s.free }

  looked_still : (w : Full) (c : Option (ℕ × ℕ)) → Still u g.n w → Still u g.n (looked g m b w c)
  unfolding looked stuck
  looked_still w (Some (i, j)) s = stepped_still (with_run w (counter_at w.run 1)) i j (record { order = s.order; active = s.active; free = s.free })
  looked_still w None s = record { order = s.order; active = s.active; free = refl }

  worked_still : (w : Full) (c : Option (ℕ × ℕ)) → Still u g.n w → Still u g.n (worked_by g m b w c)
  unfolding worked_by
  worked_still w (Some (i, j)) s = stepped_still w i j s
  worked_still w None s = rw (refreshed_off g m w s.active) (looked_still w (chosen g m w) s)

  onward_still : (x : Bool) (w : Full) → Still u g.n w → Still u g.n (onward g m b x w)
  unfolding onward
  onward_still true w s = worked_still w (chosen g m w) s
  onward_still false w s = s

  next_still : (x : Bool) (w : Full) → Still u g.n w → Still u g.n (next g m b x w)
  unfolding next passed
  next_still true w s = onward_still (goes (counted_down g m w).run.status) (counted_down g m w) (counted_still w s)
  next_still false w s = s

  pub runs_still : (w : Full) (t : ℕ) → Still u g.n w → Still u g.n (runs g m b w t)
  unfolding runs
  runs_still w zero s = s
  runs_still w (suc t) s = next_still (goes (runs g m b w t).run.status) (runs g m b w t) (runs_still w t s)

  closed_still : (budget : ℕ) (w : Full) → Still u g.n w → Still u g.n (closed g m budget w)
  closed_still budget w s = rw (closed_off g m budget w s.active) s

  pub trained_still : (budget : ℕ) (s : State) → s.numbers ≡ u → Still u g.n (trained g m b budget s)
  unfolding trained stuck
  trained_still budget s e = closed_still budget _ (runs_still _ budget (record { order = e; active = refl; free = refl }))
