-- The answer by the run's status. Assumes nothing.
use Prim.Native.Nat.{ℕ}
use mathlib.Core.Bool.{true, false}
use mathlib.Core.List.{List}
use mathlib.Core.Path.{◌≡◌}
use lib.Ieee.{Float}
use Rattle.std.specs.Prelude.{Ok, Err}
use Rattle.rho.specs.declared.Level.{Level}
use Rattle.solver.specs.Run.{Full}
use Rattle.solver.specs.declared.Given.{Given}
use Rattle.solver.specs.End.{trained}
use Rattle.state.specs.Lists.{State, state}
use Rattle.answer.specs.Lent.{Lent, Whole, whole, cleared}
use Rattle.answer.specs.Solved.{stuck, Read, read, answer_of, crate_of, home_of, level_at, settled_by, settled_of, solved}
use Rattle.answer.specs.declared.Answer.{Answer}
use Rattle.answer.specs.declared.Finish.{Finish}
use Rattle.judge.specs.declared.Refusal.TheVariants.{ShrunkAway}

module _ (g : Given) (how : Finish) (l : List ℕ) (budget : ℕ) (w : Full) (c h : List Float) where
  pub settled_stuck : stuck w.run.status ≡ true → ◌≡◌ {A = Read} (read (Err ShrunkAway) c h) (settled_of g how l budget w c h)
  unfolding settled_by
  settled_stuck e = rw e

  pub settled_fine : (v : Level) (c' h' : List Float) (a : Answer) → stuck w.run.status ≡ false → v ≡ level_at g w → c' ≡ crate_of g how l w v c
      → h' ≡ home_of g how l w v h → a ≡ answer_of g how budget w v h' → ◌≡◌ {A = Read} (read (Ok a) c' h') (settled_of g how l budget w c h)
  unfolding settled_by
  settled_fine v c' h' a e x y z q = rw (q, z, y, x, e)

pub solved_by : (g : Given) (how : Finish) (m l : List ℕ) (b : List Float) (budget : ℕ) (d : Lent) (w : Full) (x : Read) (z : State)
    → w ≡ trained g m b budget (state d.floats d.numbers d.bytes) → x ≡ settled_of g how l budget w d.crate d.home → z ≡ cleared g.n w.state
    → ◌≡◌ {A = Whole} (whole x.out x.crate x.home z.floats z.numbers z.labels) (solved g how m l b budget d)
unfolding solved
solved_by g how m l b budget d w x z e f h = rw (h, f, e)
