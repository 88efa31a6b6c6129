-- With shrinking off the rule's run and the run without an order table stay side by side, pass for pass. Assumes nothing.
use Prim.Native.Nat.{ℕ, zero, suc, ◌+◌, ◌≤◌, ◌<◌}
use mathlib.Core.Bool.{Bool, true, false, cond}
use mathlib.Core.List.{List}
use mathlib.Core.Path.{◌≡◌, refl, ap, ◌∙◌}
use lib.Ieee.{Float}
use lib.ListN.{length}
use Rattle.std.specs.Prelude.{Option, Some, None}
use Rattle.solver.specs.End.{trained}
use Rattle.solver.specs.Pass.{chosen, counted_down, stepped, looked, worked_by, onward, passed, next, runs}
use Rattle.solver.specs.Run.{problem_of, Full, full, goes, ready_of}
use Rattle.solver.specs.declared.Given.{Given}
use Rattle.solver.specs.declared.Status.TheVariants.{Going, Done}
use Rattle.solver.proofs.Laws.{chosen_below}
use Rattle.start.specs.Start.{started}
use Rattle.state.specs.Lists.{Problem, state}
use Rattle.trace.proofs.Off.{refreshed_off, closed_off, counted_off}
use Rattle.update.specs.Update.{updated}
use Rattle.orderless.specs.Choice.{choice_in}
use Rattle.orderless.specs.Run.{Course, course, passes, goes_on}
use Rattle.orderless.specs.Sheet.{Sheet, sized, read_in}
use Rattle.orderless.proofs.Chosen.{choice_in_law}
use Rattle.orderless.proofs.Relation.{Lent, Mirrors}
use Rattle.orderless.proofs.Laid.{length_steps, steps_mirror}

goes_is : (x : Bool) → goes (cond x Going Done) ≡ x
unfolding goes
goes_is true = refl
goes_is false = refl

module _ (g : Given) (m u y : List ℕ) (top : Bool → Float) (b : List Float) (C : Lent g m u y top b) (term : ℕ → Float) where
  abbrev p : Problem
  p = problem_of g m

  abbrev sheet : Course → Sheet
  sheet v = read_in g.nu g.n v.floats

  -- w is the rule's run, v the one without an order table
  pub record Beside (w : Full) (v : Course) : Type 0 where
    pub floats : List Float
    pub state : w.state ≡ state floats u y
    pub mirrors : Mirrors g m u y top term floats (read_in g.nu g.n v.floats)
    pub long : sized g.nu g.n ≤ length v.floats
    pub steps : w.run.iterations ≡ v.steps
    pub status : w.run.status ≡ cond v.going Going Done
    pub active : w.run.active ≡ g.n

  chosen_is : (w : Full) (v : Course) → Beside w v → chosen g m w ≡ choice_in g m y (sheet v)
  unfolding chosen
  chosen_is w v B = rw (B.state, B.active) (choice_in_law g m u y top b C term B.floats (sheet v) B.mirrors)

  goes_with : (w : Full) (v : Course) → Beside w v → goes w.run.status ≡ v.going
  goes_with w v B = ap goes B.status ∙ goes_is v.going

  step_beside : (w : Full) (v : Course) → v.going ≡ true → Beside w v → (i j : ℕ) → i < g.n → j < g.n → Beside (stepped g m b w i j) (passes g m y top v (Some (i, j)))
  unfolding passes stepped
  step_beside w v h B i j I J = record {
    floats = updated p b g.mode g.floor (state B.floats u y) i j g.n;
    state = rw (B.state, B.active);
    mirrors = steps_mirror g m y top v.floats B.long i j I J u b C term B.floats B.mirrors;
    long = rw (length_steps g m y top v.floats B.long i j I J) B.long;
    steps = ap (λ (x : ℕ). x + 1) B.steps;
    status = B.status ∙ rw h;
    active = B.active;
  }

  worked_beside : (w : Full) (v : Course) → v.going ≡ true → Beside w v → (c : Option (ℕ × ℕ)) → chosen g m w ≡ c → Beside (worked_by g m b w c) (passes g m y top v c)
  unfolding worked_by looked passes
  worked_beside w v h B (Some (i, j)) q =
      let r = rw B.active at (chosen_below g m w i j q) in
      step_beside w v h B i j r.0 r.1
  worked_beside w v h B None q = rw (refreshed_off g m w B.active, q) (record {
    floats = B.floats;
    state = B.state;
    mirrors = B.mirrors;
    long = B.long;
    steps = B.steps;
    status = refl;
    active = B.active;
  })

  module _ (off : g.shrinking ≡ false) where
    -- the counter counts for nothing
    counted_beside : (w : Full) (v : Course) → Beside w v → Beside (counted_down g m w) v
    counted_beside w v B =
        let c = counted_off g m off w in
        record {
          floats = B.floats;
          state = c.state ∙ B.state;
          mirrors = B.mirrors;
          long = B.long;
          steps = c.iterations ∙ B.steps;
          status = c.status ∙ B.status;
          active = c.active ∙ B.active;
        }

    pass_beside : (w : Full) (v : Course) → v.going ≡ true → Beside w v → Beside (passed g m b w) (passes g m y top v (choice_in g m y (sheet v)))
    unfolding passed onward
    pass_beside w v h B =
        let k = counted_down g m w in
        let D = counted_beside w v B in
        let q = chosen_is k v D in
        rw (goes_with k v D ∙ h, q) (worked_beside k v h D (choice_in g m y (sheet v)) q)

    next_beside : (w : Full) (v : Course) → Beside w v → (x : Bool) → v.going ≡ x → Beside (next g m b x w) (cond x (passes g m y top v (choice_in g m y (sheet v))) v)
    unfolding next
    next_beside w v B true h = pass_beside w v h B
    next_beside w v B false h = B

    one_more : (w : Full) (v : Course) → Beside w v → Beside (next g m b (goes w.run.status) w) (cond v.going (passes g m y top v (choice_in g m y (sheet v))) v)
    one_more w v B = rw (goes_with w v B) (next_beside w v B v.going refl)

    pub runs_beside : (w : Full) (v : Course) → Beside w v → (t : ℕ) → Beside (runs g m b w t) (goes_on g m y top v t)
    unfolding runs goes_on
    runs_beside w v B zero = B
    runs_beside w v B (suc t) = one_more (runs g m b w t) (goes_on g m y top v t) (runs_beside w v B t)

    -- the whole: f is lent to the rule's run, and l is what the start leaves of the other's
    pub trained_beside : (f l : List Float) → Mirrors g m u y top term (started p b (state f u y)) (read_in g.nu g.n l) → sized g.nu g.n ≤ length l
        → (budget : ℕ) → Beside (trained g m b budget (state f u y)) (goes_on g m y top (course l 0 true) budget)
    unfolding trained
    trained_beside f l M long budget =
        let s = started p b (state f u y) in
        let w = full (ready_of g.n) s u y in
        let B = runs_beside w (course l 0 true) (record { floats = s; state = refl; mirrors = M; long = long; steps = refl; status = refl; active = refl }) budget in
        rw (closed_off g m budget (runs g m b w budget) B.active) B
