-- What a run holds besides the lent lists.
use Rattle.std.specs.Prelude.{ℕ, ◌+◌, ◌≤◌, Bool, true, false, cond, List, ltb, Float}
use Rattle.state.specs.Lists.{Problem, problem, State, state}
use Rattle.solver.specs.declared.Given.{Given}
use Rattle.solver.specs.declared.Run.{Run}
use Rattle.solver.specs.declared.Status.{Status}
use Rattle.solver.specs.declared.Status.TheVariants.{Going, Done, Refused}

abbrev pub problem_of : Given → List ℕ → Problem
problem_of g m = problem g.n g.side g.kind m

-- the small record with the lent lists
pub record Full : Type 0 where
  pub run : Run
  pub state : State

abbrev pub full : Run → List Float → List ℕ → List ℕ → Full
full r f u y = record { run = r; state = state f u y }

abbrev pub with_floats : Full → List Float → Full
with_floats w f = full w.run f w.state.numbers w.state.labels

abbrev pub with_run : Full → Run → Full
with_run w r = record { run = r; state = w.state }

unfoldable pub goes : Status → Bool
goes Going = true
goes Done = false
goes Refused = false

abbrev pub counter_at : Run → ℕ → Run
counter_at r c = record { active = r.active; counter = c; iterations = r.iterations; unshrink = r.unshrink; status = r.status }

abbrev pub active_at : Run → ℕ → Run
active_at r a = record { active = a; counter = r.counter; iterations = r.iterations; unshrink = r.unshrink; status = r.status }

abbrev pub reopened : Run → ℕ → Run
reopened r n = record { active = n; counter = r.counter; iterations = r.iterations; unshrink = true; status = r.status }

abbrev pub advanced : Run → Run
advanced r = record { active = r.active; counter = r.counter; iterations = r.iterations + 1; unshrink = r.unshrink; status = r.status }

abbrev pub ended : Run → Run
ended r = record { active = r.active; counter = r.counter; iterations = r.iterations; unshrink = r.unshrink; status = Done }

-- after a walk: its count, and refused where it was
abbrev pub after_walk : Run → ℕ → Bool → Run
after_walk r a refused =
    record { active = a; counter = r.counter; iterations = r.iterations; unshrink = r.unshrink; status = cond refused Refused r.status }

-- min(n, 1000)
unfoldable pub period : ℕ → ℕ
period n = cond (ltb n 1000) n 1000

-- before the first pass
abbrev pub ready_of : ℕ → Run
ready_of n = record { active = n; counter = period n + 1; iterations = 0; unshrink = false; status = Going }

-- what each pass keeps of the small record
pub record Sound (n : ℕ) (r : Run) : Type 0 where
  pub active : r.active ≤ n
  pub some : 1 ≤ r.counter
  pub few : r.counter ≤ 1001
