-- A run over loaded lists, its answer, and the scratch cleared: what every entry ends in.
use Rattle.std.specs.Prelude.{ℕ, Bool, true, false, List, Float, Result, Ok, Err}
use Rattle.modes.specs.Modes.{repaired}
use Rattle.readings.specs.Order.{crate_reading, home_reading, weight_in}
use Rattle.rho.specs.Rho.{level_by}
use Rattle.rho.specs.declared.Level.{Level}
use Rattle.solver.specs.End.{objective_of, trained}
use Rattle.solver.specs.Run.{Full}
use Rattle.solver.specs.declared.Given.{Given}
use Rattle.solver.specs.declared.Status.{Status}
use Rattle.state.specs.Lists.{State, state}
use Rattle.answer.specs.Answer.{finished_to, support_of, rho_of, obj_of, ratio_of, reason_of}
use Rattle.answer.specs.Lent.{Lent, Whole, whole, cleared}
use Rattle.answer.specs.declared.Answer.{Answer}
use Rattle.answer.specs.declared.Finish.{Finish}
use Rattle.judge.specs.declared.Refusal.{Refusal}
use Rattle.judge.specs.declared.Refusal.TheVariants.{ShrunkAway}

unfoldable pub stuck : Status → Bool
stuck Status.Going = false
stuck Status.Done = false
stuck Status.Refused = true

-- the answer, and both result lists
pub record Read : Type 0 where
  pub out : Result Answer Refusal
  pub crate : List Float
  pub home : List Float

abbrev pub read : Result Answer Refusal → List Float → List Float → Read
read o c h = record { out = o; crate = c; home = h }

-- the answer of a run that ended: v is rho and r, home its own reading
abbrev pub answer_of : Given → Finish → ℕ → Full → Level → List Float → Answer
answer_of g how budget w v home = record {
  rho = rho_of how v;
  r = ratio_of g.nu v;
  obj = obj_of how v (objective_of g.n w.state.floats);
  iterations = w.run.iterations;
  exit_reason = reason_of w.run.iterations budget;
  support = support_of home g.n;
}

-- l are the original labels, v is rho and r
unfoldable pub crate_of : Given → Finish → List ℕ → Full → Level → List Float → List Float
crate_of g how l w v c = finished_to how l v.r (crate_reading g.n w.state.numbers (weight_in g.n w.state.floats) c) g.n

unfoldable pub home_of : Given → Finish → List ℕ → Full → Level → List Float → List Float
home_of g how l w v h = finished_to how l v.r (home_reading g.n w.state.numbers (weight_in g.n w.state.floats) h) g.n

unfoldable pub level_at : Given → Full → Level
level_at g w = level_by g.nu (repaired g.mode) g.n w.state.floats w.state.labels w.run.active

-- refused: both result lists stay
unfoldable pub settled_by : Bool → Given → Finish → List ℕ → ℕ → Full → List Float → List Float → Read
settled_by true g how l budget w c h = read (Err ShrunkAway) c h
settled_by false g how l budget w c h =
    let v = level_at g w in
    let home = home_of g how l w v h in
    read (Ok (answer_of g how budget w v home)) (crate_of g how l w v c) home

abbrev pub settled_of : Given → Finish → List ℕ → ℕ → Full → List Float → List Float → Read
settled_of g how l budget w c h = settled_by (stuck w.run.status) g how l budget w c h

-- the outcome and the two readings, with the scratch cleared
abbrev pub closed_with : ℕ → State → Read → Whole
closed_with n s r =
    let z = cleared n s in
    whole r.out r.crate r.home z.floats z.numbers z.labels

-- b are the ceilings by place; d's scratch is loaded
unfoldable pub solved : Given → Finish → List ℕ → List ℕ → List Float → ℕ → Lent → Whole
solved g how m l b budget d =
    let w = trained g m b budget (state d.floats d.numbers d.bytes) in
    closed_with g.n w.state (settled_of g how l budget w d.crate d.home)
