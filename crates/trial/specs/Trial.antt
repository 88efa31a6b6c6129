-- What a trial answers.
use Rattle.std.specs.Prelude.{ℕ, ◌+◌, ◌*◌, Bool, false, not, cond, List, eqb, ltb, Float, set}
use Rattle.alpha.specs.Weight as Weight
use Rattle.kernel.specs.declared.Kind.TheVariants.{TwoClass}
use Rattle.modes.specs.declared.Mode.TheVariants.{Crate}
use Rattle.rho.specs.Rho.{level_by}
use Rattle.rho.specs.declared.Level.{Level}
use Rattle.solver.specs.End.{objective_of}
use Rattle.solver.specs.Run.{Full}
use Rattle.solver.specs.declared.Given.{Given}
use Rattle.solver.specs.declared.Run.{Run}
use Rattle.solver.specs.declared.Status.{Status}
use Rattle.solver.specs.declared.Status.TheVariants.{Going, Done, Refused}

abbrev pub code_of : Status → ℕ
code_of Going = 0
code_of Done = 1
code_of Refused = 2

abbrev pub trial_given : ℕ → ℕ → ℕ → Float → Given
trial_given n nu shrinking eps = record {
  n = n;
  side = n;
  kind = TwoClass;
  mode = Crate;
  floor = Weight.floor;
  eps = eps;
  shrinking = not (eqb shrinking 0);
  nu = not (eqb nu 0);
}

-- 4·iterations, and how the run ended
unfoldable pub coded_of : Run → ℕ
coded_of r = cond (ltb 10000000 r.iterations) 3 (4 * r.iterations + code_of r.status)

abbrev pub put_of : List Float → Level → Float → List Float
put_of o l obj = set (set (set o 0 l.rho) 1 l.r) 2 obj

-- out after a run that left w
unfoldable pub out_of : Bool → ℕ → List Float → Full → List Float
out_of nu n o w = put_of o (level_by nu false n w.state.floats w.state.labels w.run.active) (objective_of n w.state.floats)
