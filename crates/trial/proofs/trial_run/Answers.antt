use mathlib.Core.Bool.{not}
use mathlib.Core.Path.{ap}
use lib.Dec.{eqb}
use Rattle.solver.specs.Run.{Full}
use Rattle.trial.specs.Trial.{out_of}
use Rattle.trial.proofs.trial_run.Goals as goal

pub returns-clause-out : goal.returns-clause-out
unfolding out_of
returns-clause-out c =
    rw (c.put.ensures, c.level_by-l.ensures, c.objective.ensures)
    (ap (λ (w : Full). out_of (not (eqb c.args.nu 0)) c.args.n c.args.out.now w) c.train-r.ensures.0)
