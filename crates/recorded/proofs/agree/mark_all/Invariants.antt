use mathlib.Core.Path.{◌≡◌}
use lib.ListN.{length}
use Rattle.recorded.specs.Agree.{marks_to}
use Rattle.recorded.proofs.agree.mark_all.Given as goal

abbrev pub invariant-loop-k : goal.invariant-loop-k
invariant-loop-k g l = (length l.d ≡ length l.initial.d) × (l.d ≡ marks_to g.T.Mark.mark_at l.initial.d l.k)
