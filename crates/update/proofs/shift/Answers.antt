use native.Mathlib.Numerals.{add-one}
use Rattle.kernel.specs.Row.{row_at}
use Rattle.update.specs.Update.{shifted_to}
use Rattle.update.proofs.shift.Goals as goal

pub loop-k-preserved : goal.loop-k-preserved
unfolding shifted_to row_at
loop-k-preserved c =
    rw (add-one, ← c.loop-k.invariant, ← c.index_at-ci.ensures.0, ← c.index_at-cj.ensures.0, c.pull-di.ensures, c.pull-dj.ensures)
