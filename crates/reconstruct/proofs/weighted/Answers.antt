use native.Mathlib.Numerals.{add-one}
use Rattle.kernel.specs.Row.{row_at}
use Rattle.reconstruct.specs.Reconstruct.{weighted_to}
use Rattle.reconstruct.proofs.weighted.Goals as goal

pub loop-j-preserved : goal.loop-j-preserved
unfolding weighted_to row_at
loop-j-preserved c =
    rw (add-one, ← c.loop-j.invariant, ← c.index_at-c.ensures.0, ← c.reach-r.ensures, ← c.alpha_at.ensures) c.bring-g.ensures
