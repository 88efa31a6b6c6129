use native.Mathlib.Numerals.{add-one}
use Rattle.kernel.specs.Row.{row_at}
use Rattle.rows.proofs.Both.{both_more}
use borrow.Author.Rules.{rules}
use Rattle.rows.proofs.add_row_to_both.Goals as goal

pub loop-k-preserved : goal.loop-k-preserved
unfolding row_at
loop-k-preserved c = rw (add-one, c.loop-k.invariant, c.reach-r.ensures, c.index_at-c.ensures.0) (both_more _ _ _ _ _ _ (search rules))
