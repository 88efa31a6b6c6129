use Rattle.orderless.specs.Step.{pair_for}
use Rattle.sheet.proofs.pair_for.Goals as goal

pub returns : goal.returns
unfolding pair_for
returns c =
    rw (c.signed-r.ensures, c.entry.ensures, c.entry-dj.ensures, c.entry-di.ensures, c.slope-gj.ensures, c.slope-gi.ensures, c.alpha_in-wj.ensures, c.alpha_in-wi.ensures) at c.clipped_pair.ensures
