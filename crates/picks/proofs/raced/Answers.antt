use lib.Ieee.{le}
use mathlib.Core.Path.{◌∙◌}
use Rattle.picks.specs.Follow.{raced_by}
use Rattle.picks.proofs.Steps.{raced_taken}
use Rattle.picks.proofs.raced.Goals as goal

pub returns-then-d : goal.returns-then-d
unfolding raced_by
returns-then-d c =
    let v = c.gain_of-v.result in
    let z = c in
    rw (c.if-d.true, ← z.requires.3.at z.args.j z.requires.4, ← c.entry-e.ensures, ← c.curvature_of.ensures, ← c.gain_of-v.ensures)
    (c.taken.ensures ∙ raced_taken (le v z.args.r.value) v z.args.j z.args.r)

pub returns-else-d : goal.returns-else-d
unfolding raced_by
returns-else-d c = rw c.if-d.false
