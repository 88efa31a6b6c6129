use mathlib.Core.Path.{◌≡◌, refl}
use native.Mathlib.Numerals.{add-one}
use native.Mathlib.Omega.{arith}
use lib.Dec.{ltb}
use lib.ListN.{get_or}
use Rattle.votes.proofs.Laws.{either_below}
use Rattle.votes.specs.Votes.{winner_to}
use borrow.Author.Rules.{rules}
use Rattle.votes.proofs.winner.Goals as goal

pub loop-x-init : goal.loop-x-init
unfolding winner_to
loop-x-init c = (search rules, search rules, refl)

pub loop-x-preserved : goal.loop-x-preserved
unfolding winner_to
loop-x-preserved c =
    let t = c.args.t in
    let w = c.loop-x.w in
    let x = c.loop-x.x in
    (search rules, either_below (ltb (get_or t w 0) (get_or t x 0)) x w _ c.better-w.ensures (omega arith) (omega arith), rw (add-one, ← c.loop-x.invariant.2) c.better-w.ensures)

pub returns : goal.returns
returns c =
    let e : c.loop-x.x ≡ c.args.k = omega arith in
    rw e at c.loop-x.invariant.2
