use mathlib.Core.Path.{◌≡◌, ◌∙◌}
use native.Mathlib.Omega.{arith}
use lib.Ieee.{nan}
use lib.ListN.{get_or}
use Rattle.lanes.specs.Lanes.{lane, least_from}
use Rattle.lanes.proofs.Steps.{infinity_is, laid_more, least_same}
use borrow.Author.Rules.{rules}
use Rattle.lanes.proofs.least_from.Goals as goal

pub loop-k-preserved : goal.loop-k-preserved
loop-k-preserved c =
    let a = c.args in
    let l = c.loop-k in
    (search rules, search rules, rw (c.lower-in-loop-k.ensures, c.lower.ensures, infinity_is) (laid_more l.z (lane a.f.now a.t) l.k (omega arith) l.invariant.2))

pub returns : goal.returns
unfolding least_from
returns c =
    let a = c.args in
    let l = c.loop-k in
    let e : l.k ≡ 8 = omega arith in
    c.least_of.ensures ∙ least_same (λ k. get_or l.z k nan) (lane a.f.now a.t) (rw e at l.invariant.2)
