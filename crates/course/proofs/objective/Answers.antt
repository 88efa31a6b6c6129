use mathlib.Core.Path.{◌≡◌, refl, ap}
use native.Mathlib.Numerals.{add-one}
use native.Mathlib.Omega.{arith}
use lib.Ieee.{Float, binary64, div}
use Rattle.alpha.specs.Weight.{two}
use Rattle.orderless.specs.End.{sum_of}
use borrow.Author.Rules.{rules}
use Rattle.course.proofs.objective.Goals as goal

pub loop-k-init : goal.loop-k-init
unfolding sum_of
loop-k-init c = (search rules, refl)

pub loop-k-preserved : goal.loop-k-preserved
unfolding sum_of
loop-k-preserved c = (search rules, rw (add-one, ← c.loop-k.invariant.1, ← c.slope.ensures))

pub returns : goal.returns
returns c =
    let e : c.loop-k.k ≡ c.args.g.n = omega arith in
    ap (λ (x : Float). div binary64 x two) (rw e at c.loop-k.invariant.1)
