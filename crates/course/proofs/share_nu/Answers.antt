use native.Mathlib.Numerals.{add-one}
use native.Mathlib.Omega.{arith}
use Rattle.orderless.specs.End.{share_nu_of}
use borrow.Author.Rules.{rules}
use Rattle.course.proofs.share_nu.Goals as goal

pub loop-k-init : goal.loop-k-init
unfolding share_nu_of
loop-k-init c = (search rules, c.none-s.ensures, rw c.none-s.ensures (omega arith))

pub loop-k-preserved : goal.loop-k-preserved
unfolding share_nu_of
loop-k-preserved c =
    let v = c.loop-k.invariant in
    (search rules, rw add-one (rw (c.slope.ensures, c.alpha_in-w.ensures, v.1) at c.join-s.ensures.0), omega (arith, c.join-s.ensures.1, v.2))
