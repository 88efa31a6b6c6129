use mathlib.Core.Path.{◌≡◌, refl}
use native.Mathlib.Numerals.{add-one}
use native.Mathlib.Omega.{arith}
use lib.ListN.{length-set}
use Rattle.still.specs.Answered.{weights_to}
use borrow.Author.Rules.{rules}
use Rattle.reply.proofs.load.Goals as goal

pub loop-k-init : goal.loop-k-init
unfolding weights_to
loop-k-init c = (search rules, refl, refl)

pub loop-k-preserved : goal.loop-k-preserved
unfolding weights_to
loop-k-preserved c = let v = c.loop-k.invariant in (search rules, simp length-set v.1, rw (add-one, ← v.2))

pub returns : goal.returns
returns c =
    let e : c.loop-k.k ≡ c.args.n = omega arith in
    rw e at c.loop-k.invariant.2
