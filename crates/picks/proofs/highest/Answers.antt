use Prim.Native.Nat.{◌+◌, ◌*◌}
use mathlib.Core.Bool.{true, cond}
use mathlib.Core.Path.{refl, ◌∙◌}
use native.Mathlib.Numerals.{add-one}
use lib.Ieee.{nan, inf, of_bits, div, neg}
use lib.ListN.{get_or}
use Rattle.extreme.specs.Best.{at_least, above, best}
use Rattle.orderless.specs.Sheet.{sought}
use Rattle.rho.specs.Rho.{positive_in}
use Rattle.picks.proofs.Steps.{value_weighed}
use borrow.Author.Rules.{rules}
use Rattle.picks.proofs.highest.Goals as goal

pub loop-k-init : goal.loop-k-init
unfolding best div neg of_bits
loop-k-init c = (search rules, refl)

pub loop-k-preserved : goal.loop-k-preserved
unfolding best
loop-k-preserved c =
    let a = c.args in
    let k = c.loop-k.k in
    let e = best (cond a.nu above at_least) (inf true) (λ k. sought a.nu a.t (positive_in a.y.now k)) (λ k. get_or a.f.now (3 * a.n + k) nan) k in (
      search rules,
      rw add-one (rw (c.seeks.ensures, c.more.ensures, c.loop-k.invariant.1) at c.either-b.ensures
          ∙ value_weighed (cond a.nu above at_least) (sought a.nu a.t (positive_in a.y.now k)) k (get_or a.f.now (3 * a.n + k) nan) e),
    )
