use Prim.Native.Nat.{◌+◌, ◌*◌}
use mathlib.Core.Bool.{Bool, ◌||◌}
use mathlib.Core.Path.{refl, ap}
use lib.Dec.{eqb}
use lib.Ieee.{nan}
use lib.ListN.{get_or}
use native.Mathlib.Numerals.{add-one}
use Rattle.picks.specs.Follow.{stirred_to}
use Rattle.picks.proofs.Steps.{by_either}
use borrow.Author.Rules.{rules}
use Rattle.picks.proofs.stirs_by_label.Goals as goal

pub loop-k-init : goal.loop-k-init
unfolding stirred_to
loop-k-init c = (search rules, refl)

pub loop-k-preserved : goal.loop-k-preserved
unfolding stirred_to
loop-k-preserved c =
    let a = c.args in
    let f = a.f.now in
    let j = a.t + c.loop-k.k in (
      search rules,
      rw (add-one, ← c.loop-k.invariant.1, c.either-any.ensures, c.reaches-u.ensures, c.reaches-w.ensures, c.entry-e.ensures, c.entry-c.ensures)
          (ap (λ (z : Bool). c.loop-k.any || z) (by_either a.g a.m.now (eqb (get_or a.y.now j 0) 1) a.p a.q (get_or f (3 * a.g.n + j) nan) (get_or f (2 * a.g.n + j) nan) a.bar j)),
    )
