use mathlib.Core.Path.{◌∙◌}
use native.Mathlib.Numerals.{add-one}
use Rattle.picks.specs.Follow.{by_label}
use Rattle.picks.proofs.Steps.{raced_none, raced_next}
use borrow.Author.Rules.{rules}
use Rattle.picks.proofs.raced_to.Goals as goal

pub loop-j-init : goal.loop-j-init
loop-j-init c = let a = c.args in (search rules, search rules, raced_none a.g a.m.now a.f.now (by_label a.y.now a.p a.q) a.was a.t)

pub loop-j-preserved : goal.loop-j-preserved
loop-j-preserved c =
    let a = c.args in
    let v = c.loop-j.invariant in
    (search rules, search rules, rw add-one (rw (c.either.ensures, v.2) at c.raced-r.ensures ∙ raced_next a.g a.m.now a.f.now (by_label a.y.now a.p a.q) a.was a.t c.loop-j.j v.0))
