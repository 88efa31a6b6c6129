use mathlib.Core.Bool.{true, false}
use mathlib.Core.Path.{sym, ap, ◌∙◌}
use Rattle.extreme.specs.declared.Race.{Race}
use Rattle.picks.proofs.Steps.{first_low, low_is, leader_is, none_stops, second_rises, nobody_follows, pair_is}
use Rattle.picks.proofs.choice.Goals as goal

pub partner-j-requires : goal.partner-j-requires
partner-j-requires c =
    let a = c.args in
    let P = c.requires in
    let m = a.m.now in
    let y = a.y.now in
    let f = a.f.now in
    let hp = first_low a.g m y f c.lowest-p.result c.lowest-p.ensures in
    let hq = c.other-q.ensures ∙ low_is a.g m y f false in (
      P.0,
      P.1,
      c.first_of.ensures.1,
      c.first_of-2.ensures.1,
      leader_is a.g m y f P.1 true c.lowest-p.result c.first_of.result hp c.first_of.ensures.0 c.first_of.ensures.1,
      leader_is a.g m y f P.1 false c.other-q.result c.first_of-2.result hq c.first_of-2.ensures.0 c.first_of-2.ensures.1,
    )

pub goes-requires : goal.goes-requires
goes-requires c =
    let a = c.args in
    let P = c.requires in
    let m = a.m.now in
    let y = a.y.now in
    let f = a.f.now in
    let hp = first_low a.g m y f c.lowest-p.result c.lowest-p.ensures in
    let hq = c.other-q.ensures ∙ low_is a.g m y f false in (
      P.0,
      P.2,
      c.if-j-n.true,
      ap (λ (r : Race). r.value) hp,
      ap (λ (r : Race). r.value) hq,
      second_rises a.g m y f c.partner-j.result c.partner-j.ensures c.if-j-n.true,
    )

pub returns-then-goes : goal.returns-then-goes
returns-then-goes c =
    let a = c.args in
    let m = a.m.now in
    let y = a.y.now in
    let f = a.f.now in
    let hp = first_low a.g m y f c.lowest-p.result c.lowest-p.ensures in
    let hq = c.other-q.ensures ∙ low_is a.g m y f false in
    rw c.either.ensures at c.paired.ensures ∙ pair_is a.g m y f (sym c.goes.ensures ∙ c.if-goes.true) c.lowest-p.result c.other-q.result hp hq c.partner-j.result c.partner-j.ensures c.if-j-n.true

pub returns-else-goes : goal.returns-else-goes
returns-else-goes c =
    let a = c.args in
    none_stops a.g a.m.now a.y.now a.f.now (sym c.goes.ensures ∙ c.if-goes.false)

pub returns-else-j-n : goal.returns-else-j-n
returns-else-j-n c =
    let a = c.args in
    nobody_follows a.g a.m.now a.y.now a.f.now c.partner-j.result c.partner-j.ensures c.if-j-n.false
