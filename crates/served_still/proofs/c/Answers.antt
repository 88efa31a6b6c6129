use mathlib.Core.Path.{sym, ◌∙◌}
use Rattle.hosted.specs.Hosted.{room}
use Rattle.hosted.proofs.Serves.{room_long}
use Rattle.still.proofs.Same.{c_sized_same}
use Rattle.served_still.proofs.Laws.{room_enough, delivered_same}
use Rattle.served_still.proofs.c.Goals as goal

pub returns : goal.returns
returns c =
    let s = c in
    let a = s.args in
    let R = s.requires.0 in
    let S = room_enough _ _ _ _ _ R c.places-r.ensures.1 c.sheet-f.ensures.1 c.bytes-y.ensures.1 in
    let e = sym c.places-r.ensures.0 in
    c.deliver.ensures ∙ delivered_same _ room _ _ _ (c_sized_same a.t a.n a.m.now a.settings.eps a.settings.budget room _ (room_long _ _ R) S a.l.now a.cpos a.cneg) e e _ _ _ _ c.sized-o.ensures _ _ _
