use native.Mathlib.Omega.{arith}
use Rattle.lanes.proofs.Place.{placed_at}
use Rattle.lanes.proofs.Steps.{infinity_is}
use Rattle.lanes.proofs.lowest.Goals as goal

pub offset_bounds-f-i : goal.offset_bounds-f-i
offset_bounds-f-i c =
    let a = c.args in
    let P = placed_at a.nu a.f.now a.o a.n c.least-r.result c.end_of-e.result c.seat_in-i.result
    c.least-r.ensures.0 (rw infinity_is at c.if-r.true) c.end_of-e.ensures.0 c.seat_in-i.ensures in
    omega (arith, P.high)

pub bounds-f-i : goal.bounds-f-i
bounds-f-i c =
    let a = c.args in
    let P = placed_at a.nu a.f.now a.o a.n c.least-r.result c.end_of-e.result c.seat_in-i.result
    c.least-r.ensures.0 (rw infinity_is at c.if-r.true) c.end_of-e.ensures.0 c.seat_in-i.ensures in
    omega (arith, P.high)

pub overflow_sub-at : goal.overflow_sub-at
overflow_sub-at c =
    let a = c.args in
    let P = placed_at a.nu a.f.now a.o a.n c.least-r.result c.end_of-e.result c.seat_in-i.result
    c.least-r.ensures.0 (rw infinity_is at c.if-r.true) c.end_of-e.ensures.0 c.seat_in-i.ensures in
    P.low

pub returns-then-r : goal.returns-then-r
returns-then-r c =
    let a = c.args in
    let P = placed_at a.nu a.f.now a.o a.n c.least-r.result c.end_of-e.result c.seat_in-i.result
    c.least-r.ensures.0 (rw infinity_is at c.if-r.true) c.end_of-e.ensures.0 c.seat_in-i.ensures in
    P.race
