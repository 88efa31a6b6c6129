use mathlib.Core.Path.{sym}
use native.Mathlib.Omega.{arith}
use lib.Ieee.{of_bits, div}
use Rattle.extreme.specs.Best.{best}
use Rattle.state.specs.Lists.{given, state}
use Rattle.partner.specs.Second.{second}
use Rattle.partner.proofs.Steps.{lead_index, race_won, race_none}
use borrow.Author.Rules.{rules}
use Rattle.partner.proofs.partner.Goals as goal

pub returns-then-active-eq0 : goal.returns-then-active-eq0
unfolding second best div of_bits
returns-then-active-eq0 c = rw (c.nobody.ensures, c.if-active-eq0.true)

pub race-at-requires : goal.race-at-requires
race-at-requires c =
    let a = c.args in
    let s = state a.f.now a.u.now a.y.now in
    let p = lead_index a.p.side a.p.n s a.positives.value a.positives.holder c.requires.0.indexed (omega arith) c.requires.2 in
    let q = lead_index a.p.side a.p.n s a.negatives.value a.negatives.holder c.requires.0.indexed (omega arith) c.requires.3 in
    (search rules, search rules, rw c.lead_of-lp.ensures p, rw c.lead_of-lq.ensures q)

pub gain_by_label-v-requires : goal.gain_by_label-v-requires
gain_by_label-v-requires c =
    let a = c.args in
    let s = state a.f.now a.u.now a.y.now in
    let p = lead_index a.p.side a.p.n s a.positives.value a.positives.holder c.requires.0.indexed (omega arith) c.requires.2 in
    let q = lead_index a.p.side a.p.n s a.negatives.value a.negatives.holder c.requires.0.indexed (omega arith) c.requires.3 in
    (search rules, omega arith, rw c.lead_of-lp.ensures p, rw c.lead_of-lq.ensures q)

pub returns-then-at-active : goal.returns-then-at-active
returns-then-at-active c =
    let a = c.args in
    let s = state a.f.now a.u.now a.y.now in
    let q = sym (rw (c.lead_of-lp.ensures, c.lead_of-lq.ensures) at c.race-at.ensures) in
    rw (race_won (given a.p) s a.floor a.positives a.negatives a.active _ q c.if-at-active.true, c.gain_by_label-v.ensures, c.lead_of-lp.ensures, c.lead_of-lq.ensures)

pub returns : goal.returns
unfolding div of_bits
returns c =
    let a = c.args in
    let s = state a.f.now a.u.now a.y.now in
    let q = sym (rw (c.lead_of-lp.ensures, c.lead_of-lq.ensures) at c.race-at.ensures) in
    rw (race_none (given a.p) s a.floor a.positives a.negatives a.active (rw q c.if-at-active.false)) c.nobody-2.ensures
