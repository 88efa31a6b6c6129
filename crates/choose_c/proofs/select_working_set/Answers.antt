use Rattle.partner.proofs.Steps.{by_label_law}
use Rattle.state.specs.Lists.{given, state}
use Rattle.choose_c.specs.Choice.{lead_c, choice_c}
use Rattle.choose_c.proofs.Rule.{lead_below}
use Rattle.choose_c.proofs.select_working_set.Goals as goal

pub chosen-requires : goal.chosen-requires
chosen-requires c =
    let z = c in
    let a = z.args in
    let p = given a.p in
    let w = lead_below p (state a.f.now a.u.now a.y.now) a.active a.p.n z.requires.1 in
    rw c.max_violating_pair-e.ensures (z.requires.0, z.requires.1, w, w)

pub returns : goal.returns
unfolding choice_c
returns c =
    let a = c.args in
    let p = given a.p in
    let s = state a.f.now a.u.now a.y.now in
    rw (← by_label_law (lead_c p s a.active)) (rw c.max_violating_pair-e.ensures at c.chosen.ensures)
