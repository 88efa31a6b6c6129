use Rattle.partner.proofs.Steps.{by_label_law}
use Rattle.state.specs.Lists.{given, state}
use Rattle.choose_nu.specs.Choice.{risen, choice_nu}
use Rattle.choose_nu.proofs.Rule.{lead_below}
use Rattle.choose_nu.proofs.select_working_set_nu.Goals as goal

pub chosen-requires : goal.chosen-requires
chosen-requires c =
    let z = c in
    let a = z.args in
    let p = given a.p in
    let w = lead_below p (state a.f.now a.u.now a.y.now) a.active a.p.n z.requires.1 in
    rw c.max_violating_pair-e.ensures (z.requires.0, z.requires.1, w _, w _)

pub returns : goal.returns
unfolding choice_nu
returns c =
    let a = c.args in
    let p = given a.p in
    let s = state a.f.now a.u.now a.y.now in
    rw (← by_label_law (risen p s a.active)) (rw (c.max.ensures, c.max_violating_pair-e.ensures) at c.chosen.ensures)
