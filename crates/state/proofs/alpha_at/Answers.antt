use Rattle.state.proofs.alpha_at.Goals as goal

pub returns : goal.returns
returns c = c.from.ensures
