use Rattle.finder.specs.Found.{with_pair}
use Rattle.finder.proofs.put_pair.Goals as goal

pub returns : goal.returns
unfolding with_pair
returns c = rw (← c.put_float.ensures) c.put_float-2.ensures
