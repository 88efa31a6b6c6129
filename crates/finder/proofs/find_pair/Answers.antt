use Rattle.finder.specs.Found.{found_pair}
use Rattle.finder.proofs.find_pair.Goals as goal

pub returns : goal.returns
unfolding found_pair
returns c = rw (c.clipped_pair.ensures, c.curvature_floor.ensures)
