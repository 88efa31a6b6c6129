use native.Mathlib.Omega.{arith}
use Rattle.hosted.specs.Hosted.{delivered}
use Rattle.hosted.proofs.Serves.{room_given}
use Rattle.served.proofs.retired_roomed.Goals as goal

pub deliver-requires : goal.deliver-requires
deliver-requires c = omega (arith, c.requires, c.sized-o.auto, c.places-h2.ensures.1, c.places-c2.ensures.1)

pub returns : goal.returns
unfolding delivered
returns c = rw (← room_given _ _ _ _ _ c.places-c2.ensures.0 c.places-h2.ensures.0 c.floats-f.ensures.0 c.numbers-u.ensures.0 c.bytes-y.ensures.0, ← c.sized-o.ensures) c.deliver.ensures
