use Rattle.hosted.proofs.Serves.{decoded_fresh}
use Rattle.served.proofs.retired.Goals as goal

pub returns : goal.returns
returns c = rw (← decoded_fresh _ _ _ _ c.places-linear.ensures.0 c.decode-3.ensures, ← decoded_fresh _ _ _ _ c.places-alphas.ensures.0 c.decode-2.ensures, ← decoded_fresh _ _ _ _ c.places-ceilings.ensures.0 c.decode.ensures) c.retired_roomed.ensures
