use Rattle.hosted.proofs.Serves.{decoded_fresh}
use Rattle.served.proofs.general.Goals as goal

pub returns : goal.returns
returns c = rw (← decoded_fresh _ _ _ _ c.places-dp.ensures.0 c.decode-3.ensures, ← decoded_fresh _ _ _ _ c.places-da.ensures.0 c.decode-2.ensures, ← decoded_fresh _ _ _ _ c.places-dc.ensures.0 c.decode.ensures) c.general_roomed.ensures
