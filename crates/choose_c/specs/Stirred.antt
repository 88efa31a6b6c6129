-- Which positions the loop over the extremes may pass over, and that they change neither: nothing here has to be believed.
use Rattle.std.specs.Prelude.{ℕ, Bool, true, false, cond, ◌≡◌, refl, Float}
use Rattle.alpha.specs.declared.Alpha.{Alpha}
use Rattle.extreme.specs.Best.{at_least, best}
use Rattle.partner.proofs.Calm.{at_least_reaches, calm_up, calm_low}
use Rattle.partner.specs.Stirred.{stirred, ExtremesLaws}
use Rattle.choose_c.specs.Choice.{extremes_c, weighed_c}
use Rattle.choose_c.specs.declared.Extremes.{Extremes}

-- a positive rises by growing and falls by shrinking, a negative the other way round
abbrev pub stirred_c : Extremes → Bool → Float → Alpha → Bool
stirred_c e pos g w = cond pos (stirred g w e.gmax1.value e.gmax2.value) (stirred g w e.gmax2.value e.gmax1.value)

calm : (e : Extremes) (k : ℕ) (pos : Bool) (g : Float) (w : Alpha) → stirred_c e pos g w ≡ false → weighed_c e k pos g w ≡ e
calm e k true g w h =
    rw (calm_up at_least at_least_reaches k g w e.gmax1 e.gmax2.value h, calm_low at_least at_least_reaches k g w e.gmax2 e.gmax1.value h)
calm e k false g w h =
    rw (calm_low at_least at_least_reaches k g w e.gmax1 e.gmax2.value h, calm_up at_least at_least_reaches k g w e.gmax2 e.gmax1.value h)

pub laws_c : ExtremesLaws extremes_c weighed_c stirred_c
unfolding extremes_c best
laws_c = record { more = λ p s k. refl; calm = calm }
