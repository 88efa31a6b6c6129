-- Which positions the loop over the extremes may pass over, and that they change none: nothing here has to be believed.
use Rattle.std.specs.Prelude.{ℕ, Bool, true, false, cond, ◌≡◌, refl, Float}
use Rattle.alpha.specs.declared.Alpha.{Alpha}
use Rattle.extreme.specs.Best.{above, best}
use Rattle.partner.proofs.Calm.{above_reaches, calm_up, calm_low}
use Rattle.partner.specs.Stirred.{stirred, ExtremesLaws}
use Rattle.choose_nu.specs.Choice.{risen, fallen, extremes_nu, weighed_nu}
use Rattle.choose_nu.specs.declared.Extremes.{Extremes}

-- a positive rises by growing and falls by shrinking, a negative the other way round
abbrev pub stirred_nu : Extremes → Bool → Float → Alpha → Bool
stirred_nu e pos g w = cond pos (stirred g w e.gmaxp1.value e.gmaxp2.value) (stirred g w e.gmaxn2.value e.gmaxn1.value)

calm : (e : Extremes) (k : ℕ) (pos : Bool) (g : Float) (w : Alpha) → stirred_nu e pos g w ≡ false → weighed_nu e k pos g w ≡ e
calm e k true g w h =
    rw (calm_up above above_reaches k g w e.gmaxp1 e.gmaxp2.value h, calm_low above above_reaches k g w e.gmaxp2 e.gmaxp1.value h)
calm e k false g w h =
    rw (calm_low above above_reaches k g w e.gmaxn1 e.gmaxn2.value h, calm_up above above_reaches k g w e.gmaxn2 e.gmaxn1.value h)

pub laws_nu : ExtremesLaws extremes_nu weighed_nu stirred_nu
unfolding risen fallen best
laws_nu = record { more = λ p s k. refl; calm = calm }
