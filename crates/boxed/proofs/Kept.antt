-- The box: the clipped pair stays in it. Assumes nothing.
use mathlib.Core.Bool.{Bool}
use lib.Ieee.{Float, binary64}
use lib.Ieee.Fits.{div-fits}
use Rattle.alpha.specs.declared.Alpha.{Alpha}
use Rattle.rounding.specs.Units.{NotNan}
use Rattle.kernel.specs.Curvature.{curved}
use Rattle.update.specs.Pair.{pair, floored, step_of, pair_of}
use Rattle.boxed.specs.Range.{Ceiling, Held, BothHeld, Entry, Divides, Chosen}
use Rattle.boxed.proofs.Clip.{stepped_held}
use Rattle.boxed.proofs.Step.{curvature_divides, step_real}

module _ (b : Float) (c : Ceiling b) (wi wj : Alpha) (hi : Held b wi) (hj : Held b wj) (gi gj di dj r : Float) (agree : Bool) (floor : Float) where
  -- whatever the gradients and the entries are, where the step is no NaN
  pub pair_held : NotNan (step_of agree gi gj (floored floor (curved agree di dj r))) → BothHeld b (pair_of wi wj gi gj di dj r agree floor)
  unfolding pair_of
  pair_held h =
      stepped_held b c agree (pair wi wj) _ (record { i = hi; j = hj }) (record { fit = unfold step_of in div-fits binary64 _ _; real = h })

  -- so a chosen pair stays in the box
  pub chosen_held : Entry di → Entry dj → Entry r → Divides floor → Chosen agree gi gj → BothHeld b (pair_of wi wj gi gj di dj r agree floor)
  chosen_held ei ej e d h = pair_held (step_real agree gi gj _ h (curvature_divides agree di dj r floor ei ej e d))
