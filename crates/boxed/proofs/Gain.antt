-- What a pair would gain is a number, where its d is above 0 and the entries are of magnitude 2^1000 at the most. Assumes nothing.
use Prim.Native.Nat.{◌*◌}
use mathlib.Core.Bool.{Bool, true, false, cond}
use mathlib.Core.Path.{◌≡◌, refl}
use lib.Dec.{T, lit<}
use lib.Ieee.{Float, nan, inf, fin, binary64, unlike, up, down, neg, mul, lt, is_nan}
use Rattle.alpha.specs.Weight.{zero}
use Rattle.kernel.specs.Curvature.{curved}
use Rattle.partner.specs.Curvature.{curvature, gain}
use Rattle.rounding.specs.Units.{NotNan}
use Rattle.rounding.proofs.Binary64.{zero_is}
use Rattle.rounding.proofs.NoNan.{within_finite, div_real}
use Rattle.rounding.proofs.Order.{lt_real}
use Rattle.rounding.proofs.Rounding.{round_number}
use Rattle.boxed.specs.Range.{Entry, Divides}
use Rattle.boxed.proofs.Step.{curvature_within}

neg_number : (x : Float) → NotNan x → NotNan (neg x)
unfolding neg is_nan
neg_number nan h = h
neg_number (inf s) h = tt
neg_number (fin s m e) h = tt

square_number : (x : Float) → NotNan x → NotNan (mul binary64 x x)
unfolding mul is_nan
square_number nan h = h
square_number (inf s) h = tt
square_number (fin s m e) h = (round_number binary64 (unlike s s) (m * up e * (m * up e)) (down e * down e)).real

module _ (agree : Bool) (di dj r floor : Float) (ei : Entry di) (ej : Entry dj) (e : Entry r) (d : Divides floor) where
  divides : Divides (curvature floor di dj r agree)
  unfolding curvature
  divides = go (lt zero (curved agree di dj r)) refl
    where
      go : (t : Bool) → lt zero (curved agree di dj r) ≡ t → Divides (cond t (curved agree di dj r) floor)
      go true q = record { finite = within_finite binary64 2076 (curved agree di dj r) (lit< tt) (curvature_within agree di dj r ei ej e); above = rw q tt }
      go false q = d

  pub gain_number : (x : Float) → T (lt zero x) → NotNan (gain x (curvature floor di dj r agree))
  gain_number x h =
      let q = divides in
      div_real binary64 (neg (mul binary64 x x)) (curvature floor di dj r agree) (neg_number (mul binary64 x x) (square_number x (lt_real zero x h).1)) q.finite (rw zero_is at q.above)
