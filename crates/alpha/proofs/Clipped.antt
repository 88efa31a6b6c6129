-- A clipped weight lies in 0..ceiling. Assumes nothing.
use mathlib.Core.Bool.{Bool, true, false, cond}
use mathlib.Core.Path.{◌≡◌, refl}
use lib.Dec.{not_T}
use lib.Ieee.{of_bits, lt}
use lib.Ieee.Bits.{is_false}
use Rattle.rounding.proofs.Order.{lt_irrefl}
use Rattle.alpha.specs.Weight.{zero, weight, clip}
use Rattle.alpha.specs.declared.Alpha.{Alpha}

-- the record of a test, with what the test said
by_test : (P : Alpha → Type 0) (t : Bool) (v w : Alpha) → (t ≡ true → P v) → (t ≡ false → P w) → P (cond t v w)
by_test P true v w h k = h refl
by_test P false v w h k = k refl

module _ (w : Alpha) (top : lt w.upper zero ≡ false) where
  -- no clipped weight is below 0 where its ceiling isn't
  pub clip_low : lt (clip w).value zero ≡ false
  clip_low =
      by_test (λ v. lt v.value zero ≡ false) (lt w.upper w.value) (weight w.upper w.upper) (cond (lt w.value zero) (weight zero w.upper) w)
      (λ t. top)
      (λ t. by_test (λ v. lt v.value zero ≡ false) (lt w.value zero) (weight zero w.upper) w (λ u. unfold lt in unfold of_bits in refl) (λ u. u))

  -- and none is above its ceiling
  pub clip_high : lt w.upper (clip w).value ≡ false
  clip_high =
      by_test (λ v. lt w.upper v.value ≡ false) (lt w.upper w.value) (weight w.upper w.upper) (cond (lt w.value zero) (weight zero w.upper) w)
      (λ t. is_false (lt w.upper w.upper) (not_T (lt w.upper w.upper) (lt_irrefl w.upper)))
      (λ t. by_test (λ v. lt w.upper v.value ≡ false) (lt w.value zero) (weight zero w.upper) w (λ u. top) (λ u. t))
