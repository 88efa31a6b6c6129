-- When a pattern is a NaN's, and when a float is. Assumes nothing.
use Prim.Native.Nat.{ℕ, ◌<◌, ◌≤◌, ◌%◌}
use mathlib.Core.Bool.{Bool, true, false, not}
use mathlib.Core.Path.{◌≡◌, refl, ◌∙◌, sym, subst}
use lib.Dec.{T}
use lib.Ieee.{Float, nan, inf, fin, binary64, of_bits, nan_bits, is_nan, ne}
use lib.Ieee.Bits.{nan_bits_above, nan_bits_is}
use borrow.Author.Tests.{lt-ltb, le-ltb}
use Rattle.rounding.proofs.Order.{ne_itself}

-- a float that is called a NaN is the NaN
named : (x : Float) → is_nan x ≡ true → x ≡ nan
unfolding is_nan
named nan h = refl
named (inf s) h = absurd (subst T (sym h) tt)
named (fin s m e) h = absurd (subst T (sym h) tt)

pub pattern_nan : (w : ℕ) → 0x7ff0_0000_0000_0000 < w % 0x8000_0000_0000_0000 → of_bits binary64 w ≡ nan
pattern_nan w h = named (of_bits binary64 w) (sym (nan_bits_is binary64 w) ∙ nan_bits_above binary64 w ∙ lt-ltb _ _ h)

pub pattern_number : (w : ℕ) → w % 0x8000_0000_0000_0000 ≤ 0x7ff0_0000_0000_0000 → T (not (nan_bits binary64 w))
pattern_number w h = subst (λ (b : Bool). T (not b)) (sym (nan_bits_above binary64 w ∙ le-ltb _ _ h)) tt

pub differs : (x : Float) → ne x x ≡ true → x ≡ nan
differs x h = named x (sym (ne_itself x) ∙ h)

pub equals_itself : (x : Float) → ne x x ≡ false → T (not (is_nan x))
equals_itself x h = subst (λ (b : Bool). T (not b)) (sym (sym (ne_itself x) ∙ h)) tt
