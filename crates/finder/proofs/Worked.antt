-- Two steps by their numbers. Assumes nothing.
use Prim.Native.Nat.{ℕ}
use mathlib.Core.Bool.{true, false}
use mathlib.Core.Path.{◌≡◌, refl}
use lib.Ieee as Ieee
use lib.Ieee.{Float, binary64, of_bits}
use Rattle.alpha.specs.Weight.{weight}
use Rattle.kernel.specs.Curvature.{curved}
use Rattle.update.specs.Pair.{floored, step_of, i_capped, j_capped, i_raised, j_raised, differ_low, differ_high, differed, agree_first, agree_second, agreed, clipped_step, pair_of}
use Rattle.update.specs.declared.Pair.{Pair}
use Rattle.finder.specs.Found.{found_pair}

abbrev at : ℕ → Float
at = of_bits binary64

-- labels agree, weights 1 and 0.5 under the ceilings 4 and 0.625, gradients 1 and 0, diagonals 2 and 1, entry 0.5
abbrev agreeing : Pair
agreeing =
    found_pair (weight (at 0x3ff0_0000_0000_0000) (at 0x4010_0000_0000_0000)) (weight (at 0x3fe0_0000_0000_0000) (at 0x3fe4_0000_0000_0000))
    (at 0x3ff0_0000_0000_0000) (at 0) (at 0x4000_0000_0000_0000) (at 0x3ff0_0000_0000_0000) (at 0x3fe0_0000_0000_0000) true

-- the step is 0.5; j ends at its ceiling 0.625, and i gets the rest of the sum, 0.875
pub found_agree : (agreeing.i.value ≡ at 0x3fec_0000_0000_0000) × (agreeing.j.value ≡ at 0x3fe4_0000_0000_0000)
unfolding found_pair pair_of clipped_step agreed agree_first agree_second i_capped j_capped i_raised j_raised step_of floored curved Ieee.lt Ieee.le Ieee.neg Ieee.add Ieee.sub Ieee.mul Ieee.div Ieee.of_bits
found_agree = (refl, refl)

-- labels differ, weights 0.25 and 0 under the ceilings 1 and 4, gradients −1 and −1, diagonals 1 and 1, entry 0
abbrev differing : Pair
differing =
    found_pair (weight (at 0x3fd0_0000_0000_0000) (at 0x3ff0_0000_0000_0000)) (weight (at 0) (at 0x4010_0000_0000_0000))
    (at 0xbff0_0000_0000_0000) (at 0xbff0_0000_0000_0000) (at 0x3ff0_0000_0000_0000) (at 0x3ff0_0000_0000_0000) (at 0) false

-- the step is 1; i ends at its ceiling 1, and j keeps its distance from it, 0.75
pub found_differ : (differing.i.value ≡ at 0x3ff0_0000_0000_0000) × (differing.j.value ≡ at 0x3fe8_0000_0000_0000)
unfolding found_pair pair_of clipped_step differed differ_low differ_high i_capped j_capped i_raised j_raised step_of floored curved Ieee.lt Ieee.le Ieee.neg Ieee.add Ieee.sub Ieee.mul Ieee.div Ieee.of_bits
found_differ = (refl, refl)
