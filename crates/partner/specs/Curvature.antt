-- How much a pair would gain (the rule, section 'Pair choice, C rule').
use Rattle.std.specs.Prelude.{Bool, cond, Float}
use Rattle.std.specs.Float.{binary64}
use Rattle.std.specs.Float.Ieee.{neg, add, sub, mul, div, lt}
use Rattle.alpha.specs.Weight.{zero}
use Rattle.kernel.specs.Curvature.{curved}

-- q: the floor where the curvature isn't above 0
unfoldable pub curvature : Float → Float → Float → Float → Bool → Float
curvature floor a b r agree = let q = curved agree a b r in cond (lt zero q) q floor

-- d: the lead's value and the gradient, which is taken from it where the position is negative
abbrev pub gap_of : Bool → Float → Float → Float
gap_of pos top g = cond pos (add binary64 top g) (sub binary64 top g)

-- −(d·d)/q
abbrev pub gain : Float → Float → Float
gain d q = div binary64 (neg (mul binary64 d d)) q
