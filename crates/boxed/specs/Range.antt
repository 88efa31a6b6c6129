-- The box: weights from 0 to one ceiling.
use Rattle.std.specs.Prelude.{◌≡◌, ◌⊎◌, Bool, true, false, T, Float}
use Rattle.std.specs.Float.{binary64}
use Rattle.std.specs.Float.Ieee.{neg, add, sub, lt, le, fits}
use Rattle.std.specs.Float.Ieee.Scale.{finite}
use Rattle.alpha.specs.Weight.{zero, limit}
use Rattle.alpha.specs.declared.Alpha.{Alpha}
use Rattle.rounding.specs.Units.{Number}
use Rattle.update.specs.declared.Pair.{Pair}

-- 0 ≤ b ≤ 2^1000
pub record Ceiling (b : Float) : Type 0 where
  pub number : Number binary64 b
  pub low : T (le zero b)
  pub high : T (le b limit)

-- a number with 0 ≤ w ≤ b: −0 is in
pub record In (b w : Float) : Type 0 where
  pub number : Number binary64 w
  pub low : T (le zero w)
  pub high : T (le w b)

-- the ceiling is b, and the value is in the box
pub record Held (b : Float) (w : Alpha) : Type 0 where
  pub upper : w.upper ≡ b
  pub value : In b w.value

pub record BothHeld (b : Float) (p : Pair) : Type 0 where
  pub i : Held b p.i
  pub j : Held b p.j

-- of magnitude 2^1000 at the most
pub record Entry (x : Float) : Type 0 where
  pub fit : T (fits binary64 x)
  pub low : T (le (neg limit) x)
  pub high : T (le x limit)

-- finite and above 0
pub record Divides (q : Float) : Type 0 where
  pub finite : T (finite q)
  pub above : T (lt zero q)

-- what a pair's choice says of its gradients: d > 0, in one of the two forms that d has for labels that agree, or for labels that differ
abbrev pub Chosen : Bool → Float → Float → Type 0
Chosen true gi gj = T (lt zero (add binary64 (neg gi) gj)) ⊎ T (lt zero (sub binary64 gi gj))
Chosen false gi gj = T (lt zero (sub binary64 (neg gi) gj)) ⊎ T (lt zero (add binary64 gi gj))
