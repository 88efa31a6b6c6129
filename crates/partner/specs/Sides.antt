-- Which positions may rise and which may fall, and by what they are weighed (the rule, section 'Pair choice, C rule').
use Rattle.std.specs.Prelude.{ℕ, Bool, not, cond, Float}
use Rattle.std.specs.Float.Ieee.{neg}
use Rattle.alpha.specs.Weight.{at_upper, at_lower}
use Rattle.alpha.specs.declared.Alpha.{Alpha}
use Rattle.state.specs.Lists.{Problem, State}
use Rattle.state.specs.Fields.{gradient, alpha, positive}

-- a positive rises unless it is at upper, a negative unless it is at lower
abbrev pub rises_of : Bool → Alpha → Bool
rises_of pos w = cond pos (not (at_upper w)) (not (at_lower w))

-- and falls the other way round
abbrev pub falls_of : Bool → Alpha → Bool
falls_of pos w = cond pos (not (at_lower w)) (not (at_upper w))

abbrev pub rise_of : Bool → Float → Float
rise_of pos g = cond pos (neg g) g

abbrev pub fall_of : Bool → Float → Float
fall_of pos g = cond pos g (neg g)

abbrev pub may_rise : Problem → State → ℕ → Bool
may_rise p s k = rises_of (positive s k) (alpha p s k)

abbrev pub may_fall : Problem → State → ℕ → Bool
may_fall p s k = falls_of (positive s k) (alpha p s k)

abbrev pub rise : Problem → State → ℕ → Float
rise p s k = rise_of (positive s k) (gradient p s k)

abbrev pub fall : Problem → State → ℕ → Float
fall p s k = fall_of (positive s k) (gradient p s k)
