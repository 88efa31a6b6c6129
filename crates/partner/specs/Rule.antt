-- The pair in the words of the written rule, for both rules: who follows, who is the second, and the level of the extremes (the rule, sections 'Pair choice').
use Rattle.std.specs.Prelude.{ℕ, ◌<◌, Bool, ◌&&◌, ◌≡◌, T, Float}
use Rattle.std.specs.Float.{binary64}
use Rattle.std.specs.Float.Ieee.{add, lt, le}
use Rattle.alpha.specs.Weight.{zero}
use Rattle.extreme.specs.Rule.{Top}
use Rattle.rounding.specs.Units.{NotNan}
use Rattle.state.specs.Fields.{positive}
use Rattle.state.specs.Lists.{Problem, State}
use Rattle.partner.specs.Second.{gap, gain_of}
use Rattle.partner.specs.Sides.{may_fall, rise, fall}

-- of the first a positions those that stand are asked; Rises t i says that i holds the greatest rise of the label t
module _ (stands : ℕ → Bool) (p : Problem) (s : State) (floor : Float) (a : ℕ) (Rises : Bool → ℕ → Type 0) where
  -- j stands and may fall, i holds the greatest rise of its label, and their d is above 0
  pub record Follows (i j : ℕ) : Type 0 where
    pub led : Rises (positive s j) i
    pub falls : T (stands j && may_fall p s j)
    pub ahead : T (lt zero (gap p s (rise p s i) j))

  -- −(d·d)/q
  abbrev pub gain_at : ℕ → ℕ → Float
  gain_at i j = gain_of p s floor (rise p s i) i j

  -- of all that follow, j has the least gain, and is the last of equals
  pub record Seconds (i j : ℕ) : Type 0 where
    pub inside : j < a
    pub after : Follows i j
    pub number : NotNan (gain_at i j)
    pub least : (h k : ℕ) → k < a → Follows h k → NotNan (gain_at h k) → T (le (gain_at i j) (gain_at h k))
    pub last : (h k : ℕ) → j < k → k < a → Follows h k → NotNan (gain_at h k) → T (lt (gain_at i j) (gain_at h k))

  -- the pair: i, and j as its second
  pub record Pairs (i j : ℕ) : Type 0 where
    pub second : Seconds i j
    pub apart : i ≡ j → ⊥

  -- nobody follows with a number for its gain
  abbrev pub NoSecond : Type 0
  NoSecond = (i j : ℕ) → j < a → Follows i j → NotNan (gain_at i j) → ⊥

-- x is the greatest rise and the greatest fall, added: of those that hold them
pub record Sum (p : Problem) (s : State) (Rises Falls : ℕ → Type 0) (x : Float) : Type 0 where
  pub up : Float
  pub down : Float
  pub rises : Top Rises (rise p s) up
  pub falls : Top Falls (fall p s) down
  pub sum : x ≡ add binary64 up down
