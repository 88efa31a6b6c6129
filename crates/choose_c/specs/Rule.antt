-- The C rule in its own words: who holds gmax1 and gmax2, of those that stand (the rule, section 'Pair choice, C rule').
use Rattle.std.specs.Prelude.{ℕ, Bool, ◌&&◌}
use Rattle.extreme.specs.Rule.{LastGreatest}
use Rattle.partner.specs.Sides.{may_rise, may_fall, rise, fall}
use Rattle.state.specs.Lists.{Problem, State}

module _ (stands : ℕ → Bool) (p : Problem) (s : State) (a : ℕ) where
  -- −G of a positive not at upper, G of a negative not at lower: the largest, and of equals the last
  abbrev pub RisesC : ℕ → Type 0
  RisesC = LastGreatest (λ k. stands k && may_rise p s k) (rise p s) a

  -- G of a positive not at lower, −G of a negative not at upper
  abbrev pub FallsC : ℕ → Type 0
  FallsC = LastGreatest (λ k. stands k && may_fall p s k) (fall p s) a
