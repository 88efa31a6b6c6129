-- The nu rule in its own words: who holds the two extremes of each label, of those that stand (the rule, section 'Pair choice, nu rule').
use Rattle.std.specs.Prelude.{ℕ, Bool, ◌&&◌}
use Rattle.extreme.specs.Rule.{FirstGreatest}
use Rattle.partner.specs.Sides.{may_rise, may_fall, rise, fall}
use Rattle.state.specs.Fields.{positive}
use Rattle.state.specs.Lists.{Problem, State}
use Rattle.choose_nu.specs.Choice.{of_label}

module _ (stands : ℕ → Bool) (p : Problem) (s : State) (a : ℕ) where
  -- of the label t: −G of a positive not at upper, G of a negative not at lower: the largest, and of equals the first
  abbrev pub RisesNu : Bool → ℕ → Type 0
  RisesNu t = FirstGreatest (λ k. stands k && (of_label t (positive s k) && may_rise p s k)) (rise p s) a

  -- of the label t: G of a positive not at lower, −G of a negative not at upper
  abbrev pub FallsNu : Bool → ℕ → Type 0
  FallsNu t = FirstGreatest (λ k. stands k && (of_label t (positive s k) && may_fall p s k)) (fall p s) a
