-- The pair choice over the positions that stand: what is retired is passed over (the rule, section 'Retired samples'). The words are those of the rule's sections
-- 'Pair choice', with `stands k` before each test.
use Rattle.std.specs.Prelude.{ℕ, Bool, true, false, ◌&&◌, cond, Float, Option, None}
use Rattle.std.specs.Float.{inf}
use Rattle.choose_c.specs.Choice.{stop_c}
use Rattle.choose_c.specs.declared.Extremes.{Extremes}
use Rattle.choose_nu.specs.Choice.{of_label, stop_nu}
use Rattle.extreme.specs.Best.{at_least, above, at_most, best}
use Rattle.extreme.specs.declared.Extreme.{Extreme}
use Rattle.partner.specs.Second.{place_of, follows, gain_of, paired_with}
use Rattle.partner.specs.Sides.{may_rise, may_fall, rise, fall}
use Rattle.state.specs.Fields.{positive}
use Rattle.state.specs.Lists.{Problem, State}

module _ (stands : ℕ → Bool) (p : Problem) (s : State) where
  -- ---- both rules: the second of the pair

  unfoldable pub second_over : Float → (Bool → Extreme) → ℕ → Extreme
  second_over floor lead a =
      best at_most (inf false) (λ j. stands j && follows p s lead j) (λ j. let e = lead (positive s j) in gain_of p s floor e.value (place_of e.holder) j) a

  unfoldable pub choice_over : Float → (Bool → Extreme) → Bool → ℕ → Option (ℕ × ℕ)
  choice_over floor lead stop a = cond stop None (paired_with (λ j. (lead (positive s j)).holder) (second_over floor lead a).holder)

  -- ---- C rule

  unfoldable pub extremes_over : ℕ → Extremes
  extremes_over a =
      record {
        gmax1 = best at_least (inf true) (λ k. stands k && may_rise p s k) (rise p s) a;
        gmax2 = best at_least (inf true) (λ k. stands k && may_fall p s k) (fall p s) a;
      }

  unfoldable pub choice_c_over : Float → Float → ℕ → Option (ℕ × ℕ)
  choice_c_over floor eps a = choice_over floor (λ t. (extremes_over a).gmax1) (stop_c (extremes_over a) eps) a

  -- ---- nu rule

  unfoldable pub risen_over : ℕ → Bool → Extreme
  risen_over a t = best above (inf true) (λ k. stands k && (of_label t (positive s k) && may_rise p s k)) (rise p s) a

  unfoldable pub fallen_over : ℕ → Bool → Extreme
  fallen_over a t = best above (inf true) (λ k. stands k && (of_label t (positive s k) && may_fall p s k)) (fall p s) a

  unfoldable pub choice_nu_over : Float → Float → ℕ → Option (ℕ × ℕ)
  choice_nu_over floor eps a = choice_over floor (risen_over a) (stop_nu (risen_over a) (fallen_over a) eps) a
