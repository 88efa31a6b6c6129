-- The C rule: what the definitions of specs/Choice.antt choose is what the rule's words say (specs/Rule.antt), over those that stand. With everybody
-- standing these are the definitions that the contracts cite: `pair_rule`, `optimal_rule`, `sum_c`. Assumes nothing.
use Prim.Native.Nat.{ℕ, ◌≤◌}
use mathlib.Core.Bool.{Bool, true, false, ◌&&◌}
use mathlib.Core.Logic.{◌⊎◌, ◌↔◌}
use mathlib.Core.Path.{◌≡◌}
use native.Mathlib.Nat.{lt_of_lt_of_le}
use lib.Ieee.{Float, binary64, inf, add}
use Rattle.std.specs.Prelude.{Some, None}
use Rattle.extreme.specs.Best.{Below, at_least, best}
use Rattle.extreme.specs.Rule.{everybody}
use Rattle.extreme.specs.declared.Extreme.{Extreme}
use Rattle.extreme.proofs.Rule.{Words}
use Rattle.extreme.proofs.Tests.{greatest_words}
use Rattle.partner.specs.Rule.{Pairs, NoSecond, Sum}
use Rattle.partner.specs.Second.{choice, second}
use Rattle.partner.specs.Sides.{may_rise, may_fall, rise, fall}
use Rattle.partner.proofs.Rule.{choice_pair, choice_optimal, sum_of}
use Rattle.state.specs.Lists.{Problem, State}
use Rattle.choose_c.specs.Choice.{extremes_c, stop_c, choice_c}
use Rattle.choose_c.specs.Rule.{RisesC, FallsC}

module _ (stands : ℕ → Bool) (p : Problem) (s : State) (a : ℕ) where
  abbrev pub risen_c : Extreme
  risen_c = best at_least (inf true) (λ k. stands k && may_rise p s k) (rise p s) a

  abbrev pub fallen_c : Extreme
  fallen_c = best at_least (inf true) (λ k. stands k && may_fall p s k) (fall p s) a

  pub rises_c : Words (inf true) (rise p s) (RisesC stands p s a) risen_c
  rises_c = greatest_words (λ k. stands k && may_rise p s k) (rise p s) a

  pub falls_c : Words (inf true) (fall p s) (FallsC stands p s a) fallen_c
  falls_c = greatest_words (λ k. stands k && may_fall p s k) (fall p s) a

  pub sum_c : Sum p s (RisesC stands p s a) (FallsC stands p s a) (add binary64 risen_c.value fallen_c.value)
  sum_c = sum_of p s rises_c falls_c

-- ---- everybody stands

module _ (p : Problem) (s : State) (a : ℕ) where
  -- what the lead's holder is read at
  pub lead_below : (n : ℕ) → a ≤ n → Below n (extremes_c p s a).gmax1.holder
  unfolding extremes_c
  lead_below n h i l = lt_of_lt_of_le (((rises_c everybody p s a).named i).0 l).inside h

  module _ (floor eps : Float) where
    abbrev R : Bool → ℕ → Type 0
    R t = RisesC everybody p s a

    -- a pair exactly where gmax1 + gmax2 isn't below eps, i holds gmax1, and j is the last of the least gain of those that follow it
    pub pair_rule : (i j : ℕ) → (choice_c p s floor eps a ≡ Some (i, j)) ↔ ((stop_c (extremes_c p s a) eps ≡ false) × Pairs everybody p s floor a R i j)
    unfolding choice_c choice second extremes_c
    pair_rule i j = choice_pair everybody p s floor a (λ t. risen_c everybody p s a) R (λ t. rises_c everybody p s a) (stop_c (extremes_c p s a) eps) i j

    -- optimal exactly where gmax1 + gmax2 < eps, or no j exists
    pub optimal_rule : (choice_c p s floor eps a ≡ None) ↔ ((stop_c (extremes_c p s a) eps ≡ true) ⊎ NoSecond everybody p s floor a R)
    unfolding choice_c choice second extremes_c
    optimal_rule = choice_optimal everybody p s floor a (λ t. risen_c everybody p s a) R (λ t. rises_c everybody p s a) (stop_c (extremes_c p s a) eps)
