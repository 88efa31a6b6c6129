-- The nu rule: what the definitions of specs/Choice.antt choose is what the rule's words say (specs/Rule.antt), over those that stand. With everybody
-- standing these are the definitions that the contracts cite: `pair_rule`, `optimal_rule`, `sum_nu`. Assumes nothing.
use Prim.Native.Nat.{ℕ, ◌≤◌}
use mathlib.Core.Bool.{Bool, true, false, ◌&&◌}
use mathlib.Core.Logic.{◌⊎◌, ◌↔◌}
use mathlib.Core.Path.{◌≡◌}
use native.Mathlib.Nat.{lt_of_lt_of_le}
use lib.Ieee.{Float, binary64, inf, add}
use Rattle.std.specs.Prelude.{Some, None}
use Rattle.extreme.specs.Best.{Below, above, best}
use Rattle.extreme.specs.Rule.{everybody}
use Rattle.extreme.specs.declared.Extreme.{Extreme}
use Rattle.extreme.proofs.Rule.{Words}
use Rattle.extreme.proofs.Tests.{first_words}
use Rattle.partner.specs.Rule.{Pairs, NoSecond, Sum}
use Rattle.partner.specs.Second.{choice, second}
use Rattle.partner.specs.Sides.{may_rise, may_fall, rise, fall}
use Rattle.partner.proofs.Rule.{choice_pair, choice_optimal, sum_of}
use Rattle.state.specs.Fields.{positive}
use Rattle.state.specs.Lists.{Problem, State}
use Rattle.choose_nu.specs.Choice.{of_label, risen, fallen, stop_nu, choice_nu}
use Rattle.choose_nu.specs.Rule.{RisesNu, FallsNu}

module _ (stands : ℕ → Bool) (p : Problem) (s : State) (a : ℕ) (t : Bool) where
  abbrev pub risen_nu : Extreme
  risen_nu = best above (inf true) (λ k. stands k && (of_label t (positive s k) && may_rise p s k)) (rise p s) a

  abbrev pub fallen_nu : Extreme
  fallen_nu = best above (inf true) (λ k. stands k && (of_label t (positive s k) && may_fall p s k)) (fall p s) a

  pub rises_nu : Words (inf true) (rise p s) (RisesNu stands p s a t) risen_nu
  rises_nu = first_words (λ k. stands k && (of_label t (positive s k) && may_rise p s k)) (rise p s) a

  pub falls_nu : Words (inf true) (fall p s) (FallsNu stands p s a t) fallen_nu
  falls_nu = first_words (λ k. stands k && (of_label t (positive s k) && may_fall p s k)) (fall p s) a

  pub sum_nu : Sum p s (RisesNu stands p s a t) (FallsNu stands p s a t) (add binary64 risen_nu.value fallen_nu.value)
  sum_nu = sum_of p s rises_nu falls_nu

-- ---- everybody stands

module _ (p : Problem) (s : State) (a : ℕ) where
  -- what a lead's holder is read at
  pub lead_below : (n : ℕ) → a ≤ n → (t : Bool) → Below n (risen p s a t).holder
  unfolding risen
  lead_below n h t i l = lt_of_lt_of_le (((rises_nu everybody p s a t).named i).0 l).inside h

  module _ (floor eps : Float) where
    -- a pair exactly where the larger sum isn't below eps, i holds the lead of j's label, and j is the last of the least gain of those that follow theirs
    pub pair_rule : (i j : ℕ) → (choice_nu p s floor eps a ≡ Some (i, j)) ↔ ((stop_nu (risen p s a) (fallen p s a) eps ≡ false) × Pairs everybody p s floor a (RisesNu everybody p s a) i j)
    unfolding choice_nu choice second risen fallen
    pair_rule i j = choice_pair everybody p s floor a (risen_nu everybody p s a) (RisesNu everybody p s a) (rises_nu everybody p s a) (stop_nu (risen p s a) (fallen p s a) eps) i j

    -- optimal exactly where the larger sum is below eps, or no j exists
    pub optimal_rule : (choice_nu p s floor eps a ≡ None) ↔ ((stop_nu (risen p s a) (fallen p s a) eps ≡ true) ⊎ NoSecond everybody p s floor a (RisesNu everybody p s a))
    unfolding choice_nu choice second risen fallen
    optimal_rule = choice_optimal everybody p s floor a (risen_nu everybody p s a) (RisesNu everybody p s a) (rises_nu everybody p s a) (stop_nu (risen p s a) (fallen p s a) eps)
