-- The pair choice of the C rule (the rule, section 'Pair choice, C rule').
use Rattle.std.specs.Prelude.{ℕ, Bool, true, Float, Option}
use Rattle.std.specs.Float.{binary64, inf}
use Rattle.std.specs.Float.Ieee.{add, lt}
use Rattle.alpha.specs.declared.Alpha.{Alpha}
use Rattle.extreme.specs.Best.{at_least, weighed, best}
use Rattle.extreme.specs.declared.Extreme.{Extreme}
use Rattle.partner.specs.Second.{choice}
use Rattle.partner.specs.Sides.{rises_of, falls_of, rise_of, fall_of, may_rise, may_fall, rise, fall}
use Rattle.state.specs.Lists.{Problem, State}
use Rattle.choose_c.specs.declared.Extremes.{Extremes}

-- the largest rise and the largest fall, the last of equals
unfoldable pub extremes_c : Problem → State → ℕ → Extremes
extremes_c p s a =
    record {
      gmax1 = best at_least (inf true) (may_rise p s) (rise p s) a;
      gmax2 = best at_least (inf true) (may_fall p s) (fall p s) a;
    }

-- one more position: its label, gradient and weight
abbrev pub weighed_c : Extremes → ℕ → Bool → Float → Alpha → Extremes
weighed_c e k pos g w =
    record {
      gmax1 = weighed at_least (rises_of pos w) k (rise_of pos g) e.gmax1;
      gmax2 = weighed at_least (falls_of pos w) k (fall_of pos g) e.gmax2;
    }

-- gmax1 + gmax2 < eps
abbrev pub stop_c : Extremes → Float → Bool
stop_c e eps = lt (add binary64 e.gmax1.value e.gmax2.value) eps

-- both labels have one lead
abbrev pub lead_c : Problem → State → ℕ → Bool → Extreme
lead_c p s a t = (extremes_c p s a).gmax1

unfoldable pub choice_c : Problem → State → Float → Float → ℕ → Option (ℕ × ℕ)
choice_c p s floor eps a = choice p s floor (lead_c p s a) (stop_c (extremes_c p s a) eps) a
