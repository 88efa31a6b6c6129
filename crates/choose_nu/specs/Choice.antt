-- The pair choice of the nu rule (the rule, section 'Pair choice, nu rule').
use Rattle.std.specs.Prelude.{ℕ, Bool, true, false, not, ◌&&◌, Float, Option}
use Rattle.std.specs.Float.{binary64, inf}
use Rattle.std.specs.Float.Ieee.{add, lt}
use Rattle.alpha.specs.declared.Alpha.{Alpha}
use Rattle.extreme.specs.Best.{above, weighed, best}
use Rattle.extreme.specs.declared.Extreme.{Extreme}
use Rattle.floats.specs.Helpers.{max_of}
use Rattle.partner.specs.Second.{choice}
use Rattle.partner.specs.Sides.{rises_of, falls_of, rise_of, fall_of, may_rise, may_fall, rise, fall}
use Rattle.state.specs.Lists.{Problem, State}
use Rattle.state.specs.Fields.{positive}
use Rattle.choose_nu.specs.declared.Extremes.{Extremes}

-- whether a position of label pos is of label t
abbrev pub of_label : Bool → Bool → Bool
of_label true pos = pos
of_label false pos = not pos

-- the largest rise of a label, the first of equals
unfoldable pub risen : Problem → State → ℕ → Bool → Extreme
risen p s a t = best above (inf true) (λ k. of_label t (positive s k) && may_rise p s k) (rise p s) a

-- the largest fall of a label, the first of equals
unfoldable pub fallen : Problem → State → ℕ → Bool → Extreme
fallen p s a t = best above (inf true) (λ k. of_label t (positive s k) && may_fall p s k) (fall p s) a

-- the four, side by side
abbrev pub extremes_nu : Problem → State → ℕ → Extremes
extremes_nu p s a =
    record {
      gmaxp1 = risen p s a true;
      gmaxn1 = risen p s a false;
      gmaxp2 = fallen p s a true;
      gmaxn2 = fallen p s a false;
    }

-- one more position: its label, gradient and weight
abbrev pub weighed_nu : Extremes → ℕ → Bool → Float → Alpha → Extremes
weighed_nu e k pos g w =
    record {
      gmaxp1 = weighed above (pos && rises_of pos w) k (rise_of pos g) e.gmaxp1;
      gmaxn1 = weighed above (not pos && rises_of pos w) k (rise_of pos g) e.gmaxn1;
      gmaxp2 = weighed above (pos && falls_of pos w) k (fall_of pos g) e.gmaxp2;
      gmaxn2 = weighed above (not pos && falls_of pos w) k (fall_of pos g) e.gmaxn2;
    }

-- max of each label's two, added, is below eps
abbrev pub stop_nu : (Bool → Extreme) → (Bool → Extreme) → Float → Bool
stop_nu up down eps =
    lt (max_of (add binary64 (up true).value (down true).value) (add binary64 (up false).value (down false).value)) eps

-- each label has its own lead
unfoldable pub choice_nu : Problem → State → Float → Float → ℕ → Option (ℕ × ℕ)
choice_nu p s floor eps a =
    choice p s floor (risen p s a) (stop_nu (risen p s a) (fallen p s a) eps) a
