-- Which positions are to be dropped: four thresholds, by bound and label (the rule, section 'Shrinking').
use Rattle.std.specs.Prelude.{ℕ, Bool, false, not, cond, eqb, Float, get_or}
use Rattle.std.specs.Float.{nan}
use Rattle.std.specs.Float.Ieee.{neg, lt}
use Rattle.alpha.specs.Weight.{at_upper, at_lower}
use Rattle.alpha.specs.declared.Alpha.{Alpha}
use Rattle.state.specs.Fields.{alpha_in}
use Rattle.state.specs.Lists.{State}
use Rattle.state.specs.Moving.{moved}
use Rattle.shrink.specs.Walk.{Walking, walked}
use Rattle.shrink.specs.declared.Limits.{Limits}

-- C rule: the two extremes; at lower a negative one is asked for −G, repaired for G
abbrev pub limits_c : Bool → Float → Float → Limits
limits_c repaired gmax1 gmax2 =
    record { upos = gmax1; uneg = gmax2; lpos = gmax2; lneg = gmax1; mirrored = not repaired; ends = repaired }

-- nu rule: the four extremes; at lower they cross the labels, repaired they don't
unfoldable pub limits_nu : Bool → Float → Float → Float → Float → Limits
limits_nu repaired gmax1 gmax2 gmax3 gmax4 =
    record { upos = gmax1; uneg = gmax4; lpos = cond repaired gmax3 gmax2; lneg = cond repaired gmax2 gmax3; mirrored = false; ends = repaired }

abbrev pub upper_drops : Limits → Bool → Float → Bool
upper_drops l positive g = cond positive (lt l.upos (neg g)) (lt l.uneg (neg g))

abbrev pub lower_drops : Limits → Bool → Float → Bool
lower_drops l positive g = cond positive (lt l.lpos g) (cond l.mirrored (lt l.lneg (neg g)) (lt l.lneg g))

unfoldable pub drops_by : Limits → Alpha → Bool → Float → Bool
drops_by l w positive g = cond (at_upper w) (upper_drops l positive g) (cond (at_lower w) (lower_drops l positive g) false)

-- position k of the state
unfoldable pub drops_at : ℕ → Limits → State → ℕ → Bool
drops_at n l s k = drops_by l (alpha_in n s.floats k) (eqb (get_or s.labels k 0) 1) (get_or s.floats k nan)

-- the walk over the lent lists
abbrev pub walked_over : ℕ → Limits → ℕ → State → Walking State
walked_over n l a s = walked l.ends (drops_at n l) (moved n) a s a
