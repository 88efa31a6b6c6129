-- The pair, by plain folds over the copies (the rule, section 'Without an order table').
use Rattle.std.specs.Prelude.{ℕ, Bool, true, false, cond, List, Float, Option, None}
use Rattle.std.specs.Float.{inf, binary64}
use Rattle.std.specs.Float.Ieee.{sub, lt}
use Rattle.alpha.specs.Weight.{zero}
use Rattle.extreme.specs.Best.{at_least, above, at_most, best}
use Rattle.extreme.specs.Racing.{below}
use Rattle.extreme.specs.declared.Extreme.{Extreme}
use Rattle.floats.specs.Helpers.{max_of}
use Rattle.partner.specs.Curvature.{curvature, gain}
use Rattle.partner.specs.Second.{place_of, paired_with}
use Rattle.rho.specs.Rho.{positive_in}
use Rattle.solver.specs.declared.Given.{Given}
use Rattle.orderless.specs.Sheet.{Sheet, entry, sought}

module _ (g : Given) (m y : List ℕ) (o : Sheet) where
  -- the least F that may rise: the last of equals with the C rule, the first with the nu rule
  unfoldable pub lowest : Bool → Extreme
  lowest t = best (cond g.nu below at_most) (inf false) (λ k. true) (o.up t) g.n

  -- the greatest F that may fall
  unfoldable pub highest : Bool → Extreme
  highest t = best (cond g.nu above at_least) (inf true) (λ k. sought g.nu t (positive_in y k)) o.down g.n

  abbrev pub width : Bool → Float
  width t = sub binary64 (highest t).value (lowest t).value

  -- no label's copies lie eps apart
  unfoldable pub stops : Bool
  stops = lt (max_of (width true) (width false)) g.eps

  -- how far sample j lies above the first that it would go with
  abbrev pub rising : ℕ → Float
  rising j = sub binary64 (o.down j) (lowest (positive_in y j)).value

  -- what the pair of i and j would gain
  abbrev pub gain_by : ℕ → ℕ → Float
  gain_by i j = gain (rising j) (curvature g.floor (entry g m i i) (entry g m j j) (entry g m i j) true)

  -- the least gain, the last of equals
  unfoldable pub partner : Extreme
  partner = best at_most (inf false) (λ j. lt zero (rising j)) (λ j. gain_by (place_of (lowest (positive_in y j)).holder) j) g.n

  unfoldable pub choice_in : Option (ℕ × ℕ)
  choice_in = cond stops None (paired_with (λ j. (lowest (positive_in y j)).holder) partner.holder)
