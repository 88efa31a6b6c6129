-- The second of the pair, and the choice, for both rules (the rule, sections 'Pair choice').
use Rattle.std.specs.Prelude.{ℕ, Bool, false, ◌&&◌, cond, Float, Option, Some, None, is_some, unwrap_or}
use Rattle.std.specs.Bool.{beq}
use Rattle.std.specs.Float.{inf}
use Rattle.std.specs.Float.Ieee.{lt}
use Rattle.alpha.specs.Weight.{zero}
use Rattle.extreme.specs.Best.{at_most, best}
use Rattle.extreme.specs.declared.Extreme.{Extreme}
use Rattle.state.specs.Lists.{Problem, State}
use Rattle.state.specs.Fields.{gradient, diagonal, row, positive}
use Rattle.partner.specs.Curvature.{curvature, gap_of, gain}
use Rattle.partner.specs.Sides.{may_fall}

abbrev pub place_of : Option ℕ → ℕ
place_of h = unwrap_or h 0

abbrev pub agree : State → ℕ → ℕ → Bool
agree s i j = beq (positive s i) (positive s j)

-- the lead of the positives and that of the negatives, by label
abbrev pub leads : Extreme → Extreme → Bool → Extreme
leads p q pos = cond pos p q

-- d of a lead with value top
abbrev pub gap : Problem → State → Float → ℕ → Float
gap p s top j = gap_of (positive s j) top (gradient p s j)

-- whether j may be the second: the lead of its label has a holder, j may fall, and d > 0
abbrev pub follows : Problem → State → (Bool → Extreme) → ℕ → Bool
follows p s lead j =
    let e = lead (positive s j) in
    is_some e.holder && (may_fall p s j && lt zero (gap p s e.value j))

-- what the pair of i and j would gain, i the holder of a lead with value top
abbrev pub gain_of : Problem → State → Float → Float → ℕ → ℕ → Float
gain_of p s floor top i j = gain (gap p s top j) (curvature floor (diagonal p s i) (diagonal p s j) (row p s i j) (agree s i j))

-- the least gain, and the last of equals; lead is the lead of each label
unfoldable pub second : Problem → State → Float → (Bool → Extreme) → ℕ → Extreme
second p s floor lead a =
    best at_most (inf false) (follows p s lead) (λ j. let e = lead (positive s j) in gain_of p s floor e.value (place_of e.holder) j) a

-- ---- the choice

abbrev pub paired : Option ℕ → ℕ → Option (ℕ × ℕ)
paired (Some i) j = Some (i, j)
paired None j = None

abbrev pub paired_with : (ℕ → Option ℕ) → Option ℕ → Option (ℕ × ℕ)
paired_with first (Some j) = paired (first j) j
paired_with first None = None

-- no pair where the rule stops, or there is no second; else the second with the holder of its label's lead
unfoldable pub choice : Problem → State → Float → (Bool → Extreme) → Bool → ℕ → Option (ℕ × ℕ)
choice p s floor lead stop a = cond stop None (paired_with (λ j. (lead (positive s j)).holder) (second p s floor lead a).holder)
