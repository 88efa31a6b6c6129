-- What the loop over the second asks of a lead, read once; and that loop as a race, proved to lead to `second` (proofs/Steps.antt).
use Rattle.std.specs.Prelude.{ℕ, zero, suc, ◌+◌, ◌*◌, true, false, ◌&&◌, cond, eqb, Float, get_or, Option, Some, None}
use Rattle.std.specs.Bool.{beq}
use Rattle.std.specs.Float.{nan, inf}
use Rattle.std.specs.Float.Ieee.{lt}
use Rattle.alpha.specs.Weight.{zero as nought}
use Rattle.extreme.specs.Best.{at_most}
use Rattle.extreme.specs.Racing.{racing, below, raced}
use Rattle.extreme.specs.declared.Race.{Race}
use Rattle.kernel.specs.Row.{kernel_index, reach_of}
use Rattle.state.specs.Lists.{Problem, State}
use Rattle.state.specs.Fields.{diagonal, positive}
use Rattle.partner.specs.Curvature.{curvature, gain}
use Rattle.partner.specs.Second.{gap}
use Rattle.partner.specs.Sides.{may_fall}
use Rattle.partner.specs.declared.Lead.{Lead}

-- of n positions, the lead with value v and holder h; nobody follows a top of minus infinity
abbrev pub lead_at : ℕ → State → Float → Option ℕ → Lead
lead_at n s v (Some i) =
    let c = kernel_index n s.numbers i in
    record { top = v; index = c; label = get_or s.labels i 0; diagonal = get_or s.floats (5 * n + c) nan }
lead_at n s v None = record { top = inf true; index = 0; label = 0; diagonal = nought }

-- the curvature of the lead l and position j
abbrev pub curve_of : Problem → State → Float → Lead → ℕ → Float
curve_of p s floor l j =
    curvature floor l.diagonal (diagonal p s j)
    (reach_of p.kind p.side p.matrix l.index l.label p.n s.numbers s.labels j)
    (beq (eqb l.label 1) (positive s j))

-- what the pair of the lead l and position j would gain
abbrev pub gain_after : Problem → State → Float → Lead → ℕ → Float
gain_after p s floor l j = gain (gap p s l.top j) (curve_of p s floor l j)

-- position j raced after its lead l
unfoldable pub raced_after : Problem → State → Float → Lead → ℕ → Race → Race
raced_after p s floor l j r =
    cond (may_fall p s j && lt nought (gap p s l.top j)) (raced below at_most j (gain_after p s floor l j) r) r

-- the first positions raced after the lead l of the positives and k of the negatives; a place of a stands for nobody
unfoldable pub raced_to : Problem → State → Float → ℕ → Lead → Lead → ℕ → Race
raced_to p s floor a l k zero = racing (inf false) a
raced_to p s floor a l k (suc j) = raced_after p s floor (cond (positive s j) l k) j (raced_to p s floor a l k j)
