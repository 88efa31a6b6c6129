-- The step of a pair before it is clipped (the rule, section 'Update').
use Rattle.std.specs.Prelude.{ℕ, eqb, Float, get_or}
use Rattle.state.specs.Fields.{gradient, diagonal, row}
use Rattle.state.specs.Lists.{Problem, State}
use Rattle.kernel.specs.Curvature.{curved}
use Rattle.update.specs.Pair.{floored, step_of}

-- of positions i and j
abbrev pub delta_at : Problem → State → Float → ℕ → ℕ → Float
delta_at p s floor i j =
    let agree = eqb (get_or s.labels i 0) (get_or s.labels j 0) in
    step_of agree (gradient p s i) (gradient p s j) (floored floor (curved agree (diagonal p s i) (diagonal p s j) (row p s i j)))
