-- Carrying the clipped pair into the gradients (the rule, section 'Update').
use Rattle.std.specs.Prelude.{ℕ, zero, suc, ◌+◌, ◌*◌, Bool, cond, List, eqb, Float, get_or, set}
use Rattle.std.specs.Bool.{beq}
use Rattle.std.specs.Float.{nan, binary64}
use Rattle.std.specs.Float.Ieee.{neg, add, sub, mul}
use Rattle.alpha.specs.Weight.{weight, at_upper}
use Rattle.alpha.specs.declared.Alpha.{Alpha}
use Rattle.modes.specs.Modes.{travels, repaired}
use Rattle.modes.specs.declared.Mode.{Mode}
use Rattle.rows.specs.Added.{row_added}
use Rattle.state.specs.Lists.{Problem, State, over}
use Rattle.state.specs.Fields.{gradient, alpha_in, alpha, diagonal, row, bound}
use Rattle.update.specs.Pair.{pair_of}
use Rattle.update.specs.declared.Pair.{Pair}

-- ---- what the modes differ in

-- the ceiling of position k in a step: that of its place, or where ceilings travel its own
unfoldable pub ceiling_in : ℕ → Mode → List Float → List Float → ℕ → Float
ceiling_in n mode b f k = cond (travels mode) (alpha_in n f k).upper (bound b k)

abbrev pub ceiling : Problem → Mode → List Float → State → ℕ → Float
ceiling p mode b s k = ceiling_in p.n mode b s.floats k

-- whether a position with the record w, which takes the value x, counted as at upper: by its own ceiling after the step, repaired before it
unfoldable pub counted_upper : Mode → Alpha → Float → Bool
counted_upper mode w x = cond (repaired mode) (at_upper w) (at_upper (weight x w.upper))

-- how many fixed gradients a turn of j reaches: the active ones, repaired all
unfoldable pub j_reach : Mode → ℕ → ℕ → ℕ
j_reach mode n a = cond (repaired mode) n a

-- ---- the pair

-- what the step leaves of positions i and j
unfoldable pub pair_at : Problem → List Float → Mode → Float → State → ℕ → ℕ → Pair
pair_at p b mode floor s i j =
    pair_of (weight (alpha p s i).value (ceiling p mode b s i)) (weight (alpha p s j).value (ceiling p mode b s j)) (gradient p s i) (gradient p s j)
    (diagonal p s i) (diagonal p s j) (row p s i j) (eqb (get_or s.labels i 0) (get_or s.labels j 0)) floor

-- the first gradients, where the weights of i and j changed by xi and xj: the two products are added first
unfoldable pub shifted_to : Problem → State → ℕ → ℕ → Float → Float → ℕ → List Float
shifted_to p s i j xi xj zero = s.floats
shifted_to p s i j xi xj (suc k) =
    let f = shifted_to p s i j xi xj k in
    set f k (add binary64 (get_or f k nan) (add binary64 (mul binary64 (row p s i k) xi) (mul binary64 (row p s j k) xj)))

-- ---- a position takes its new weight

unfoldable pub stored : ℕ → List Float → ℕ → Alpha → List Float
stored n f k w = set (set f (2 * n + k) w.value) (3 * n + k) w.upper

abbrev pub turn_signed : Bool → Float → Float
turn_signed up x = cond up (neg x) x

-- w is the record of position k, and up whether the position counts as at upper. Where w turns that, w's ceiling times row k is taken
-- from the first fixed gradients, or added to them
unfoldable pub turned_by : Problem → State → ℕ → Bool → Alpha → ℕ → List Float
turned_by p s k up w count =
    cond (beq up (at_upper w)) s.floats (row_added p s p.n (turn_signed up w.upper) k 0 count)

-- position k takes the value x and its ceiling
unfoldable pub settled : Problem → List Float → Mode → State → ℕ → Float → ℕ → List Float
settled p b mode s k x count =
    let w = weight x (ceiling p mode b s k) in
    turned_by p (over s (stored p.n s.floats k w)) k (counted_upper mode (alpha p s k) x) w count

-- ---- the whole

-- q is the clipped pair: the fixed gradient takes i's turn in all n places, j's as far as the mode says
unfoldable pub carried : Problem → List Float → Mode → State → ℕ → ℕ → Pair → ℕ → List Float
carried p b mode s i j q a =
    let xi = sub binary64 q.i.value (alpha p s i).value in
    let xj = sub binary64 q.j.value (alpha p s j).value in
    let t = over s (shifted_to p s i j xi xj a) in
    settled p b mode (over s (settled p b mode t i q.i.value p.n)) j q.j.value (j_reach mode p.n a)

unfoldable pub updated : Problem → List Float → Mode → Float → State → ℕ → ℕ → ℕ → List Float
updated p b mode floor s i j a = carried p b mode s i j (pair_at p b mode floor s i j) a

-- the state that it leaves
abbrev pub updated_state : Problem → List Float → Mode → Float → State → ℕ → ℕ → ℕ → State
updated_state p b mode floor s i j a = over s (updated p b mode floor s i j a)
