-- What an update leaves at each place. Assumes nothing.
--
-- Main theorems:
--   length_updated: the list is as long as before
--   alpha_i: position i has the new weight and the ceiling that it had in the step, where i and j are two; `alpha_j` for j; `alpha_other`: all others as before
--   behind: linear terms, the diagonal, the row and all behind are as before
--   gradient_active: the gradient of an active position after the step; `gradient_inactive`: the others' are as before
--   fixed_reached: the fixed gradient of a position that j's turn reaches has both turns, i's first, where i and j are two
--   fixed_beyond: that of the others has i's turn alone
use Prim.Native.Nat.{ℕ, ◌+◌, ◌*◌, ◌≤◌, ◌<◌}
use native.Mathlib.Decide.{ℕ_discrete}
use native.Mathlib.Omega.{arith}
use mathlib.Core.Bool.{Bool, true, false, cond}
use mathlib.Core.List.{List}
use mathlib.Core.Path.{◌≡◌, refl, sym, ap, ap₂, ◌∙◌}
use lib.Ieee.{Float, nan, binary64, add, sub, mul}
use lib.ListN.{length, get_or, set, length-set}
use lib.Seq.{get_or-set_same, get_or-set_other}
use Rattle.alpha.specs.Weight.{weight}
use Rattle.alpha.specs.declared.Alpha.{Alpha}
use Rattle.modes.specs.Modes.{travels, repaired}
use Rattle.modes.specs.declared.Mode.{Mode}
use Rattle.state.specs.Lists.{Problem, State, over}
use Rattle.state.specs.Fields.{gradient, gradient_fixed, alpha, row, bound}
use Rattle.update.specs.Update.{ceiling_in, ceiling, counted_upper, j_reach, stored, settled, carried, shifted_to, pair_at, updated, updated_state}
use Rattle.update.specs.declared.Pair.{Pair}
use Rattle.update.proofs.Filled.{length_shifted_to, shifted_to_other, shifted_to_at}
use Rattle.update.proofs.Turned.{turned_place, length_turned_by, turned_by_other, turned_by_at}

-- ---- one position takes its new weight

module _ (n : ℕ) (f : List Float) (k : ℕ) (w : Alpha) where
  length_stored : length (stored n f k w) ≡ length f
  unfolding stored
  length_stored = simp length-set

  stored_other : (q : ℕ) → (q ≡ 2 * n + k → ⊥) → (q ≡ 3 * n + k → ⊥) → get_or (stored n f k w) q nan ≡ get_or f q nan
  unfolding stored
  stored_other q g h = get_or-set_other (set f (2 * n + k) w.value) (3 * n + k) q w.upper nan h ∙ get_or-set_other f (2 * n + k) q w.value nan g

  module _ (K : k < n) (room : 7 * n ≤ length f) where
    stored_value : get_or (stored n f k w) (2 * n + k) nan ≡ w.value
    unfolding stored
    stored_value =
        get_or-set_other (set f (2 * n + k) w.value) (3 * n + k) (2 * n + k) w.upper nan (λ e. omega arith)
        ∙ get_or-set_same f (2 * n + k) w.value nan (omega arith)

    stored_upper : get_or (stored n f k w) (3 * n + k) nan ≡ w.upper
    unfolding stored
    stored_upper = get_or-set_same (set f (2 * n + k) w.value) (3 * n + k) w.upper nan (simp length-set (omega arith))

-- ---- what the modes differ in

-- a position's ceiling in a step is told by its own
pub ceiling_alike : (p : Problem) (mode : Mode) (b : List Float) (s t : State) (k : ℕ) → (alpha p s k).upper ≡ (alpha p t k).upper
    → ceiling p mode b s k ≡ ceiling p mode b t k
unfolding ceiling_in
ceiling_alike p mode b s t k e = rw e

-- and a step that leaves it there leaves it as it was
ceiling_again : (p : Problem) (mode : Mode) (b : List Float) (s t : State) (k : ℕ) → (alpha p t k).upper ≡ ceiling p mode b s k → ceiling p mode b t k ≡ ceiling p mode b s k
unfolding ceiling_in
ceiling_again p mode b s t k e = go (travels mode) e
  where
    go : (x : Bool) → (alpha p t k).upper ≡ cond x (alpha p s k).upper (bound b k) → cond x (alpha p t k).upper (bound b k) ≡ cond x (alpha p s k).upper (bound b k)
    go true e = e
    go false e = refl

reach_most : (mode : Mode) (n a : ℕ) → a ≤ n → j_reach mode n a ≤ n
unfolding j_reach
reach_most mode n a h = go (repaired mode)
  where
    go : (x : Bool) → cond x n a ≤ n
    go true = omega arith
    go false = h

reach_least : (mode : Mode) (n a : ℕ) → a ≤ n → a ≤ j_reach mode n a
unfolding j_reach
reach_least mode n a h = go (repaired mode)
  where
    go : (x : Bool) → a ≤ cond x n a
    go true = h
    go false = omega arith

-- what a fixed gradient g becomes by the turn of position k, which takes the value x: h is the place
abbrev pub turn_of : Problem → List Float → Mode → State → ℕ → Float → ℕ → Float → Float
turn_of p b mode s k x h g = turned_place (counted_upper mode (alpha p s k) x) (weight x (ceiling p mode b s k)) g (row p s k h)

module _ (p : Problem) (b : List Float) (mode : Mode) (s : State) (k : ℕ) (x : Float) (count : ℕ) where
  abbrev w : Alpha
  w = weight x (ceiling p mode b s k)

  abbrev t : State
  t = over s (stored p.n s.floats k w)

  length_settled : length (settled p b mode s k x count) ≡ length s.floats
  unfolding settled
  length_settled = length_turned_by p t k _ w count ∙ length_stored p.n s.floats k w

  settled_other : (q : ℕ) → ((h : ℕ) → h < count → q ≡ p.n + h → ⊥) → (q ≡ 2 * p.n + k → ⊥) → (q ≡ 3 * p.n + k → ⊥)
      → get_or (settled p b mode s k x count) q nan ≡ get_or s.floats q nan
  unfolding settled
  settled_other q out g h = turned_by_other p t k _ w count q out ∙ stored_other p.n s.floats k w q g h

  module _ (K : k < p.n) (C : count ≤ p.n) (room : 7 * p.n ≤ length s.floats) where
    settled_value : get_or (settled p b mode s k x count) (2 * p.n + k) nan ≡ x
    unfolding settled
    settled_value = turned_by_other p t k _ w count (2 * p.n + k) (λ h g e. omega arith) ∙ stored_value p.n s.floats k w K room

    settled_upper : get_or (settled p b mode s k x count) (3 * p.n + k) nan ≡ ceiling p mode b s k
    unfolding settled
    settled_upper = turned_by_other p t k _ w count (3 * p.n + k) (λ h g e. omega arith) ∙ stored_upper p.n s.floats k w K room

    settled_fixed : (h : ℕ) → h < count → get_or (settled p b mode s k x count) (p.n + h) nan ≡ turn_of p b mode s k x h (get_or s.floats (p.n + h) nan)
    unfolding settled
    settled_fixed h g =
        turned_by_at p t k _ w count h g (rw (length_stored p.n s.floats k w) (omega arith))
        ∙ ap (turn_of p b mode s k x h) (stored_other p.n s.floats k w (p.n + h) (λ e. omega arith) (λ e. omega arith))

-- ---- the whole

module _ (p : Problem) (b : List Float) (mode : Mode) (floor : Float) (s : State) (i j a : ℕ) where
  abbrev q : Pair
  q = pair_at p b mode floor s i j

  abbrev xi : Float
  xi = sub binary64 q.i.value (alpha p s i).value

  abbrev xj : Float
  xj = sub binary64 q.j.value (alpha p s j).value

  -- after the gradients, and after i
  abbrev s1 : State
  s1 = over s (shifted_to p s i j xi xj a)

  abbrev s2 : State
  s2 = over s (settled p b mode s1 i q.i.value p.n)

  abbrev new : State
  new = updated_state p b mode floor s i j a

  -- how far j's turn reaches
  abbrev c : ℕ
  c = j_reach mode p.n a

  pub length_updated : length (updated p b mode floor s i j a) ≡ length s.floats
  unfolding updated carried
  length_updated = length_settled p b mode s2 j q.j.value c ∙ length_settled p b mode s1 i q.i.value p.n ∙ length_shifted_to p s i j xi xj a

  module _ (I : i < p.n) (J : j < p.n) (A : a ≤ p.n) (room : 7 * p.n ≤ length s.floats) where
    room1 : 7 * p.n ≤ length s1.floats
    room1 = rw (length_shifted_to p s i j xi xj a) room

    room2 : 7 * p.n ≤ length s2.floats
    room2 = rw (length_settled p b mode s1 i q.i.value p.n) room1

    C : c ≤ p.n
    C = reach_most mode p.n a A

    -- ---- the records before

    own_i : alpha p s1 i ≡ alpha p s i
    own_i = ap₂ weight (shifted_to_other p s i j xi xj a (2 * p.n + i) (omega arith)) (shifted_to_other p s i j xi xj a (3 * p.n + i) (omega arith))

    own_j : (i ≡ j → ⊥) → alpha p s2 j ≡ alpha p s j
    own_j d =
        ap₂ weight
        (settled_other p b mode s1 i q.i.value p.n (2 * p.n + j) (λ h g e. omega arith) (λ e. d (omega arith)) (λ e. omega arith)
        ∙ shifted_to_other p s i j xi xj a (2 * p.n + j) (omega arith))
        (settled_other p b mode s1 i q.i.value p.n (3 * p.n + j) (λ h g e. omega arith) (λ e. omega arith) (λ e. d (omega arith))
        ∙ shifted_to_other p s i j xi xj a (3 * p.n + j) (omega arith))

    ceiling_i : ceiling p mode b s1 i ≡ ceiling p mode b s i
    ceiling_i = ceiling_alike p mode b s1 s i (ap (λ z. z.upper) own_i)

    -- i's turn leaves j's ceiling, also where it is i's own
    ceiling_j : ceiling p mode b s2 j ≡ ceiling p mode b s j
    ceiling_j = go (ℕ_discrete i j)
      where
        go : Dec (i ≡ j) → ceiling p mode b s2 j ≡ ceiling p mode b s j
        go (yes e) =
            ap (λ (k : ℕ). ceiling p mode b s2 k) (sym e)
            ∙ ceiling_again p mode b s1 s2 i (settled_upper p b mode s1 i q.i.value p.n I (omega arith) room1) ∙ ceiling_i
            ∙ ap (λ (k : ℕ). ceiling p mode b s k) e
        go (no d) = ceiling_alike p mode b s2 s j (ap (λ z. z.upper) (own_j d))

    -- a place that is neither a fixed gradient nor in one of the two records
    elsewhere : (k : ℕ) → ((h : ℕ) → h < p.n → k ≡ p.n + h → ⊥) → (k ≡ 2 * p.n + i → ⊥) → (k ≡ 3 * p.n + i → ⊥)
        → (k ≡ 2 * p.n + j → ⊥) → (k ≡ 3 * p.n + j → ⊥) → get_or (updated p b mode floor s i j a) k nan ≡ get_or s1.floats k nan
    unfolding updated carried
    elsewhere k out g h u v =
        settled_other p b mode s2 j q.j.value c k (λ m l. out m (omega (arith, C))) u v ∙ settled_other p b mode s1 i q.i.value p.n k out g h

    -- ---- weights and ceilings

    pub alpha_i : (i ≡ j → ⊥) → alpha p new i ≡ weight q.i.value (ceiling p mode b s i)
    unfolding updated carried
    alpha_i d =
        ap₂ weight
        (settled_other p b mode s2 j q.j.value c (2 * p.n + i) (λ h g e. omega (arith, C)) (λ e. d (omega arith)) (λ e. omega arith)
        ∙ settled_value p b mode s1 i q.i.value p.n I (omega arith) room1)
        (settled_other p b mode s2 j q.j.value c (3 * p.n + i) (λ h g e. omega (arith, C)) (λ e. omega arith) (λ e. d (omega arith))
        ∙ settled_upper p b mode s1 i q.i.value p.n I (omega arith) room1
        ∙ ceiling_i)

    pub alpha_j : alpha p new j ≡ weight q.j.value (ceiling p mode b s j)
    unfolding updated carried
    alpha_j = ap₂ weight (settled_value p b mode s2 j q.j.value c J C room2) (settled_upper p b mode s2 j q.j.value c J C room2 ∙ ceiling_j)

    pub alpha_other : (k : ℕ) → k < p.n → (k ≡ i → ⊥) → (k ≡ j → ⊥) → alpha p new k ≡ alpha p s k
    alpha_other k K g h =
        ap₂ weight
        (elsewhere (2 * p.n + k) (λ m l e. omega arith) (λ e. g (omega arith)) (λ e. omega arith) (λ e. h (omega arith)) (λ e. omega arith)
        ∙ shifted_to_other p s i j xi xj a (2 * p.n + k) (omega arith))
        (elsewhere (3 * p.n + k) (λ m l e. omega arith) (λ e. omega arith) (λ e. g (omega arith)) (λ e. omega arith) (λ e. h (omega arith))
        ∙ shifted_to_other p s i j xi xj a (3 * p.n + k) (omega arith))

    -- ---- linear terms, diagonals, the row, and all that lies behind

    pub behind : (k : ℕ) → 4 * p.n ≤ k → get_or (updated p b mode floor s i j a) k nan ≡ get_or s.floats k nan
    behind k K =
        elsewhere k (λ m l e. omega arith) (λ e. omega arith) (λ e. omega arith) (λ e. omega arith) (λ e. omega arith)
        ∙ shifted_to_other p s i j xi xj a k (omega arith)

    -- ---- gradients

    only_shifted : (k : ℕ) → k < p.n → gradient p new k ≡ gradient p s1 k
    only_shifted k K = elsewhere k (λ m l e. omega arith) (λ e. omega arith) (λ e. omega arith) (λ e. omega arith) (λ e. omega arith)

    pub gradient_active : (k : ℕ) → k < a
        → gradient p new k ≡ add binary64 (gradient p s k) (add binary64 (mul binary64 (row p s i k) xi) (mul binary64 (row p s j k) xj))
    gradient_active k K = only_shifted k (omega arith) ∙ shifted_to_at p s i j xi xj a k K (omega arith)

    pub gradient_inactive : (k : ℕ) → a ≤ k → k < p.n → gradient p new k ≡ gradient p s k
    gradient_inactive k l K = only_shifted k K ∙ shifted_to_other p s i j xi xj a k l

    -- ---- fixed gradients

    turn_i : (k : ℕ) → k < p.n → gradient_fixed p s2 k ≡ turn_of p b mode s i q.i.value k (gradient_fixed p s k)
    turn_i k K =
        settled_fixed p b mode s1 i q.i.value p.n I (omega arith) room1 k K
        ∙ rw (own_i, ceiling_i, shifted_to_other p s i j xi xj a (p.n + k) (omega arith))

    pub fixed_reached : (i ≡ j → ⊥) → (k : ℕ) → k < c
        → gradient_fixed p new k ≡ turn_of p b mode s j q.j.value k (turn_of p b mode s i q.i.value k (gradient_fixed p s k))
    unfolding updated carried
    fixed_reached d k K = settled_fixed p b mode s2 j q.j.value c J C room2 k K ∙ rw (own_j d, ceiling_j, turn_i k (omega (arith, C)))

    pub fixed_beyond : (k : ℕ) → c ≤ k → k < p.n → gradient_fixed p new k ≡ turn_of p b mode s i q.i.value k (gradient_fixed p s k)
    unfolding updated carried
    fixed_beyond k l K =
        settled_other p b mode s2 j q.j.value c (p.n + k) (λ h g e. omega arith) (λ e. omega arith) (λ e. omega arith) ∙ turn_i k K
