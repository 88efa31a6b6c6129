-- The worked examples M1 to M13 as one table, and each played by the definitions that the contracts cite.
use Rattle.std.specs.Prelude.{ℕ, zero, suc, Bool, true, false, List, [], ◌∷◌, Float, length, get_or, take, replicate}
use Rattle.std.specs.Float.{nan, binary64}
use Rattle.std.specs.Float.Ieee.{of_bits}
use Rattle.readings.specs.Order.{crate_reading, home_reading}
use Rattle.shrink.specs.Walk.{Walking, walked}
use Rattle.state.specs.Fields.{sample}
use Rattle.state.specs.Lists.{State, state}
use Rattle.state.specs.Moving.{moved}

-- two positions that are exchanged
pub record Move : Type 0 where
  pub i : ℕ
  pub j : ℕ

pub data Row : Type 0 where
  -- an order of three, and the two readings of the weights 10, 20, 30
  reads : (order : List ℕ) (crate home : List Float) → Row
  -- moves from the order 0 1 2, and the order after them
  moves : (made : List Move) (order : List ℕ) → Row
  -- what is dropped, by sample; then the order after the walk, the active count, and whether refusal 11 is given
  walks : (pattern : List Bool) (order : List ℕ) (active : ℕ) (refused : Bool) → Row

abbrev pub w10 : Float
w10 = of_bits binary64 0x4024_0000_0000_0000

abbrev pub w20 : Float
w20 = of_bits binary64 0x4034_0000_0000_0000

abbrev pub w30 : Float
w30 = of_bits binary64 0x403e_0000_0000_0000

-- K is kept, S is dropped
abbrev pub K : Bool
K = false

abbrev pub S : Bool
S = true

abbrev pub move : ℕ → ℕ → Move
move i j = record { i = i; j = j }

-- ---- each example played

abbrev pub weight_at : ℕ → Float
weight_at k = get_or (w10 ∷ w20 ∷ w30 ∷ []) k nan

-- 0, 1, .. before the list
abbrev pub up_to : ℕ → List ℕ → List ℕ
up_to zero l = l
up_to (suc n) l = up_to n (n ∷ l)

-- n positions in the order 0, 1, ..
abbrev pub fresh : ℕ → State
fresh n = state [] (up_to n (up_to n [])) (replicate n 1)

abbrev pub moved_by : ℕ → List Move → State → State
moved_by n [] s = s
moved_by n (m ∷ ms) s = moved_by n ms (moved n s m.i m.j)

abbrev pub walk_of : List Bool → Walking State
walk_of p = walked false (λ s k. get_or p (sample s k) K) (moved (length p)) (length p) (fresh (length p)) (length p)

abbrev pub order_of : ℕ → State → List ℕ
order_of n s = take n s.numbers

-- the row with its results computed
abbrev pub computed : Row → Row
computed (reads o c h) = reads o (crate_reading 3 o weight_at (replicate 3 nan)) (home_reading 3 o weight_at (replicate 3 nan))
computed (moves ms o) = moves ms (order_of 3 (moved_by 3 ms (fresh 3)))
computed (walks p o a r) = let w = walk_of p in walks p (order_of (length p) w.state) w.active w.refused

-- ---- the table

abbrev pub table : List Row
table =
    -- M1
    reads (0 ∷ 1 ∷ 2 ∷ []) (w10 ∷ w20 ∷ w30 ∷ []) (w10 ∷ w20 ∷ w30 ∷ []) ∷
    -- M2
    reads (1 ∷ 0 ∷ 2 ∷ []) (w20 ∷ w10 ∷ w30 ∷ []) (w20 ∷ w10 ∷ w30 ∷ []) ∷
    -- M3
    reads (1 ∷ 2 ∷ 0 ∷ []) (w20 ∷ w30 ∷ w10 ∷ []) (w30 ∷ w10 ∷ w20 ∷ []) ∷
    -- M4
    reads (2 ∷ 0 ∷ 1 ∷ []) (w30 ∷ w10 ∷ w20 ∷ []) (w20 ∷ w30 ∷ w10 ∷ []) ∷
    -- M5
    moves (move 0 1 ∷ move 1 2 ∷ []) (1 ∷ 2 ∷ 0 ∷ []) ∷
    -- M6
    moves (move 1 1 ∷ []) (0 ∷ 1 ∷ 2 ∷ []) ∷
    -- M7
    moves (move 0 1 ∷ move 0 1 ∷ []) (0 ∷ 1 ∷ 2 ∷ []) ∷
    -- M8
    walks (K ∷ K ∷ []) (0 ∷ 1 ∷ []) 2 false ∷
    -- M9
    walks (S ∷ []) (0 ∷ []) 0 false ∷
    -- M10
    walks (S ∷ K ∷ []) (1 ∷ 0 ∷ []) 0 false ∷
    -- M11
    walks (K ∷ S ∷ S ∷ []) (0 ∷ 1 ∷ 2 ∷ []) 0 false ∷
    -- M12
    walks (K ∷ K ∷ K ∷ S ∷ S ∷ S ∷ S ∷ []) (0 ∷ 1 ∷ 2 ∷ 3 ∷ 4 ∷ 5 ∷ 6 ∷ []) 0 false ∷
    -- M13
    walks (K ∷ K ∷ K ∷ S ∷ S ∷ S ∷ S ∷ S ∷ []) (0 ∷ 1 ∷ 2 ∷ 3 ∷ 4 ∷ 5 ∷ 6 ∷ 7 ∷ []) 0 true ∷
    []
