-- The lent scratch as a run begins (the rule, section 'What a caller lends and gets').
use Rattle.std.specs.Prelude.{ℕ, zero, suc, ◌+◌, ◌*◌, List, Float, get_or, set}
use Rattle.std.specs.Float.{nan}
use Rattle.state.specs.Lists.{State, state}

-- weight, ceiling and linear term of each sample at its own place
unfoldable pub loaded_floats : ℕ → List Float → List Float → List Float → List Float → ℕ → List Float
loaded_floats n c a p f zero = f
loaded_floats n c a p f (suc k) =
    set (set (set (loaded_floats n c a p f k) (2 * n + k) (get_or a k nan)) (3 * n + k) (get_or c k nan)) (4 * n + k) (get_or p k nan)

-- order and kernel index: each sample stands at its own place
unfoldable pub loaded_numbers : ℕ → List ℕ → ℕ → List ℕ
loaded_numbers n u zero = u
loaded_numbers n u (suc k) = set (set (loaded_numbers n u k) k k) (n + k) k

unfoldable pub loaded_labels : List ℕ → List ℕ → ℕ → List ℕ
loaded_labels l y zero = y
loaded_labels l y (suc k) = set (loaded_labels l y k) k (get_or l k 0)

-- l are the labels, c the ceilings, a the start weights, p the linear terms
abbrev pub loaded : ℕ → List ℕ → List Float → List Float → List Float → State → State
loaded n l c a p s = state (loaded_floats n c a p s.floats n) (loaded_numbers n s.numbers n) (loaded_labels l s.labels n)
