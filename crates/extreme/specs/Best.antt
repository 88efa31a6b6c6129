-- The best of the first candidates, and who holds it.
use Rattle.std.specs.Prelude.{ℕ, zero, suc, ◌<◌, Bool, ◌&&◌, cond, ◌≡◌, Float, Option, Some, None}
use Rattle.std.specs.Float.Ieee.{lt, le}
use Rattle.extreme.specs.declared.Extreme.{Extreme}

abbrev pub nobody : Float → Extreme
nobody start = record { value = start; holder = None }

abbrev pub held : Float → ℕ → Extreme
held v k = record { value = v; holder = Some k }

-- whether v takes the place of b. Greatest, the last of equals:
abbrev pub at_least : Float → Float → Bool
at_least b v = le b v

-- greatest, the first of equals:
abbrev pub above : Float → Float → Bool
above b v = lt b v

-- least, the last of equals:
abbrev pub at_most : Float → Float → Bool
at_most b v = le v b

-- candidate k weighed: it may take the place, and its value does
abbrev pub weighed : (Float → Float → Bool) → Bool → ℕ → Float → Extreme → Extreme
weighed takes may k v b = cond (may && takes b.value v) (held v k) b

-- the first candidates weighed in order
unfoldable pub best : (Float → Float → Bool) → Float → (ℕ → Bool) → (ℕ → Float) → ℕ → Extreme
best takes start may value zero = nobody start
best takes start may value (suc k) = weighed takes (may k) k (value k) (best takes start may value k)

-- a holder is below m
abbrev pub Below : ℕ → Option ℕ → Type 0
Below m h = (i : ℕ) → h ≡ Some i → i < m
