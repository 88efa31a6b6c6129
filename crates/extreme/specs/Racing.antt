-- A running extreme without its holder's word for it: a faster form of `best`, proved to lead to it (proofs/Racing.antt).
use Rattle.std.specs.Prelude.{ℕ, Bool, cond, ltb, Float, Option, Some, None}
use Rattle.std.specs.Float.Ieee.{lt}
use Rattle.extreme.specs.declared.Extreme.{Extreme}
use Rattle.extreme.specs.declared.Race.{Race}

abbrev pub racing : Float → ℕ → Race
racing v k = record { value = v; at = k }

-- least, and strictly:
abbrev pub below : Float → Float → Bool
below b v = lt v b

-- candidate k raced: the place goes to what takes it, the value changes only where it is strictly better
unfoldable pub raced : (Float → Float → Bool) → (Float → Float → Bool) → ℕ → Float → Race → Race
raced strict takes k v r = racing (cond (strict r.value v) v r.value) (cond (takes r.value v) k r.at)

-- the holder, where a place of a or above stands for nobody
abbrev pub found_in : ℕ → ℕ → Option ℕ
found_in a i = cond (ltb i a) (Some i) None

-- the other way round: an extreme of candidates below a, as a race
abbrev pub place_in : ℕ → Option ℕ → ℕ
place_in a (Some i) = i
place_in a None = a

abbrev pub race_of : ℕ → Extreme → Race
race_of a e = racing e.value (place_in a e.holder)
