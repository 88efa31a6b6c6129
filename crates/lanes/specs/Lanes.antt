-- The least of a list by eight lanes: the least of each sixteen first, then the place in the sixteen that has it. Only faster than `best`, and proved to
-- lead to it (proofs/Place.antt).
use Rattle.std.specs.Prelude.{ℕ, zero, suc, ◌+◌, ◌-◌, ◌*◌, ◌/◌, Bool, true, false, cond, List, leb, Float, get_or}
use Rattle.std.specs.Float.{nan, inf}
use Rattle.std.specs.Float.Ieee.{lt, eq}
use Rattle.extreme.specs.Best.{at_most, best}
use Rattle.extreme.specs.Racing.{racing, below, place_in}
use Rattle.extreme.specs.declared.Extreme.{Extreme}
use Rattle.extreme.specs.declared.Race.{Race}

-- x where it is below m: of NaNs only m's counts
unfoldable pub lower_of : Float → Float → Float
lower_of x m = cond (lt x m) x m

-- lane k of the sixteen from t on
abbrev pub lane : List Float → ℕ → ℕ → Float
lane f t k = lower_of (get_or f (t + 8 + k) nan) (lower_of (get_or f (t + k) nan) (inf false))

-- of eight
abbrev pub least_of : (ℕ → Float) → Float
least_of z = lower_of (lower_of (lower_of (z 0) (z 4)) (lower_of (z 2) (z 6))) (lower_of (lower_of (z 1) (z 5)) (lower_of (z 3) (z 7)))

-- of the sixteen from t on
unfoldable pub least_from : List Float → ℕ → Float
least_from f t = least_of (lane f t)

-- of the m from t on
unfoldable pub least_to : List Float → ℕ → ℕ → Float
least_to f t zero = inf false
least_to f t (suc m) = lower_of (get_or f (t + m) nan) (least_to f t m)

-- of sixteen j of the n places from o on, or of what is left over behind the last
abbrev pub least_in : List Float → ℕ → ℕ → ℕ → Float
least_in f o n j = cond (leb (16 * j + 16) n) (least_from f (o + 16 * j)) (least_to f (o + 16 * j) (n - 16 * j))

-- the best of the first of them
abbrev pub least_by : Bool → List Float → ℕ → ℕ → ℕ → Extreme
least_by nu f o n = best (cond nu below at_most) (inf false) (λ j. true) (least_in f o n)

-- its value, and where it begins; 0 stands for nobody
abbrev pub begins : Extreme → Race
begins e = racing e.value (16 * place_in 0 e.holder)

abbrev pub sixteen_of : Bool → List Float → ℕ → ℕ → Race
sixteen_of nu f o n = begins (least_by nu f o n (suc (n / 16)))

-- where the sixteen from h on end, of n
abbrev pub end_of : ℕ → ℕ → ℕ
end_of h n = cond (leb (h + 16) n) (h + 16) n

-- the last of the m from t on that equals v, and t where none does
unfoldable pub last_in : List Float → Float → ℕ → ℕ → ℕ
last_in f v t zero = t
last_in f v t (suc m) = cond (eq (get_or f (t + m) nan) v) (t + m) (last_in f v t m)

-- the first, and d where none does
unfoldable pub first_in : List Float → Float → ℕ → ℕ → ℕ → ℕ
first_in f v d t zero = d
first_in f v d t (suc m) = cond (eq (get_or f t nan) v) t (first_in f v d (suc t) m)

abbrev pub seat_in : Bool → List Float → Float → ℕ → ℕ → ℕ
seat_in nu f v t m = cond nu (first_in f v t t m) (last_in f v t m)
