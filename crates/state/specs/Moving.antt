-- Two positions exchange all that travels (the rule, section 'Moving').
use Rattle.std.specs.Prelude.{ℕ, zero, suc, ◌+◌, ◌*◌, List, get_or, set}
use Rattle.std.specs.Float.{nan}
use Rattle.state.specs.Lists.{State}

-- places i and j of a list exchange what they hold; d is what a place past the end is read as
unfoldable pub swapped : {A : Type 0} → A → List A → ℕ → ℕ → List A
swapped d xs i j = set (set xs i (get_or xs j d)) j (get_or xs i d)

-- in each of the first fields, places i and j
unfoldable pub swapped_fields : {A : Type 0} → A → ℕ → List A → ℕ → ℕ → ℕ → List A
swapped_fields d n xs i j zero = xs
swapped_fields d n xs i j (suc f) = swapped d (swapped_fields d n xs i j f) (f * n + i) (f * n + j)

-- five fields of floats, two of numbers, one of labels
unfoldable pub moved : ℕ → State → ℕ → ℕ → State
moved n s i j =
    record { floats = swapped_fields nan n s.floats i j 5; numbers = swapped_fields 0 n s.numbers i j 2; labels = swapped 0 s.labels i j }
