-- Which of the two result lists is shown (the rule, section 'What a caller lends and gets').
use Rattle.std.specs.Prelude.{ℕ, List, take, Float}
use Rattle.readings.specs.declared.Reading.{Reading}
use Rattle.readings.specs.declared.Reading.TheVariants.{Crate, Home}

abbrev pub picked : Reading → List Float → List Float → List Float
picked Crate crate home = crate
picked Home crate home = home

-- the first n places of the list that is picked, and all of it where it is shorter
abbrev pub shown_of : Reading → ℕ → List Float → List Float → List Float
shown_of which n crate home = take n (picked which crate home)
