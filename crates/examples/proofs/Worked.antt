-- The worked examples M1 to M13, as one statement over one table. Assumes nothing.
use mathlib.Core.List.{map}
use mathlib.Core.Path.{◌≡◌, refl}
use Rattle.examples.specs.Examples.{computed, table}
use Rattle.readings.specs.Order.{gathered, scattered}
use Rattle.shrink.specs.Walk.{walked, visited, dropped, exchanged, count_fallen}
use Rattle.state.specs.Moving.{swapped, swapped_fields, moved}

pub worked : map computed table ≡ table
unfolding gathered scattered walked visited dropped exchanged count_fallen swapped swapped_fields moved
worked = refl
