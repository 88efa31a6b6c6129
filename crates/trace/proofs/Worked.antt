-- A run that is computed: four samples of one label over the identity matrix, with shrinking. Assumes nothing.
use Prim.Native.Nat.{ℕ}
use mathlib.Core.Bool.{true, false}
use mathlib.Core.List.{List, [], ◌∷◌}
use mathlib.Core.Path.{◌≡◌, refl}
use lib.IntN.{pos, negsuc}
use lib.Ieee.{Float, fin}
use lib.Ieee as Ieee
use Rattle.alpha.specs.Weight.{floor}
use Rattle.choose_c.specs.Choice.{extremes_c, choice_c}
use Rattle.extreme.specs.Best.{best}
use Rattle.kernel.specs.Curvature.{curved}
use Rattle.kernel.specs.Row.{row_at}
use Rattle.kernel.specs.declared.Kind.TheVariants.{TwoClass}
use Rattle.modes.specs.Modes.{travels, repaired}
use Rattle.modes.specs.declared.Mode.TheVariants.{Crate}
use Rattle.partner.specs.Curvature as Curvature
use Rattle.partner.specs.Second.{second, choice}
use Rattle.reconstruct.specs.Reconstruct.{fresh_to, counted, free_to, brought, gets, weighted_to, outer_by, outer_to, inner_by, inner_to, branched, reconstructed}
use Rattle.rows.specs.Added.{row_added}
use Rattle.shrink.specs.Drops.{drops_by, drops_at}
use Rattle.shrink.specs.Walk.{count_fallen, exchanged, dropped, visited, walked}
use Rattle.solver.specs.Pass as Pass
use Rattle.solver.specs.Pass.{chosen, rebuilt, refreshed, tops_of, restored, walked_from, shrunk, counted_down, looked, worked_by, onward, passed, next, runs}
use Rattle.solver.specs.Run.{goes, period}
use Rattle.solver.specs.declared.Given.{Given}
use Rattle.start.specs.Start.{laid_to, diagonal_to, joined_by, gathered_to, started}
use Rattle.state.specs.Lists.{State, state}
use Rattle.state.specs.Moving.{swapped, swapped_fields, moved}
use Rattle.update.specs.Pair as Pair
use Rattle.update.specs.Pair.{floored, step_of, i_capped, j_capped, i_raised, j_raised, differ_low, differ_high, differed, agree_first, agree_second, agreed, pair_of}
use Rattle.update.specs.Update.{ceiling_in, counted_upper, j_reach, pair_at, shifted_to, stored, turned_by, settled, carried, updated}
use Rattle.wire.specs.Wire.{digits}
use Rattle.trace.specs.Trace.{Step, look_by, pair_on, pair_from, steps_of, added, traced, start_of}

abbrev pub given : Given
given = record { n = 4; side = 4; kind = TwoClass; mode = Crate; floor = floor; eps = fin false 0 (pos 0); shrinking = true; nu = false }

-- the bytes of 1 and of 0, before the list
abbrev unit : List ℕ → List ℕ
unit r = 0 ∷ 0 ∷ 0 ∷ 0 ∷ 0 ∷ 0 ∷ 0xf0 ∷ 0x3f ∷ r

abbrev none : List ℕ → List ℕ
none r = 0 ∷ 0 ∷ 0 ∷ 0 ∷ 0 ∷ 0 ∷ 0 ∷ 0 ∷ r

abbrev pub matrix : List ℕ
matrix =
    unit (none (none (none (none (unit (none (none (none (none (unit (none (none (none (none (unit [])))))))))))))))

abbrev o : Float
o = fin false 0 (pos 0)

abbrev fifty : Float
fifty = fin false 25 (pos 1)

abbrev hundred : Float
hundred = fin false 25 (pos 2)

abbrev pub ceilings : List Float
ceilings = hundred ∷ hundred ∷ hundred ∷ hundred ∷ []

-- weights 100 50 50 50, linear terms −1000 0 1 3
abbrev pub lent : State
lent =
    state
    (o ∷ o ∷ o ∷ o ∷ o ∷ o ∷ o ∷ o ∷ hundred ∷ fifty ∷ fifty ∷ fifty ∷ hundred ∷ hundred ∷ hundred ∷ hundred ∷
    fin true 125 (pos 3) ∷ o ∷ fin false 1 (pos 0) ∷ fin false 3 (pos 0) ∷ o ∷ o ∷ o ∷ o ∷ o ∷ o ∷ o ∷ o ∷ [])
    (0 ∷ 1 ∷ 2 ∷ 3 ∷ 0 ∷ 1 ∷ 2 ∷ 3 ∷ [])
    (1 ∷ 1 ∷ 1 ∷ 1 ∷ [])

-- the fifth pass shrinks: sample 0 is dropped, sample 3 comes to position 0, and two positions are active
abbrev pub steps : List Step
steps =
    record { i = 1; j = 3; sample_i = 1; sample_j = 3; left_i = fin false 103 (negsuc 0); left_j = fin false 97 (negsuc 0) } ∷
    record { i = 2; j = 3; sample_i = 2; sample_j = 3; left_i = fin false 201 (negsuc 1); left_j = fin false 193 (negsuc 1) } ∷
    record { i = 3; j = 1; sample_i = 3; sample_j = 1; left_i = fin false 387 (negsuc 2); left_j = fin false 411 (negsuc 2) } ∷
    record { i = 2; j = 3; sample_i = 2; sample_j = 3; left_i = fin false 805 (negsuc 3); left_j = fin false 773 (negsuc 3) } ∷
    record { i = 0; j = 1; sample_i = 3; sample_j = 1; left_i = fin false 1547 (negsuc 4); left_j = fin false 1643 (negsuc 4) } ∷
    []

-- the sixth pass finds no pair at either look
pub worked : traced given matrix ceilings (start_of given matrix ceilings lent) 7 ≡ steps
unfolding traced added steps_of pair_from pair_on look_by runs next passed onward worked_by looked Pass.stepped counted_down shrunk walked_from restored tops_of walked visited dropped exchanged count_fallen moved swapped_fields swapped drops_at drops_by rebuilt refreshed chosen goes period choice_c extremes_c choice second best Curvature.curvature row_at digits row_added started gathered_to joined_by diagonal_to laid_to reconstructed branched inner_to inner_by outer_to outer_by weighted_to brought gets free_to counted fresh_to updated carried settled turned_by stored shifted_to ceiling_in counted_upper j_reach travels repaired pair_at pair_of Pair.clipped_step agreed agree_second agree_first differed differ_high differ_low j_raised i_raised j_capped i_capped step_of floored curved Ieee.lt Ieee.le Ieee.eq Ieee.neg Ieee.add Ieee.sub Ieee.mul Ieee.div Ieee.of_bits
worked = refl
