-- Edges of a vote, and of who wins, by their numbers. Assumes nothing.
use Prim.Native.Nat.{ℕ}
use mathlib.Core.List.{List, [], ◌∷◌}
use mathlib.Core.Path.{◌≡◌, refl}
use lib.Ieee as Ieee
use lib.Ieee.{Float, nan, inf, binary64, of_bits}
use mathlib.Core.Bool.{false}
use lib.ListN.{get_or}
use Rattle.votes.specs.Votes.{pairs_of, sides, sides_after, sides_of, chosen_by, winner_to}

abbrev at : ℕ → Float
at = of_bits binary64

-- whom the pair of languages 4 and 7 votes for: 4 where the sum equals rho, and where it is −0 over +0; 7 where it is just below rho, where either is NaN, and where
-- both are infinite
pub vote_edges : (chosen_by (sides 4 7) (at 0x3ff0_0000_0000_0000) (at 0x3ff0_0000_0000_0000) ≡ 4)
    × (chosen_by (sides 4 7) (at 0x8000_0000_0000_0000) (at 0) ≡ 4)
    × (chosen_by (sides 4 7) (at 0x3fef_ffff_ffff_ffff) (at 0x3ff0_0000_0000_0000) ≡ 7)
    × (chosen_by (sides 4 7) nan (at 0) ≡ 7)
    × (chosen_by (sides 4 7) (at 0) nan ≡ 7)
    × (chosen_by (sides 4 7) (inf false) (inf false) ≡ 7)
unfolding chosen_by Ieee.le Ieee.lt Ieee.eq Ieee.sub Ieee.add Ieee.neg Ieee.of_bits
vote_edges = (refl, refl, refl, refl, refl, refl)

-- the pairs of four languages, in their order
pub four_languages : (pairs_of 4 ≡ 6)
    × (sides_of 4 0 ≡ sides 0 1)
    × (sides_of 4 1 ≡ sides 0 2)
    × (sides_of 4 2 ≡ sides 0 3)
    × (sides_of 4 3 ≡ sides 1 2)
    × (sides_of 4 4 ≡ sides 1 3)
    × (sides_of 4 5 ≡ sides 2 3)
unfolding sides_of sides_after
four_languages = (refl, refl, refl, refl, refl, refl, refl)

abbrev votes_in : List ℕ → ℕ → ℕ
votes_in v x = get_or v x 0

-- three with one vote each: the first; 0, 3, 1 and 2; 1, 2, 2 and 1: the first of the two with 2
pub winner_edges : (winner_to (votes_in (1 ∷ 1 ∷ 1 ∷ [])) 3 ≡ 0) × (winner_to (votes_in (0 ∷ 3 ∷ 1 ∷ 2 ∷ [])) 4 ≡ 1) × (winner_to (votes_in (1 ∷ 2 ∷ 2 ∷ 1 ∷ [])) 4 ≡ 1)
unfolding winner_to
winner_edges = (refl, refl, refl)
