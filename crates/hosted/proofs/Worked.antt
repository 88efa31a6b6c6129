-- The edges of a tuning's length, computed, and what its words are. Assumes nothing.
use Prim.Native.Nat.{ℕ}
use mathlib.Core.Bool.{true, false, cond}
use mathlib.Core.List.{List}
use mathlib.Core.Path.{◌≡◌, refl}
use lib.ListN.{length, replicate}
use Rattle.modes.specs.declared.Mode.TheVariants.{Crate, Travelling}
use Rattle.tuning.specs.Tuning.{plain_tuning}
use Rattle.wire.specs.Wire.{digits, float_at}
use Rattle.hosted.specs.Hosted.{is_on, tuning_known, floor_known, floor_of, word_on, mode_of, tuning_of}

pub tuning_lengths : (tuning_known (replicate 0 0) ≡ true) × (tuning_known (replicate 1 0) ≡ false) × (tuning_known (replicate 7 0) ≡ false) × (tuning_known (replicate 8 0) ≡ true)
    × (tuning_known (replicate 9 0) ≡ false) × (tuning_known (replicate 15 0) ≡ false) × (tuning_known (replicate 16 0) ≡ true) × (tuning_known (replicate 17 0) ≡ false)
    × (tuning_known (replicate 24 0) ≡ false)
tuning_lengths = (refl, refl, refl, refl, refl, refl, refl, refl, refl)

-- where samples may be retired
pub floor_lengths : (floor_known (replicate 0 0) ≡ true) × (floor_known (replicate 1 0) ≡ false) × (floor_known (replicate 8 0) ≡ true) × (floor_known (replicate 9 0) ≡ false)
    × (floor_known (replicate 16 0) ≡ false)
floor_lengths = (refl, refl, refl, refl, refl)

-- one word is the floor alone
pub tuning_told : (t : List ℕ) → length t ≡ 8 → ((tuning_of t).floor ≡ float_at t 0) × ((tuning_of t).mode ≡ Crate)
unfolding floor_of mode_of word_on
tuning_told t h = (rw h, rw h)

-- with the second, ceilings travel where it isn't 0
pub tuning_both : (t : List ℕ) → length t ≡ 16 → ((tuning_of t).floor ≡ float_at t 0) × ((tuning_of t).mode ≡ cond (is_on (digits t 8 8)) Travelling Crate)
unfolding floor_of mode_of word_on
tuning_both t h = (rw h, rw h)

pub tuning_none : (t : List ℕ) → length t ≡ 0 → tuning_of t ≡ plain_tuning
unfolding floor_of mode_of word_on
tuning_none t h = rw h
