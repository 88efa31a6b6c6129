-- What a C function hands out where it answers 0.
use Rattle.std.specs.Prelude.{ℕ, ◌*◌, ◌<◌, false, List, ◌≡◌}
use Rattle.std.specs.Float.{binary64}
use Rattle.std.specs.Float.Ieee.{to_bits}
use Rattle.hosted.specs.Hosted.{floats_of, room, Handed}
use Rattle.promises.specs.Fit.{Fit, own_weight}
use Rattle.promises.specs.Retired.{own_over}
use Rattle.retired.specs.Differ.{Input}
use Rattle.retired.specs.Entry.{stands_in}
use Rattle.wire.specs.Wire.{digits}

-- of the fit k over the matrix m
pub record Gives (k : Fit) (m : List ℕ) (budget : ℕ) (o : Handed) : Type 0 where
  -- the eight bytes of home at place s: sample s's start weight, or what the last step that chose it left, as the entry answers it
  pub home : (s : ℕ) → s < k.given.n → digits o.home (8 * s) 8 ≡ to_bits binary64 (own_weight k m room budget s)
  -- with shrinking off the crate's reading is the same
  pub alike : k.given.shrinking ≡ false → (s : ℕ) → s < k.given.n → digits o.crate (8 * s) 8 ≡ digits o.home (8 * s) 8

-- the lists of `altuliscia_retired` as they are read from their bytes: matrix, labels, ceilings, start alphas, linear terms
abbrev pub decoded : ℕ → (m l c a p : List ℕ) → Input
decoded n m l c a p = record { matrix = m; labels = l; ceilings = floats_of c n; weights = floats_of a n; terms = floats_of p n }

-- .. with the retired bytes r
pub record GivesOver (r : List ℕ) (k : Fit) (m : List ℕ) (budget : ℕ) (o : Handed) : Type 0 where
  -- home at place s: sample s's start weight, or what the last step that chose it left
  pub home : (s : ℕ) → s < k.given.n → digits o.home (8 * s) 8 ≡ to_bits binary64 (own_over (stands_in r) k m room budget s)
  -- eight zero bytes for one that is retired
  pub reads : (s : ℕ) → s < k.given.n → stands_in r s ≡ false → digits o.home (8 * s) 8 ≡ 0
  -- the crate's reading is the same
  pub alike : (s : ℕ) → s < k.given.n → digits o.crate (8 * s) 8 ≡ digits o.home (8 * s) 8
