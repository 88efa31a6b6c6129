-- What right sizes give to an entry without an order table. Assumes nothing.
use Prim.Native.Nat.{ℕ, ◌*◌}
use mathlib.Core.Bool.{Bool, true, ◌&&◌}
use mathlib.Core.Path.{◌≡◌}
use borrow.Author.Tests.{ltb-true, leb-true, eqb-true}
use lib.Dec.{ltb, leb, eqb}
use Rattle.judge.proofs.Lengths.{fine}
use Rattle.judge.specs.Sizes.{count_good}
use Rattle.rounding.proofs.Order.{both}
use Rattle.still.specs.Entries.{still_room_good, still_sizes_by, StillRoom}
use Rattle.std.specs.Prelude.{Ok}

module _ (n : ℕ) (inputs : Bool) (m r f y : ℕ) (h : still_sizes_by n inputs m r f y ≡ Ok tt) where
  answers : (count_good n ≡ true) × ((inputs && still_room_good n m r f y) ≡ true)
  unfolding still_sizes_by
  answers = fine (count_good n) (inputs && still_room_good n m r f y) h

  pub inputs_still : inputs ≡ true
  inputs_still = (both inputs (still_room_good n m r f y) answers.1).0

  pub room_still : StillRoom n m r f y
  room_still =
      let s = both (ltb 0 n) (leb n 512) answers.0 in
      let q = (both inputs (still_room_good n m r f y) answers.1).1 in
      let q3 = both (eqb m (8 * (n * n)) && leb n r && leb (5 * n) f) (leb n y) q in
      let q2 = both (eqb m (8 * (n * n)) && leb n r) (leb (5 * n) f) q3.0 in
      let q1 = both (eqb m (8 * (n * n))) (leb n r) q2.0 in
      record {
        some = ltb-true 0 n s.0;
        most = leb-true n 512 s.1;
        matrix = eqb-true m (8 * (n * n)) q1.0;
        result = leb-true n r q1.1;
        floats = leb-true (5 * n) f q2.1;
        bytes = leb-true n y q3.1;
      }
