-- What right sizes give. Assumes nothing.
use Prim.Native.Nat.{ℕ, ◌*◌, ◌≤◌}
use mathlib.Core.Bool.{Bool, true, false, ◌&&◌, cond}
use mathlib.Core.Path.{◌≡◌, refl, sym}
use native.Mathlib.Nat.{mul-le-mul, le_of_eq}
use borrow.Author.Tests.{ltb-true, leb-true, eqb-true}
use lib.Dec.{ltb, leb, eqb}
use Rattle.std.specs.Prelude.{⊤, Result, Ok, Err}
use Rattle.judge.specs.declared.Refusal.{Refusal}
use Rattle.judge.specs.declared.Refusal.TheVariants.{Samples, Length}
use Rattle.judge.specs.Sizes.{count_good, room_good, sizes, Room}
use Rattle.rounding.proofs.Order.{both}

pub square : {n : ℕ} → n ≤ 512 → n * n ≤ 262144
square h = mul-le-mul h h

-- a list of n places, where n are asked for
pub long_enough : (n l : ℕ) → eqb l n ≡ true → n ≤ l
long_enough n l h = le_of_eq (sym (eqb-true l n h))

-- of two tests, each with its refusal
pub fine : (a b : Bool) → ◌≡◌ {A = Result ⊤ Refusal} (cond a (cond b (Ok tt) (Err Length)) (Err Samples)) (Ok tt) → (a ≡ true) × (b ≡ true)
fine true true h = (refl, refl)
fine true false h = let z : ⊥ = cc in absurd z
fine false b h = let z : ⊥ = cc in absurd z

module _ (n : ℕ) (inputs : Bool) (m rc rh f u y : ℕ) (h : sizes n inputs m rc rh f u y ≡ Ok tt) where
  answers : (count_good n ≡ true) × ((inputs && room_good n m rc rh f u y) ≡ true)
  unfolding sizes
  answers = fine (count_good n) (inputs && room_good n m rc rh f u y) h

  pub inputs_of : inputs ≡ true
  inputs_of = (both inputs (room_good n m rc rh f u y) answers.1).0

  pub room_of : Room n m rc rh f u y
  room_of =
      let s = both (ltb 0 n) (leb n 512) answers.0 in
      let r = (both inputs (room_good n m rc rh f u y) answers.1).1 in
      let r5 = both (eqb m (8 * (n * n)) && leb n rc && leb n rh && leb (7 * n) f && leb (2 * n) u) (leb n y) r in
      let r4 = both (eqb m (8 * (n * n)) && leb n rc && leb n rh && leb (7 * n) f) (leb (2 * n) u) r5.0 in
      let r3 = both (eqb m (8 * (n * n)) && leb n rc && leb n rh) (leb (7 * n) f) r4.0 in
      let r2 = both (eqb m (8 * (n * n)) && leb n rc) (leb n rh) r3.0 in
      let r1 = both (eqb m (8 * (n * n))) (leb n rc) r2.0 in
      record {
        some = ltb-true 0 n s.0;
        most = leb-true n 512 s.1;
        matrix = eqb-true m (8 * (n * n)) r1.0;
        crate = leb-true n rc r1.1;
        home = leb-true n rh r2.1;
        floats = leb-true (7 * n) f r3.1;
        numbers = leb-true (2 * n) u r4.1;
        bytes = leb-true n y r5.1;
      }
