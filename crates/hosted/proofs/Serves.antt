-- What right sizes in bytes give. Assumes nothing.
use Prim.Native.Nat.{ℕ, ◌*◌, ◌/◌, ◌%◌, ◌≤◌}
use mathlib.Core.Bool.{Bool, true, ◌&&◌}
use mathlib.Core.List.{List}
use mathlib.Core.Path.{◌≡◌}
use native.Mathlib.Nat.{div-add-mod'}
use native.Mathlib.Omega.{arith}
use borrow.Author.Tests.{leb-true, eqb-true}
use lib.Dec.{eqb, leb}
use lib.Ieee.{Float}
use lib.ListN.{length, length-replicate}
use Rattle.alpha.specs.Weight as Weight
use Rattle.answer.specs.Lent.{lent}
use Rattle.judge.specs.Sizes.{Room}
use Rattle.judge.proofs.Lengths.{inputs_of, room_of, long_enough}
use Rattle.hosted.specs.Hosted.{decoded_to, padded, floats_of, eights, host_sizes, Handed, handed, widened, fresh_places, fresh_floats, fresh_numbers, fresh_bytes, room}
use Rattle.rounding.proofs.Order.{both}
use Rattle.std.specs.Prelude.{Ok}

pub record Serves (n m cr h an : ℕ) : Type 0 where
  pub room : Room n m 512 512 3584 1024 512
  pub crate : 8 * n ≤ cr
  pub home : 8 * n ≤ h
  pub answer : 72 ≤ an

under : (n k : ℕ) → n ≤ k / 8 → 8 * n ≤ k
under n k h = omega (arith, div-add-mod' k 8)

module _ (n : ℕ) (inputs : Bool) (m cr h an : ℕ) (e : host_sizes n inputs m cr h an ≡ Ok tt) where
  both_told : (inputs ≡ true) × (leb 72 an ≡ true)
  unfolding host_sizes
  both_told = both inputs (leb 72 an) (inputs_of n (inputs && leb 72 an) m (cr / 8) (h / 8) 3584 1024 512 e)

  pub inputs_right : inputs ≡ true
  inputs_right = both_told.0

  pub serves : Serves n m cr h an
  unfolding host_sizes
  serves =
      let r = room_of n (inputs && leb 72 an) m (cr / 8) (h / 8) 3584 1024 512 e in
      record {
        room = record { some = r.some; most = r.most; matrix = r.matrix; crate = r.most; home = r.most; floats = r.floats; numbers = r.numbers; bytes = r.bytes };
        crate = under n cr r.crate;
        home = under n h r.home;
        answer = leb-true 72 an both_told.1;
      }

-- with an answer of 128 bytes
pub wide_right : (n : ℕ) (inputs known : Bool) (m cr h an : ℕ) → host_sizes n (inputs && known && leb 128 an) m cr h an ≡ Ok tt → (inputs ≡ true) × (128 ≤ an)
wide_right n inputs known m cr h an e =
    let p = both (inputs && known) (leb 128 an) (inputs_right n (inputs && known && leb 128 an) m cr h an e) in
    ((both inputs known p.0).0, leb-true 128 an p.1)

pub widened_by : (k : ℕ) (cr h an out : List ℕ) (w : Handed) → handed k cr h an ≡ w → out ≡ padded an → handed k cr h out ≡ widened w
widened_by k cr h an out w e q = rw (q, ← e)

floats_long : (n k : ℕ) → eights n k ≡ true → 8 * n ≤ k
floats_long n k h =
    let e = eqb-true (k / 8) n (both (eqb (k / 8) n) (eqb (k % 8) 0) h).0 in
    omega (arith, div-add-mod' k 8)

-- labels, and three lists of floats
pub lists_long : (n l c a p : ℕ) (x y z : Bool) → x ≡ eights n c → y ≡ eights n a → z ≡ eights n p → (eqb l n && x && y && z) ≡ true
    → (n ≤ l) × (8 * n ≤ c) × (8 * n ≤ a) × (8 * n ≤ p)
lists_long n l c a p x y z ex ey ez h =
    let h3 = both (eqb l n && x && y) z h in
    let h2 = both (eqb l n && x) y h3.0 in
    let h1 = both (eqb l n) x h2.0 in
    (long_enough n l h1.0, floats_long n c (rw ex at h1.1), floats_long n a (rw ey at h2.1), floats_long n p (rw ez at h3.1))

-- ---- the working room

pub room_given : (c h f : List Float) (u y : List ℕ) → c ≡ fresh_places → h ≡ fresh_places → f ≡ fresh_floats → u ≡ fresh_numbers → y ≡ fresh_bytes
    → lent c h f u y ≡ room
room_given c h f u y ec eh ef eu ey = rw (ec, eh, ef, eu, ey)

-- its lists are as long as the numbers say
pub room_long : (n m : ℕ) → Room n m 512 512 3584 1024 512
    → Room n m (length fresh_places) (length fresh_places) (length fresh_floats) (length fresh_numbers) (length fresh_bytes)
unfolding fresh_places fresh_floats fresh_numbers fresh_bytes
room_long n m R = rw (length-replicate {A = Float} 512 Weight.zero, length-replicate {A = Float} 3584 Weight.zero, length-replicate {A = ℕ} 1024 0, length-replicate {A = ℕ} 512 0) R

pub decoded_fresh : (b : List ℕ) (e d : List Float) (n : ℕ) → e ≡ fresh_places → d ≡ decoded_to b e n → d ≡ floats_of b n
decoded_fresh b e d n x y = rw (y, x)
