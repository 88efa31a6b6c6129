-- What `altuliscia_pair` answers, byte for byte, and the box of its step. Assumes nothing.
use Prim.Native.Nat.{ℕ, ◌≤◌, ◌<◌}
use mathlib.Core.Bool.{Bool, true, false, cond}
use mathlib.Core.List.{List, [], ◌∷◌}
use mathlib.Core.Path.{◌≡◌, refl, ap, ◌∙◌}
use native.Mathlib.Nat.{mod-eq_of_lt}
use native.Mathlib.Omega.{arith}
use borrow.Author.Tests.{ltb-false, lt-ltb, le-ltb}
use lib.Dec.{ltb}
use lib.Ieee.{binary64, of_bits}
use lib.Ieee.Bits.{of_bits-fits, to_bits-lt, of_bits-to_bits}
use lib.ListN.{length}
use Rattle.altuliscia.specs.Functions.{pair_handed, pair_host}
use Rattle.boxed.specs.Range.{Ceiling, In, BothHeld}
use Rattle.finder.specs.Found.{with_pair}
use Rattle.finder.proofs.Box.{found_box}
use Rattle.finder.proofs.Doubles.{Doubled, found_doubled}
use Rattle.hosted.specs.Hosted.{as_float, stored_to}
use Rattle.rounding.specs.Units.{NotNan}
use Rattle.update.specs.declared.Pair.{Pair}
use Rattle.wire.specs.Wire.{digits}
use Rattle.handed.specs.Trail.{pair_called, step_called, GivesPair}
use Rattle.handed.proofs.Stored.{stored_at, stored_beyond}

-- two floats, one after the other
pair_stored : (out : List ℕ) (p : Pair) → with_pair out p ≡ stored_to (p.i.value ∷ p.j.value ∷ []) out 2
unfolding with_pair stored_to
pair_stored out p = refl

module _ (ai bi aj bj gi gj di dj r agree : ℕ) (out : List ℕ) where
  -- 2 and nothing written where the list is short, else 0
  pub pair_number : (length out < 16 → pair_host ai bi aj bj gi gj di dj r agree out ≡ pair_handed 2 out)
      × (16 ≤ length out → pair_host ai bi aj bj gi gj di dj r agree out ≡ pair_handed 0 (with_pair out (pair_called ai bi aj bj gi gj di dj r agree)))
  unfolding pair_host
  pair_number = (λ h. rw (lt-ltb (length out) 16 h), λ h. rw (le-ltb (length out) 16 h))

  pub pair_gives : (pair_host ai bi aj bj gi gj di dj r agree out).code ≡ 0 → GivesPair (pair_called ai bi aj bj gi gj di dj r agree) out (pair_host ai bi aj bj gi gj di dj r agree out)
  unfolding pair_host
  pair_gives = go (ltb (length out) 16) refl
    where
      p : Pair
      p = pair_called ai bi aj bj gi gj di dj r agree

      double : Doubled p
      double = found_doubled _ _ (record { value_i = of_bits-fits binary64 ai; value_j = of_bits-fits binary64 aj; upper_i = of_bits-fits binary64 bi; upper_j = of_bits-fits binary64 bj }) _ _ _ _ _ _

      go : (b : Bool) → ltb (length out) 16 ≡ b → (cond b (pair_handed 2 out) (pair_handed 0 (with_pair out p))).code ≡ 0
          → GivesPair p out (cond b (pair_handed 2 out) (pair_handed 0 (with_pair out p)))
      go true e z = absurd (omega (arith, z))
      go false e z =
          let long = ltb-false (length out) 16 e in
          rw (pair_stored out p) (record {
            i = stored_at (p.i.value ∷ p.j.value ∷ []) out 2 0 long (omega arith) ∙ mod-eq_of_lt (to_bits-lt binary64 _ double.value_i);
            j = stored_at (p.i.value ∷ p.j.value ∷ []) out 2 1 long (omega arith) ∙ mod-eq_of_lt (to_bits-lt binary64 _ double.value_j);
            beyond = stored_beyond (p.i.value ∷ p.j.value ∷ []) out 2;
          })

-- one common ceiling b in range, both weights in the box and a step that isn't NaN: both stay in it
in_box : (b ai aj gi gj di dj r agree : ℕ) → Ceiling (as_float b) → In (as_float b) (as_float ai) → In (as_float b) (as_float aj) → NotNan (step_called gi gj di dj r agree)
    → BothHeld (as_float b) (pair_called ai b aj b gi gj di dj r agree)
in_box b ai aj gi gj di dj r agree c x y h =
    found_box (as_float b) c _ _ (record { upper = refl; value = x }) (record { upper = refl; value = y }) (as_float gi) (as_float gj) (as_float di) (as_float dj) (as_float r) _ h

-- where it answers 0, the two numbers that it wrote
pub pair_called_box : (b ai aj gi gj di dj r agree : ℕ) (out : List ℕ) → Ceiling (as_float b) → In (as_float b) (as_float ai) → In (as_float b) (as_float aj) → NotNan (step_called gi gj di dj r agree)
    → (pair_host ai b aj b gi gj di dj r agree out).code ≡ 0
    → In (as_float b) (as_float (digits (pair_host ai b aj b gi gj di dj r agree out).pair 0 8)) × In (as_float b) (as_float (digits (pair_host ai b aj b gi gj di dj r agree out).pair 8 8))
pair_called_box b ai aj gi gj di dj r agree out c x y h z =
    let held = in_box b ai aj gi gj di dj r agree c x y h in
    let w = pair_gives ai b aj b gi gj di dj r agree out z in
    let p = pair_called ai b aj b gi gj di dj r agree in
    let ei = ap (of_bits binary64) w.i ∙ of_bits-to_bits binary64 p.i.value held.i.value.number.fit in
    let ej = ap (of_bits binary64) w.j ∙ of_bits-to_bits binary64 p.j.value held.j.value.number.fit in
    (rw ei held.i.value, rw ej held.j.value)
