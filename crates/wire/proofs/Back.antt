-- What is read back is what was written. Assumes nothing.
use Prim.Native.Nat.{ℕ, zero, suc, ◌+◌, ◌*◌, ◌/◌, ◌%◌, ◌^◌, ◌<◌, ◌≤◌}
use mathlib.Core.Path.{◌≡◌, refl, sym, ap, ◌∙◌}
use mathlib.Core.List.{List}
use native.Mathlib.Nat.{mod-one, mod-eq_of_lt, pow-succ', one-le-pow, add_comm}
use native.Mathlib.Omega.{arith}
use lib.Arith.{mod-mul}
use lib.Dec.{T}
use lib.ListN.{length, get_or, set, length-set}
use lib.Seq.{get_or-set_same, get_or-set_other}
use lib.Ieee.{Float, binary64, of_bits, to_bits, fits}
use lib.Ieee.Bits.{of_bits-to_bits, to_bits-lt}
use Rattle.wire.specs.Wire.{digits, with_digits, float_at, with_float}

pub length_with_digits : (b : List ℕ) (at w k : ℕ) → length (with_digits b at w k) ≡ length b
unfolding with_digits
length_with_digits b at w zero = refl
length_with_digits b at w (suc k) = length-set (with_digits b at w k) (at + k) (w / 256 ^ k % 256) ∙ length_with_digits b at w k

-- a place outside the k bytes stays
pub with_digits_other : (b : List ℕ) (at w k i : ℕ) → ((j : ℕ) → j < k → i ≡ at + j → ⊥) → get_or (with_digits b at w k) i 0 ≡ get_or b i 0
unfolding with_digits
with_digits_other b at w zero i h = refl
with_digits_other b at w (suc k) i h =
    get_or-set_other (with_digits b at w k) (at + k) i (w / 256 ^ k % 256) 0 (h k (omega arith))
    ∙ with_digits_other b at w k i (λ j l. h j (omega arith))

-- a later byte isn't asked
digits_set : (b : List ℕ) (at i v k : ℕ) → at + k ≤ i → digits (set b i v) at k ≡ digits b at k
unfolding digits
digits_set b at i v zero h = refl
digits_set b at i v (suc k) h =
    let p = digits_set b at i v k (omega arith) in
    let q = get_or-set_other b i (at + k) v 0 (λ e. omega arith) in
    rw (p, q)

pub digits_back : (b : List ℕ) (at w k : ℕ) → at + k ≤ length b → digits (with_digits b at w k) at k ≡ w % 256 ^ k
unfolding digits with_digits
digits_back b at w zero h = sym (mod-one w)
digits_back b at w (suc k) h =
    let d = with_digits b at w k in
    let v = w / 256 ^ k % 256 in
    let p = digits_set d at (at + k) v k (omega arith) in
    let q = digits_back b at w k (omega arith) in
    let l : at + k < length d = rw (length_with_digits b at w k) (omega arith) in
    let r = get_or-set_same d (at + k) v 0 l in
    let s = mod-mul w {m = 256} {c = 256 ^ k} (omega arith) (one-le-pow k 256 (omega arith)) in
    rw (p, q, r, pow-succ' 256 k, s) (add_comm (w % 256 ^ k) (v * 256 ^ k))

pub word_back : (b : List ℕ) (at w : ℕ) → at + 8 ≤ length b → w < 2 ^ 64 → digits (with_digits b at w 8) at 8 ≡ w
word_back b at w h l = digits_back b at w 8 h ∙ mod-eq_of_lt l

-- every f64 comes back: a NaN as the NaN
pub float_back : (b : List ℕ) (at : ℕ) (x : Float) → at + 8 ≤ length b → T (fits binary64 x) → float_at (with_float b at x) at ≡ x
float_back b at x h t = ap (of_bits binary64) (word_back b at (to_bits binary64 x) h (to_bits-lt binary64 x t)) ∙ of_bits-to_bits binary64 x t
