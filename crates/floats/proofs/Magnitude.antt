-- The magnitude: a cleared sign, and that of a zero. Assumes nothing.
use Rattle.std.proofs.Common.{◌≡◌, zero, suc, ◌*◌, ◌^◌, ◌<◌, true, false, T, eqb, ℤ, pos, negsuc, sym, refl, ap, subst, mul-pos, one-mul, zero-mul, mul-one, arith, eqb→eq}
use lib.Pow.{pow-lt}
use lib.Ieee.{Float, nan, inf, fin, binary64, up, down, eq, fits, of_bits}
use Rattle.std.specs.Float.{float_with_sign}
use lib.Ieee.Fits.{up_pos, and_l}
use Rattle.floats.specs.Helpers.{abs_of}

pub cleared : (x : Float) → float_with_sign false x ≡ abs_of x
unfolding float_with_sign abs_of
cleared nan = refl
cleared (inf s) = refl
cleared (fin s m e) = refl

-- +0
abbrev none : Float
none = fin false 0 (pos 0)

-- a zero that fits has no exponent
zero_alone : (e : ℤ) → T (eqb (up e * down e) 1) → e ≡ pos 0
zero_alone (pos zero) h = refl
zero_alone (pos (suc k)) h =
    let p : 2 ^ suc k * 1 ≡ 1 = eqb→eq (2 ^ suc k * 1) 1 h in
    let q = mul-one (2 ^ suc k) in
    let r : 1 < 2 ^ suc k = pow-lt {i = 0} {j = suc k} (omega arith) in
    let z : ⊥ = omega arith in
    absurd z
zero_alone (negsuc k) h =
    let p : 1 * 2 ^ suc k ≡ 1 = eqb→eq (1 * 2 ^ suc k) 1 h in
    let q = one-mul (2 ^ suc k) in
    let r : 1 < 2 ^ suc k = pow-lt {i = 0} {j = suc k} (omega arith) in
    let z : ⊥ = omega arith in
    absurd z

pub abs_zero : (x : Float) → T (fits binary64 x) → eq x none ≡ true → none ≡ abs_of x
unfolding eq fits abs_of
abs_zero nan t h = absurd (subst T (sym h) tt)
abs_zero (inf s) t h = absurd (subst T (sym h) tt)
abs_zero (fin s zero e) t h = ap (fin false zero) (sym (zero_alone e t))
abs_zero (fin s (suc m) e) t h =
    let p : suc m * up e * 1 ≡ 0 * down e = eqb→eq _ _ (and_l (eqb (suc m * up e * 1) (0 * down e)) _ (subst T (sym h) tt)) in
    let q = zero-mul (down e) in
    let r = mul-one (suc m * up e) in
    let g : 0 < suc m * up e = mul-pos (omega arith) (up_pos e) in
    let z : ⊥ = omega arith in
    absurd z

-- the same in the words of a body that tests for a zero
pub zero_is : (x : Float) → fits binary64 x ≡ true → eq x (of_bits binary64 0) ≡ true → of_bits binary64 0 ≡ abs_of x
unfolding of_bits
zero_is x f h = abs_zero x (subst T (sym f) tt) h
