-- What the patterns' order says of floats: a small one is a small number, and those below the infinity's are what refusal 8 lets through. Assumes nothing.
use Prim.Native.Nat.{ℕ, zero, suc, ◌+◌, ◌-◌, ◌*◌, ◌/◌, ◌%◌, ◌^◌, ◌≤◌, ◌<◌}
use mathlib.Core.Bool.{Bool, true, false, ◌&&◌, cond}
use mathlib.Core.Path.{◌≡◌, refl, ap, ◌∙◌}
use native.Mathlib.Nat.{le_refl, le_trans, mul-le-mul, mul-div_cancel}
use native.Mathlib.Omega.{arith}
use borrow.Author.Tests.{lt-ltb, le-ltb}
use lib.Dec.{T, ltb, leb, eqb, lit≤, eqb→eq, not_T}
use lib.IntN.{pos}
use lib.Pow.{pow_mono, pow_pos}
use lib.Ieee.{Float, nan, inf, fin, Format, binary32, binary64, prec, emax, low, down, hid, ones, top, size, odd, neg, lt, le, fits, is_nan, of_fields, of_bits, to_bits}
use lib.Ieee.Bits.{cond_no, of_bits-fits}
use lib.Ieee.Digits.{Equals, odd_val, size-le}
use lib.Ieee.Fits.{down_pos, kept-lt}
use lib.Ieee.Scale.{overflow, finite}
use Rattle.alpha.specs.Weight.{limit, one}
use Rattle.rounding.specs.Units.{NotNan, Number, magnitude, plus, minus}
use Rattle.rounding.proofs.Binary64.{limit_parts}
use Rattle.rounding.proofs.Order.{holds}
use Rattle.rounding.proofs.Units.{compare, magnitude_is, neg_parts, value}
use Rattle.judge.specs.Judge.{eps_good}

-- ---- what the fields of a pattern are read as

-- no NaN, and of magnitude b units at the most
record Small (f : Format) (x : Float) (b : ℕ) : Type 0 where
  real : NotNan x
  most : magnitude f x ≤ b

small_of : (f : Format) (x : Float) (a b : ℕ) → Equals x a (2 ^ low f) → a ≤ b → Small f x b
unfolding is_nan
small_of f nan a b h l = absurd h
small_of f (inf s) a b h l = absurd h
small_of f (fin s m e) a b h l = record { real = tt; most = rw (ap (λ (n : ℕ). n / down e) h ∙ mul-div_cancel a (down_pos e)) l }

doubled : (f : Format) → 2 ^ prec f ≡ hid f + hid f
doubled binary32 = refl
doubled binary64 = refl

-- an exponent's field up to k + 1
small_fields : (f : Format) (s : Bool) (x t k : ℕ) → x ≤ suc k → suc k < ones f → t < hid f → Small f (of_fields f s x t) (2 ^ prec f * 2 ^ k)
unfolding of_fields
small_fields f s zero t k a b c =
    small_of f (odd (prec f) s t 0 (low f)) (t * 2 ^ 0) (2 ^ prec f * 2 ^ k) (odd_val (prec f) s t 0 (low f))
    (mul-le-mul {n₁ = t} {m₁ = 2 ^ 0} {n₂ = 2 ^ prec f} {m₂ = 2 ^ k} (omega (arith, doubled f)) (pow_pos k))
small_fields f s (suc x) t k a b c =
    rw (cond_no (eqb (suc x) (ones f)) (cond (eqb t 0) (inf s) nan) (odd (prec f) s (hid f + t) x (low f)) (not_T (eqb (suc x) (ones f)) (λ e. let g = eqb→eq (suc x) (ones f) e in omega arith)))
    (small_of f (odd (prec f) s (hid f + t) x (low f)) ((hid f + t) * 2 ^ x) (2 ^ prec f * 2 ^ k) (odd_val (prec f) s (hid f + t) x (low f))
    (mul-le-mul {n₁ = hid f + t} {m₁ = 2 ^ x} {n₂ = 2 ^ prec f} {m₂ = 2 ^ k} (omega (arith, doubled f)) (pow_mono {i = x} {j = k} (omega arith))))

-- ---- a small pattern is a small number

at_most_law : (p m a t q r : ℕ) → a ≡ p + m → a ≤ t → q ≡ t → r ≡ 0 → (p + r ≤ q + m) × (r + m ≤ p + q)
at_most_law p m a t q r h l u v = (omega arith, omega arith)

within : (x : Float) → T (fits binary64 x) → Small binary64 x (2 ^ 53 * 2 ^ 2014) → (le (neg limit) x ≡ true) × (le x limit ≡ true)
within x fit s =
    let n : Number binary64 x = record { fit = fit; real = s.real } in
    let g = neg_parts binary64 limit limit_parts.number in
    let l : 2 ^ 53 * 2 ^ 2014 ≤ 2 ^ 2074 = lit≤ tt in
    let b = at_most_law (plus binary64 x) (minus binary64 x) (magnitude binary64 x) (2 ^ 2074) (plus binary64 limit) (minus binary64 limit)
    (magnitude_is binary64 x) (le_trans s.most l) limit_parts.plus_is limit_parts.minus_is in
    let hi = (holds (le x limit)).0 ((compare binary64 x limit n limit_parts.number).most.1 b.0) in
    let lo = (holds (le (neg limit) x)).0 ((compare binary64 (neg limit) x g.number n).most.1 (rw (g.plus_is, g.minus_is) b.1)) in
    (lo, hi)

-- the exponent's field is below 2016, so the magnitude is below 2^993
read : (w : ℕ) → w % 0x8000_0000_0000_0000 < 126 * 0x100_0000_0000_0000 → Small binary64 (of_bits binary64 w) (2 ^ 53 * 2 ^ 2014)
unfolding of_bits
read w h = small_fields binary64 (leb (top binary64) w) (w % top binary64 / hid binary64) (w % hid binary64) 2014 (omega arith) (lit≤ tt) (omega arith)

pub small_pattern : (w : ℕ) → w % 0x8000_0000_0000_0000 < 126 * 0x100_0000_0000_0000
    → (le (neg limit) (of_bits binary64 w) ≡ true) × (le (of_bits binary64 w) limit ≡ true)
small_pattern w h = within (of_bits binary64 w) (of_bits-fits binary64 w) (read w h)

-- ---- a finite number with a clear sign bit has a pattern below the infinity's, and nothing else has

digits : (f : Format) (n : ℕ) → n < overflow f → (size n - prec f) * hid f + n / 2 ^ (size n - prec f) < ones f * hid f
digits f n h =
    let z = size-le n (low f + suc (emax f)) h in
    let t = kept-lt (prec f) n in
    let d = doubled f in
    let m = mul-le-mul {n₁ = size n - prec f + 2} {m₁ = hid f} {n₂ = ones f} {m₂ = hid f} (spare f (size n) z) (le_refl (hid f)) in
    omega arith
  where
    spare : (f : Format) (z : ℕ) → z ≤ low f + suc (emax f) → z - prec f + 2 ≤ ones f
    spare binary32 z h = omega arith
    spare binary64 z h = omega arith

signed : (t k r : ℕ) → t ≤ t + k + r
signed t k r = omega arith

clear : (k r b : ℕ) → k + r < b → 0 + k + r < b
clear k r b h = omega arith

pub eps_pattern : (x : Float) → T (fits binary64 x) → ltb (to_bits binary64 x) 0x7ff0_0000_0000_0000 ≡ eps_good x
unfolding to_bits eps_good
eps_pattern nan h = refl
eps_pattern (inf true) h = refl
eps_pattern (inf false) h = refl
eps_pattern (fin true m e) h =
    let n = magnitude binary64 (fin true m e) in
    let k = size n - 53 in
    le-ltb (top binary64 + k * hid binary64 + n / 2 ^ k) 0x7ff0_0000_0000_0000 (le_trans (lit≤ tt) (signed (top binary64) (k * hid binary64) (n / 2 ^ k)))
eps_pattern (fin false m e) h =
    let n = magnitude binary64 (fin false m e) in
    let k = size n - 53 in
    let v = value binary64 false m e (record { fit = h; real = unfold is_nan in tt }) in
    lt-ltb (0 + k * hid binary64 + n / 2 ^ k) 0x7ff0_0000_0000_0000 (clear (k * hid binary64) (n / 2 ^ k) 0x7ff0_0000_0000_0000 (digits binary64 n v.small))

-- ---- a comparison with both infinities tells a finite number

pub between : (x : Float) → (lt (inf true) x && lt x (inf false)) ≡ finite x
unfolding lt
between nan = refl
between (inf true) = refl
between (inf false) = refl
between (fin s m e) = refl

-- ---- what 1 is

pub one_is : one ≡ fin false 1 (pos 0)
unfolding of_bits
one_is = refl
