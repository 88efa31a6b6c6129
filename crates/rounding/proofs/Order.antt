-- The order of all floats, whether or not a format holds them. A NaN compares with nothing. Assumes nothing.
--
-- Main theorems:
--   holds: a test as a fact is the test equal to true; `fails` has false
--   le_real: where one float is at most another, neither is NaN; `lt_real` for below
--   le_refl: a float that is no NaN is at most itself
--   le_trans: at most and at most is at most; `lt_le_trans` and `le_lt_trans` where one of the two is below
--   not_le: of two that are no NaN, not at most is above; `not_lt`: not below is at least
--   le_total: of two that are no NaN, one is at most the other
--   lt_asym: of two floats at most one is below the other; `lt_irrefl`: none is below itself
--   least: minus infinity is at most all that is no NaN; `greatest`: infinity is at least that
--   eq_le: equal is at most, both ways
--   ne_itself: only a NaN differs from itself
--   neg_neg: negated twice is the same float
use mathlib.Core.Path.{◌≡◌, refl, ap}
use mathlib.Core.Logic.{◌⊎◌, inl, inr, ◌↔◌}
use mathlib.Core.Bool.{Bool, true, false, not, ◌&&◌, cond, true≢false, false≢true}
use Prim.Native.Nat.{ℕ, suc, ◌+◌, ◌*◌, ◌/◌, ◌^◌, ◌≤◌, ◌<◌}
use native.Mathlib.Nat.{le_of_lt, lt_of_lt_of_le, div-le_self}
use native.Mathlib.Omega.{arith}
use lib.Dec.{T, T_not}
use lib.Pow.{pow_mono}
use lib.Ieee.{Float, nan, inf, fin, up, down, neg, lt, le, eq, ne, is_nan}
use lib.Ieee.Digits.{size-lt}
use lib.Ieee.Positive.{num, den}
use Rattle.rounding.specs.Units.{NotNan, negative, Compared}
use Rattle.rounding.proofs.Compare.{or_left, or_right, Measured, compared, whole}

-- ---- a test as a fact, and as an equation

pub holds : (b : Bool) → T b ↔ (b ≡ true)
holds true = (λ t. refl, λ e. tt)
holds false = (λ t. absurd t, λ e. false≢true e)

pub fails : (b : Bool) → T (not b) ↔ (b ≡ false)
fails true = (λ t. absurd t, λ e. true≢false e)
fails false = (λ t. refl, λ e. tt)

pub both : (a b : Bool) → (a && b) ≡ true → (a ≡ true) × (b ≡ true)
both true b h = (refl, h)
both false b h = absurd (false≢true h)

-- ---- what is compared is no NaN

pub le_real : (x y : Float) → T (le x y) → NotNan x × NotNan y
unfolding le is_nan
le_real nan y t = absurd t
le_real (inf s) nan t = absurd t
le_real (inf s) (inf u) t = (tt, tt)
le_real (inf s) (fin u n d) t = (tt, tt)
le_real (fin s m e) nan t = absurd t
le_real (fin s m e) (inf u) t = (tt, tt)
le_real (fin s m e) (fin u n d) t = (tt, tt)

pub lt→le : (x y : Float) → T (lt x y) → T (le x y)
unfolding le
lt→le x y t = or_left (lt x y) (eq x y) t

pub lt_real : (x y : Float) → T (lt x y) → NotNan x × NotNan y
lt_real x y t = le_real x y (lt→le x y t)

-- ---- three floats in one unit that is fine enough for each

-- the magnitude in units of 2 ^ -l
size : ℕ → ℕ → Float → ℕ
size l top nan = 0
size l top (inf s) = top
size l top (fin s m e) = m * up e * 2 ^ l / down e

-- how many digits behind the point are enough
digits : Float → ℕ
digits x = lib.Ieee.size (den x)

measured : (l top : ℕ) (x : Float) → NotNan x → digits x ≤ l → num x * 2 ^ l < top → Measured l top x (size l top x)
unfolding size digits is_nan
measured l top nan p h k = p
measured l top (inf s) p h k = refl
measured l top (fin s m e) p h k = (
  (whole l m e (le_of_lt (lt_of_lt_of_le (size-lt (down e)) (pow_mono h)))).cross,
  omega (arith, div-le_self (m * up e * 2 ^ l) (down e)),
)

-- o and u are how far a float lies over zero, and under
record Line (x y z : Float) : Type 0 where
  o : Float → ℕ
  u : Float → ℕ
  xy : Compared x y (o x + u y) (o y + u x)
  yz : Compared y z (o y + u z) (o z + u y)
  xz : Compared x z (o x + u z) (o z + u x)

line : (x y z : Float) → NotNan x → NotNan y → NotNan z → Line x y z
line x y z p q r =
    let l = digits x + digits y + digits z in
    let top = suc (num x * 2 ^ l + num y * 2 ^ l + num z * 2 ^ l) in
    let w = size l top in
    let a = measured l top x p (omega arith) (omega arith) in
    let b = measured l top y q (omega arith) (omega arith) in
    let c = measured l top z r (omega arith) (omega arith) in
    let by = compared l top (omega arith) in
    record {
      o = λ i. cond (negative i) 0 (w i);
      u = λ i. cond (negative i) (w i) 0;
      xy = by x y (w x) (w y) a b;
      yz = by y z (w y) (w z) b c;
      xz = by x z (w x) (w z) a c;
    }

-- ---- the laws

pub le_refl : (x : Float) → NotNan x → T (le x x)
le_refl x p = (line x x x p p p).xy.most.1 (omega arith)

pub le_trans : (x y z : Float) → T (le x y) → T (le y z) → T (le x z)
le_trans x y z h k =
    let s = line x y z (le_real x y h).0 (le_real x y h).1 (le_real y z k).1 in
    s.xz.most.1 (omega (arith, s.xy.most.0 h, s.yz.most.0 k))

pub lt_le_trans : (x y z : Float) → T (lt x y) → T (le y z) → T (lt x z)
lt_le_trans x y z h k =
    let s = line x y z (lt_real x y h).0 (lt_real x y h).1 (le_real y z k).1 in
    s.xz.less.1 (omega (arith, s.xy.less.0 h, s.yz.most.0 k))

pub le_lt_trans : (x y z : Float) → T (le x y) → T (lt y z) → T (lt x z)
le_lt_trans x y z h k =
    let s = line x y z (le_real x y h).0 (le_real x y h).1 (lt_real y z k).1 in
    s.xz.less.1 (omega (arith, s.xy.most.0 h, s.yz.less.0 k))

pub not_le : (x y : Float) → NotNan x → NotNan y → T (not (le x y)) ↔ T (lt y x)
not_le x y p q = let s = line x y x p q p in (λ t. s.yz.less.1 (s.xy.not_most.0 t), λ t. s.xy.not_most.1 (s.yz.less.0 t))

pub not_lt : (x y : Float) → NotNan x → NotNan y → T (not (lt x y)) ↔ T (le y x)
not_lt x y p q = let s = line x y x p q p in (λ t. s.yz.most.1 (s.xy.not_less.0 t), λ t. s.xy.not_less.1 (s.yz.most.0 t))

pub le_total : (x y : Float) → NotNan x → NotNan y → T (le x y) ⊎ T (le y x)
le_total x y p q = go (lt y x) (lt→le y x) (not_lt y x q p).0
  where
    go : (b : Bool) → (T b → T (le y x)) → (T (not b) → T (le x y)) → T (le x y) ⊎ T (le y x)
    go true h k = inr (h tt)
    go false h k = inl (k tt)

pub lt_asym : (x y : Float) → T (lt x y) → T (lt y x) → ⊥
lt_asym x y h k = let p = lt_real x y h in T_not (lt x y) ((not_lt x y p.0 p.1).1 (lt→le y x k)) h

pub lt_irrefl : (x : Float) → T (lt x x) → ⊥
lt_irrefl x h = lt_asym x x h h

pub least : (x : Float) → NotNan x → T (le (inf true) x)
unfolding le is_nan
least nan p = p
least (inf false) p = tt
least (inf true) p = tt
least (fin s m e) p = tt

pub greatest : (x : Float) → NotNan x → T (le x (inf false))
unfolding le is_nan
greatest nan p = p
greatest (inf false) p = tt
greatest (inf true) p = tt
greatest (fin s m e) p = tt

-- equal is at most, both ways
pub eq_le : (x y : Float) → T (eq x y) ↔ (T (le x y) × T (le y x))
eq_le x y = (
  λ t.
      let h : T (le x y) = unfold le in or_right (lt x y) (eq x y) t in
      let p = le_real x y h in
      let s = line x y x p.0 p.1 p.0 in
      (h, s.yz.most.1 (omega (arith, s.xy.same.0 t))),
  λ t.
      let p = le_real x y t.0 in
      let s = line x y x p.0 p.1 p.0 in
      s.xy.same.1 (omega (arith, s.xy.most.0 t.0, s.yz.most.0 t.1)),
)

pub eq_refl : (x : Float) → NotNan x → T (eq x x)
eq_refl x p = (eq_le x x).1 (le_refl x p, le_refl x p)

-- only a NaN differs from itself
pub ne_itself : (x : Float) → ne x x ≡ is_nan x
unfolding ne is_nan
ne_itself nan = refl
ne_itself (inf s) = ap not ((holds (eq (inf s) (inf s))).0 (eq_refl (inf s) tt))
ne_itself (fin s m e) = ap not ((holds (eq (fin s m e) (fin s m e))).0 (eq_refl (fin s m e) tt))

pub neg_neg : (x : Float) → neg (neg x) ≡ x
unfolding neg
neg_neg nan = refl
neg_neg (inf false) = refl
neg_neg (inf true) = refl
neg_neg (fin false m e) = refl
neg_neg (fin true m e) = refl
