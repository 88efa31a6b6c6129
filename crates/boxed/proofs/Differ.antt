-- The labels differ: both weights move by d, and their difference is kept. In units, at any format. Assumes nothing.
use mathlib.Core.Path.{◌≡◌, ◌∙◌}
use mathlib.Core.Logic.{inl}
use mathlib.Core.Bool.{not}
use Prim.Native.Nat.{◌+◌, ◌-◌, ◌≤◌, ◌<◌}
use native.Mathlib.Omega.{arith}
use lib.Dec.{T}
use lib.Ieee.{Float, Format, neg, add, sub, lt}
use Rattle.rounding.specs.Units.{Number, plus, minus, Parts, Rounds}
use Rattle.rounding.proofs.Units.{compare, neg_parts}
use Rattle.rounding.proofs.Rounding.{rounded_mono, rounded_zero, rounded_parts}
use Rattle.rounding.proofs.Sums.{add_rounds, sub_rounds, add_number, sub_number, sign, sub_self}
use Rattle.boxed.proofs.Range.{Top, Inside, inside_top, inside_finite, add_inside, sub_inside}

-- 0 ≤ v ≤ u
pub record Climbs (f : Format) (v u : Float) : Type 0 where
  pub number_v : Number f v
  pub number_u : Number f u
  pub low_v : minus f v ≡ 0
  pub low_u : minus f u ≡ 0
  pub order : plus f v ≤ plus f u

pub climbs_zero : {f : Format} {z b w : Float} → Parts f z 0 0 → Inside f b w → Climbs f z w
climbs_zero Z i = record { number_v = Z.number; number_u = i.number; low_v = Z.minus_is; low_u = i.low; order = omega (arith, Z.plus_is) }

module _ {f : Format} {b : Float} (t : Top f b) where
  -- where the upper one isn't above b, both are in the box
  pub climbs_inside : {v u : Float} → Climbs f v u → T (not (lt b u)) → Inside f b v × Inside f b u
  climbs_inside {v} {u} c h =
      let k = (compare f b u t.number c.number_u).not_less.0 h in (
        record { number = c.number_v; low = c.low_v; high = omega (arith, c, t.low) },
        record { number = c.number_u; low = c.low_u; high = omega (arith, c, t.low) },
      )

  -- a ceiling against itself
  pub no_gap : Parts f (sub f b b) 0 0
  no_gap = sub_self f b t.number (sub_number f b b t.number t.number (inl (inside_finite t (inside_top t)))).real

  module _ {x y : Float} (X : Inside f b x) (Y : Inside f b y) where
    -- both moved by d, where y's isn't below 0
    pub climbs_moved : {z d : Float} → Parts f z 0 0 → Number f d → plus f y ≤ plus f x → T (not (lt (add f y d) z)) → Climbs f (add f y d) (add f x d)
    climbs_moved {z} {d} Z D h k =
        let n = add_number f y d Y.number D (inl (inside_finite t Y)) in
        let m = add_number f x d X.number D (inl (inside_finite t X)) in
        let g = add_rounds f y d Y.number D n.real in
        let i = add_rounds f x d X.number D m.real in
        let a = (sign f (add f y d) z _ _ g Z).0.not_less.0 k in
        let r = rounded_mono f (plus f y + plus f d - (minus f y + minus f d)) (plus f x + plus f d - (minus f x + minus f d)) (omega (arith, X.low, Y.low)) in
        record {
          number_v = n;
          number_u = m;
          low_v = g.minus_is ∙ rounded_zero f _ (omega arith);
          low_u = i.minus_is ∙ rounded_zero f _ (omega (arith, X.low, Y.low));
          order = omega (arith, g.plus_is, i.plus_is);
        }

    number_diff : Number f (sub f x y)
    number_diff = sub_number f x y X.number Y.number (inl (inside_finite t X))

    diff_parts : Rounds f (sub f x y) (plus f x + minus f y) (minus f x + plus f y)
    diff_parts = sub_rounds f x y X.number Y.number number_diff.real

    -- the difference against any zero is x against y
    pub above : {o : Float} → Parts f o 0 0 → T (lt o (sub f x y)) → plus f y < plus f x
    above {o} O h = omega (arith, X.low, Y.low, (sign f (sub f x y) o _ _ diff_parts O).1.less.0 h)

    pub below : {o : Float} → Parts f o 0 0 → T (not (lt o (sub f x y))) → plus f x ≤ plus f y
    below {o} O h = omega (arith, X.low, Y.low, (sign f (sub f x y) o _ _ diff_parts O).1.not_less.0 h)

    pub diff_inside : plus f y < plus f x → Inside f b (sub f x y)
    diff_inside h = sub_inside t X.number Y.number X.low Y.low (omega (arith, X.high, t.room)) (omega arith) (omega (arith, X.high))

    pub neg_diff_inside : plus f x ≤ plus f y → Inside f b (neg (sub f x y))
    neg_diff_inside h =
        let g = neg_parts f (sub f x y) number_diff in
        let o = rounded_zero f (plus f x + minus f y - (minus f x + plus f y)) (omega (arith, X.low, Y.low)) in
        let m = rounded_mono f (minus f x + plus f y - (plus f x + minus f y)) (plus f b) (omega (arith, X.low, Y.low, Y.high)) in
        record {
          number = g.number;
          low = g.minus_is ∙ diff_parts.plus_is ∙ o;
          high = omega (arith, g.plus_is, diff_parts.minus_is, rounded_parts f b t.number);
        }

    -- what the one becomes where the other is at the ceiling
    pub rest_inside : plus f y < plus f x → Inside f b (sub f b (sub f x y))
    rest_inside h = let i = diff_inside h in sub_inside t t.number number_diff t.low i.low (omega (arith, t.room)) i.high (omega arith)

    pub neg_rest_inside : plus f x ≤ plus f y → Inside f b (add f b (sub f x y))
    neg_rest_inside h =
        let i = neg_diff_inside h in
        let g = neg_parts f (sub f x y) number_diff in
        add_inside t t.number number_diff t.low (omega (arith, i.low, g.minus_is)) (omega (arith, t.room)) (omega (arith, i.high, g.plus_is)) (omega arith)
