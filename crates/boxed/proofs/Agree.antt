-- The labels agree: what the one weight loses the other gains, and their sum is kept. In units, at any format. Assumes nothing.
use mathlib.Core.Path.{◌≡◌, ap, ◌∙◌}
use mathlib.Core.Logic.{◌⊎◌, inl, inr}
use mathlib.Core.Bool.{Bool, true, false, not}
use Prim.Native.Nat.{ℕ, ◌+◌, ◌-◌, ◌≤◌, ◌<◌}
use native.Mathlib.Omega.{arith}
use lib.Dec.{T, leb, leb→le, nleb→lt}
use lib.Ieee.{Float, Format, add, sub, lt}
use Rattle.rounding.specs.Units.{Number, plus, minus, Parts, Rounds, rounded}
use Rattle.rounding.proofs.Units.{overflow_pos, compare, one_part}
use Rattle.rounding.proofs.Rounding.{rounded_mono, rounded_zero, rounded_twice}
use Rattle.rounding.proofs.Sums.{add_rounds, sub_rounds, add_number, sub_number, sign}
use Rattle.boxed.proofs.Range.{no_minus, Top, Inside, inside_finite, sub_inside}

split : (a b : ℕ) → (a ≤ b) ⊎ (b < a)
split a b = go (leb a b) (leb→le a b) (nleb→lt a b)
  where
    go : (t : Bool) → (T t → a ≤ b) → (T (not t) → b < a) → (a ≤ b) ⊎ (b < a)
    go true l g = inl (l tt)
    go false l g = inr (g tt)

-- after the first half, where the sum is above b: u ≤ b, v ≥ 0, and u ≥ 0 if v ≤ b
pub record Over (f : Format) (b u v : Float) : Type 0 where
  pub number_u : Number f u
  pub number_v : Number f v
  pub high_u : plus f u ≤ plus f b + minus f u
  pub low_v : minus f v ≡ 0
  pub rest : plus f v ≤ plus f b → minus f u ≡ 0

-- and where it is b at the most: u ≤ b, v ≥ 0, and v ≤ b if u ≥ 0
pub record Under (f : Format) (b u v : Float) : Type 0 where
  pub number_u : Number f u
  pub number_v : Number f v
  pub high_u : plus f u ≤ plus f b + minus f u
  pub low_v : minus f v ≡ 0
  pub rest : minus f u ≡ 0 → plus f v ≤ plus f b

module _ {f : Format} {b : Float} (t : Top f b) where
  -- one weight is at its end
  pub over_end : {v : Float} → Inside f b v → Over f b b v
  over_end i = record { number_u = t.number; number_v = i.number; high_u = omega arith; low_v = i.low; rest = λ l. t.low }

  pub under_end : {z u : Float} → Parts f z 0 0 → Inside f b u → Under f b u z
  under_end Z i = record {
    number_u = i.number;
    number_v = Z.number;
    high_u = omega (arith, i.high);
    low_v = Z.minus_is;
    rest = λ l. omega (arith, Z.plus_is);
  }

  -- after the second half, where neither was brought to its end
  pub over_inside : {u v : Float} → Over f b u v → T (not (lt b v)) → Inside f b u × Inside f b v
  over_inside {u} {v} o h =
      let k = (compare f b v t.number o.number_v).not_less.0 h in
      let l : plus f v ≤ plus f b = omega (arith, o.low_v, t.low) in
      let m = o.rest l in
      (record { number = o.number_u; low = m; high = omega (arith, o.high_u) }, record { number = o.number_v; low = o.low_v; high = l })

  pub under_inside : {z u v : Float} → Parts f z 0 0 → Under f b u v → T (not (lt u z)) → Inside f b u × Inside f b v
  under_inside {z} {u} Z o h =
      let k = (compare f u z o.number_u Z.number).not_less.0 h in
      let m = no_minus f u (omega (arith, Z)) in
      (record { number = o.number_u; low = m; high = omega (arith, o.high_u) }, record { number = o.number_v; low = o.low_v; high = o.rest m })

  module _ {x y : Float} (X : Inside f b x) (Y : Inside f b y) where
    number_sum : Number f (add f x y)
    number_sum = add_number f x y X.number Y.number (inl (inside_finite t X))

    -- x + y, rounded: 2 b at the most
    record Sum : Type 0 where
      is : plus f (add f x y) ≡ rounded f (plus f x + plus f y)
      low : minus f (add f x y) ≡ 0
      high : plus f (add f x y) ≤ plus f b + plus f b

    sum_is : Sum
    sum_is =
        let g = add_rounds f x y X.number Y.number number_sum.real in
        let e : plus f x + plus f y - (minus f x + minus f y) ≡ plus f x + plus f y = omega (arith, X.low, Y.low) in
        let h = g.plus_is ∙ ap (rounded f) e in
        let m = rounded_mono f (plus f x + plus f y) (plus f b + plus f b) (omega (arith, X.high, Y.high)) in
        let r = (rounded_twice f b t.number t.room (omega (arith, t.low, overflow_pos f))).0 in
        record { is = h; low = g.minus_is ∙ rounded_zero f _ (omega (arith, X.low, Y.low)); high = omega arith }

    pub over_sum : T (lt b (add f x y)) → plus f b < plus f (add f x y)
    over_sum h = omega (arith, t.low, sum_is.low, (compare f b (add f x y) t.number number_sum).less.0 h)

    pub under_sum : T (not (lt b (add f x y))) → plus f (add f x y) ≤ plus f b
    under_sum h = omega (arith, t.low, sum_is.low, (compare f b (add f x y) t.number number_sum).not_less.0 h)

    pub rest_inside : plus f b < plus f (add f x y) → Inside f b (sub f (add f x y) b)
    rest_inside h = let g = sum_is in sub_inside t number_sum t.number g.low t.low (omega (arith, g.high, t.room)) (omega arith) g.high

    pub sum_inside : plus f (add f x y) ≤ plus f b → Inside f b (add f x y)
    sum_inside h = record { number = number_sum; low = sum_is.low; high = h }

    module _ {d : Float} (D : Number f d) where
      number_u : Number f (sub f x d)
      number_u = sub_number f x d X.number D (inl (inside_finite t X))

      number_v : Number f (add f y d)
      number_v = add_number f y d Y.number D (inl (inside_finite t Y))

      u_parts : Rounds f (sub f x d) (plus f x + minus f d) (minus f x + plus f d)
      u_parts = sub_rounds f x d X.number D number_u.real

      v_parts : Rounds f (add f y d) (plus f y + plus f d) (minus f y + minus f d)
      v_parts = add_rounds f y d Y.number D number_v.real

      -- where y + d ≤ 0, x − d is at least the sum; and so the other way round
      u_up : plus f y + plus f d ≤ minus f y + minus f d → plus f (add f x y) ≤ plus f (sub f x d)
      u_up h = omega (arith, sum_is.is, u_parts.plus_is, rounded_mono f (plus f x + plus f y) (plus f x + minus f d - (minus f x + plus f d)) (omega (arith, X.low, Y.low)))

      v_up : plus f x + minus f d ≤ minus f x + plus f d → plus f (add f x y) ≤ plus f (add f y d)
      v_up h = omega (arith, sum_is.is, v_parts.plus_is, rounded_mono f (plus f x + plus f y) (plus f y + plus f d - (minus f y + minus f d)) (omega (arith, X.low, Y.low)))

      -- where it is at least 0, at most the sum
      u_down : minus f y + minus f d ≤ plus f y + plus f d → plus f (sub f x d) ≤ plus f (add f x y)
      u_down h = omega (arith, sum_is.is, u_parts.plus_is, rounded_mono f (plus f x + minus f d - (minus f x + plus f d)) (plus f x + plus f y) (omega (arith, X.low, Y.low)))

      v_down : minus f x + plus f d ≤ plus f x + minus f d → plus f (add f y d) ≤ plus f (add f x y)
      v_down h = omega (arith, sum_is.is, v_parts.plus_is, rounded_mono f (plus f y + plus f d - (minus f y + minus f d)) (plus f x + plus f y) (omega (arith, X.low, Y.low)))

      pub over_moved : plus f b < plus f (add f x y) → T (not (lt b (sub f x d))) → Over f b (sub f x d) (add f y d)
      over_moved h k =
          let n = (compare f b (sub f x d) t.number number_u).not_less.0 k in
          record {
            number_u = number_u;
            number_v = number_v;
            high_u = omega (arith, t.low);
            low_v = elim (split (minus f y + minus f d) (plus f y + plus f d)) [
              | inl l ↦ v_parts.minus_is ∙ rounded_zero f _ (omega arith)
              | inr l ↦ omega (arith, u_up (omega arith), t.low, one_part f (sub f x d))
            ];
            rest = λ l. elim (split (minus f x + plus f d) (plus f x + minus f d)) [
              | inl m ↦ u_parts.minus_is ∙ rounded_zero f _ (omega arith)
              | inr m ↦ omega (arith, v_up (omega arith))
            ];
          }

      pub under_moved : {z : Float} → Parts f z 0 0 → plus f (add f x y) ≤ plus f b → T (not (lt (add f y d) z)) → Under f b (sub f x d) (add f y d)
      under_moved {z} Z h k =
          let s = (sign f (add f y d) z _ _ v_parts Z).0.not_less.0 k in
          record {
            number_u = number_u;
            number_v = number_v;
            high_u = omega (arith, u_down s);
            low_v = v_parts.minus_is ∙ rounded_zero f _ (omega arith);
            rest = λ l.
                let c = (compare f (sub f x d) z number_u Z.number).not_less.1 (omega (arith, Z)) in
                omega (arith, v_down ((sign f (sub f x d) z _ _ u_parts Z).0.not_less.0 c));
          }
