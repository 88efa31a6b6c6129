-- The clip keeps both weights in the box of their one ceiling. Assumes nothing.
use mathlib.Core.Path.{◌≡◌, refl, sym, subst}
use mathlib.Core.Bool.{Bool, true, false, not, cond}
use Prim.Native.Nat.{◌≤◌, ◌<◌}
use native.Mathlib.Nat.{le_of_lt, not-le_of_lt}
use lib.Dec.{T}
use lib.Ieee.{Float, binary64, add, sub, lt}
use Rattle.alpha.specs.Weight.{zero, weight}
use Rattle.rounding.specs.Units.{Number, plus, Parts}
use Rattle.rounding.proofs.Units.{zero_parts}
use Rattle.rounding.proofs.Binary64.{limit_parts, limit_room, zero_is}
use Rattle.update.specs.Pair.{pair, i_capped, j_capped, i_raised, j_raised, differ_low, differ_high, differed, agree_first, agree_second, agreed, clipped_step}
use Rattle.update.specs.declared.Pair.{Pair}
use Rattle.boxed.specs.Range.{Ceiling, In, BothHeld}
use Rattle.boxed.proofs.Range.{Top, Inside, top_of, inside_of, of_inside, inside_zero, inside_top}
use Rattle.boxed.proofs.Differ as differing
use Rattle.boxed.proofs.Agree as agreeing

by_test : (P : Pair → Type 0) (t : Bool) (v w : Pair) → (T t → P v) → (T (not t) → P w) → P (cond t v w)
by_test P true v w h k = h tt
by_test P false v w h k = k tt

Z : Parts binary64 zero 0 0
Z = rw zero_is (zero_parts binary64 false)

module _ (b : Float) where
  -- two values under the ceiling b
  abbrev at : Float → Float → Pair
  at u v = pair (weight u b) (weight v b)

  -- both ceilings are b, and P holds of the values
  record Under (P : Float → Float → Type 0) (p : Pair) : Type 0 where
    upper_i : p.i.upper ≡ b
    upper_j : p.j.upper ≡ b
    values : P p.i.value p.j.value

  under : (P : Float → Float → Type 0) (u v : Float) → P u v → Under P (at u v)
  under P u v h = record { upper_i = refl; upper_j = refl; values = h }

  -- so what holds of each such pair of values holds of the pair
  over : (P : Float → Float → Type 0) (Q : Pair → Type 0) (p : Pair) → Under P p → ((u v : Float) → P u v → Q (at u v)) → Q p
  over P Q p h g =
      let e : p ≡ at p.i.value p.j.value = λ k. pair (weight p.i.value (h.upper_i k)) (weight p.j.value (h.upper_j k)) in
      subst Q (sym e) (g p.i.value p.j.value h.values)

  abbrev Both : Float → Float → Type 0
  Both u v = Inside binary64 b u × Inside binary64 b v

  module _ (t : Top binary64 b) {x y d : Float} (X : Inside binary64 b x) (Y : Inside binary64 b y) (D : Number binary64 d) where
    -- ---- the labels differ: after the first half the values are at least 0, and stand as x and y do

    abbrev Apart : Float → Float → Type 0
    Apart u v = (plus binary64 y < plus binary64 x → differing.Climbs binary64 v u) × (plus binary64 x ≤ plus binary64 y → differing.Climbs binary64 u v)

    low : Under Apart (differ_low (at (add binary64 x d) (add binary64 y d)) (sub binary64 x y))
    unfolding differ_low i_raised j_raised
    low =
        by_test (Under Apart) (lt zero (sub binary64 x y)) _ _
        (λ h.
        let g = differing.above t X Y Z h in
        by_test (Under Apart) (lt (add binary64 y d) zero) _ _
        (λ k. under Apart _ _ (λ l. differing.climbs_zero Z (differing.diff_inside t X Y g), λ l. absurd (not-le_of_lt g l)))
        (λ k. under Apart _ _ (λ l. differing.climbs_moved t X Y Z D (le_of_lt g) k, λ l. absurd (not-le_of_lt g l))))
        (λ h.
        let g = differing.below t X Y Z h in
        by_test (Under Apart) (lt (add binary64 x d) zero) _ _
        (λ k. under Apart _ _ (λ l. absurd (not-le_of_lt l g), λ l. differing.climbs_zero Z (differing.neg_diff_inside t X Y g)))
        (λ k. under Apart _ _ (λ l. absurd (not-le_of_lt l g), λ l. differing.climbs_moved t Y X Z D g k)))

    high : (u v : Float) → Apart u v → Under Both (differ_high (at u v) (sub binary64 x y))
    unfolding differ_high i_capped j_capped
    high u v a =
        by_test (Under Both) (lt (sub binary64 b b) (sub binary64 x y)) _ _
        (λ h.
        let g = differing.above t X Y (differing.no_gap t) h in
        by_test (Under Both) (lt b u) _ _
        (λ k. under Both _ _ (inside_top t, differing.rest_inside t X Y g))
        (λ k. let i = differing.climbs_inside t (a.0 g) k in under Both _ _ (i.1, i.0)))
        (λ h.
        let g = differing.below t X Y (differing.no_gap t) h in
        by_test (Under Both) (lt b v) _ _
        (λ k. under Both _ _ (differing.neg_rest_inside t X Y g, inside_top t))
        (λ k. under Both _ _ (differing.climbs_inside t (a.1 g) k)))

    differed_both : Under Both (differed (at x y) d)
    unfolding differed
    differed_both = over Apart (λ p. Under Both (differ_high p (sub binary64 x y))) _ low high

    -- ---- the labels agree

    abbrev Halfway : Float → Float → Type 0
    Halfway u v =
        (plus binary64 b < plus binary64 (add binary64 x y) → agreeing.Over binary64 b u v)
        × (plus binary64 (add binary64 x y) ≤ plus binary64 b → agreeing.Under binary64 b u v)

    first : Under Halfway (agree_first (at (sub binary64 x d) (add binary64 y d)) (add binary64 x y))
    unfolding agree_first i_capped j_raised
    first =
        by_test (Under Halfway) (lt b (add binary64 x y)) _ _
        (λ h.
        let g = agreeing.over_sum t X Y h in
        by_test (Under Halfway) (lt b (sub binary64 x d)) _ _
        (λ k. under Halfway _ _ (λ l. agreeing.over_end t (agreeing.rest_inside t X Y g), λ l. absurd (not-le_of_lt g l)))
        (λ k. under Halfway _ _ (λ l. agreeing.over_moved t X Y D g k, λ l. absurd (not-le_of_lt g l))))
        (λ h.
        let g = agreeing.under_sum t X Y h in
        by_test (Under Halfway) (lt (add binary64 y d) zero) _ _
        (λ k. under Halfway _ _ (λ l. absurd (not-le_of_lt l g), λ l. agreeing.under_end t Z (agreeing.sum_inside t X Y g)))
        (λ k. under Halfway _ _ (λ l. absurd (not-le_of_lt l g), λ l. agreeing.under_moved t X Y D Z g k)))

    second : (u v : Float) → Halfway u v → Under Both (agree_second (at u v) (add binary64 x y))
    unfolding agree_second j_capped i_raised
    second u v a =
        by_test (Under Both) (lt b (add binary64 x y)) _ _
        (λ h.
        let g = agreeing.over_sum t X Y h in
        by_test (Under Both) (lt b v) _ _
        (λ k. under Both _ _ (agreeing.rest_inside t X Y g, inside_top t))
        (λ k. under Both _ _ (agreeing.over_inside t (a.0 g) k)))
        (λ h.
        let g = agreeing.under_sum t X Y h in
        by_test (Under Both) (lt u zero) _ _
        (λ k. under Both _ _ (inside_zero Z, agreeing.sum_inside t X Y g))
        (λ k. under Both _ _ (agreeing.under_inside t Z (a.1 g) k)))

    agreed_both : Under Both (agreed (at x y) d)
    unfolding agreed
    agreed_both = over Halfway (λ p. Under Both (agree_second p (add binary64 x y))) _ first second

    stepped_both : (agree : Bool) → Under Both (clipped_step agree (at x y) d)
    unfolding clipped_step
    stepped_both true = agreed_both
    stepped_both false = differed_both

-- ---- in the words of the box

module _ (b : Float) (c : Ceiling b) where
  top : Top binary64 b
  top = top_of Z limit_parts limit_room c.number c.low c.high

  in_again : {w : Float} → Inside binary64 b w → In b w
  in_again h = let g = of_inside Z top h in record { number = h.number; low = g.0; high = g.1 }

  inside : {w : Float} → In b w → Inside binary64 b w
  inside h = inside_of Z top h.number h.low h.high

  -- any step that is no NaN, an infinity too
  pub stepped_held : (agree : Bool) (p : Pair) (d : Float) → BothHeld b p → Number binary64 d → BothHeld b (clipped_step agree p d)
  stepped_held agree p d h D =
      over b (Both b) (λ p. BothHeld b (clipped_step agree p d)) p
      (record { upper_i = h.i.upper; upper_j = h.j.upper; values = (inside h.i.value, inside h.j.value) })
      (λ u v g. back (clipped_step agree (at b u v) d) (stepped_both b top g.0 g.1 D agree))
    where
      back : (p : Pair) → Under b (Both b) p → BothHeld b p
      back p g = record {
        i = record { upper = g.upper_i; value = in_again g.values.0 };
        j = record { upper = g.upper_j; value = in_again g.values.1 };
      }
