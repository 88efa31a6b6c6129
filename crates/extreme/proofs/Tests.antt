-- The rule of each of the three tests, in the words of specs/Rule.antt: who the running best names is the one that holds, and only one does.
-- Assumes nothing.
use Prim.Native.Nat.{ℕ, ◌<◌}
use mathlib.Core.Bool.{Bool, true, false, not}
use mathlib.Core.Logic.{◌⊎◌, inl, inr, ⊎_elim, ◌↔◌}
use mathlib.Core.Path.{◌≡◌, refl}
use lib.Dec.{T, T_not, not_T}
use lib.Ieee.{Float, nan, inf, fin, lt, le}
use Rattle.rounding.specs.Units.{NotNan}
use Rattle.rounding.proofs.Order.{le_real, lt_real, lt→le, le_refl, le_trans, lt_le_trans, le_lt_trans, lt_irrefl, not_le, not_lt, least, greatest}
use Rattle.extreme.specs.Best.{at_least, above, at_most, best}
use Rattle.extreme.specs.Rule.{Last, LastGreatest, LastLeast, FirstGreatest}
use Rattle.extreme.specs.declared.Extreme.{Extreme}
use Rattle.extreme.proofs.Rule.{Rule, reworded, Words, in_words, Ranks, Holds, Shut, side, around, best_rule}

pub at_least_ranks : Ranks at_least
at_least_ranks =
    record {
      through = le_trans;
      past = λ s x y z a b c. le_trans y x z (lt→le y x ((not_le x y (le_real x z c).0 (le_real s y a).1).0 b)) c;
    }

pub above_ranks : Ranks above
above_ranks =
    record {
      through = λ x y z a b. lt_le_trans x y z a (lt→le y z b);
      past = λ s x y z a b c. le_lt_trans y x z ((not_lt x y (lt_real x z c).0 (lt_real s y a).1).0 b) c;
    }

pub at_most_ranks : Ranks at_most
at_most_ranks =
    record {
      through = λ x y z a b. le_trans z y x b a;
      past = λ s x y z a b c. le_trans z x y c (lt→le x y ((not_le y x (le_real y s a).0 (le_real z x c).1).0 b));
    }

-- ---- the last of the best numbers

-- no eligible value is a number
abbrev pub NoNumber : (ℕ → Bool) → (ℕ → Float) → ℕ → Type 0
NoNumber may value m = (k : ℕ) → k < m → T (may k) → NotNan (value k) → ⊥

module _ (R S : Float → Float → Bool) (start : Float) (enters : (x : Float) → T (R start x) ↔ NotNan x) (itself : (x : Float) → NotNan x → T (R x x))
    (weak : (x y : Float) → T (S x y) → T (R x y)) (turn : (x y : Float) → NotNan x → NotNan y → T (not (R x y)) → T (S y x)) where
  last_rule : (may : ℕ → Bool) (value : ℕ → Float) (m : ℕ) {e : Extreme}
      → Rule start value (Holds R start may value m) (Shut R start may value m) e → Rule start value (Last R S may value m) (NoNumber may value m) e
  last_rule may value m =
      reworded holder (
        λ s k l u n. T_not (R start (value k)) (s k l u) ((enters (value k)).1 n),
        λ z k l u. not_T (R start (value k)) (λ t. z k l u ((enters (value k)).0 t)),
      )
    where
      holder : (i : ℕ) → Holds R start may value m i → Last R S may value m i
      holder i g =
          let real : NotNan (value i) = (enters (value i)).0 g.enters in
          let behind : (k : ℕ) → i < k → k < m → T (may k) → NotNan (value k) → T (S (value k) (value i)) = λ k h l u n. turn (value i) (value k) real n (g.later k h l u) in
          record {
            inside = g.inside;
            eligible = g.eligible;
            number = real;
            most =
                around (λ k. T (may k) → NotNan (value k) → T (R (value k) (value i))) i m
                (λ k l u n. g.earlier k l u ((enters (value k)).1 n))
                (λ u n. itself (value i) n)
                (λ k h l u n. weak (value k) (value i) (behind k h l u n));
            last = behind;
          }

module _ (may : ℕ → Bool) (value : ℕ → Float) (m : ℕ) where
  -- minus infinity may hold it, a NaN never does
  pub last_greatest : Rule (inf true) value (LastGreatest may value m) (NoNumber may value m) (best at_least (inf true) may value m)
  last_greatest =
      last_rule le lt (inf true) (λ x. (λ t. (le_real (inf true) x t).1, least x)) le_refl lt→le (λ x y p q. (not_le x y p q).0) may value m
      (best_rule at_least at_least_ranks (inf true) may value m)

  -- infinity may hold it, a NaN never does
  pub last_least : Rule (inf false) value (LastLeast may value m) (NoNumber may value m) (best at_most (inf false) may value m)
  last_least =
      last_rule at_most (λ x y. lt y x) (inf false) (λ x. (λ t. (le_real x (inf false) t).0, greatest x)) le_refl (λ x y. lt→le y x) (λ x y p q. (not_le y x q p).0) may value m
      (best_rule at_most at_most_ranks (inf false) may value m)

-- ---- the first of the greatest numbers

-- every eligible value is a NaN or minus infinity
abbrev pub Lowest : (ℕ → Bool) → (ℕ → Float) → ℕ → Type 0
Lowest may value m = (k : ℕ) → k < m → T (may k) → (value k ≡ nan) ⊎ (value k ≡ inf true)

lowest : (x : Float) → T (not (lt (inf true) x)) ↔ ((x ≡ nan) ⊎ (x ≡ inf true))
unfolding lt
lowest x = (low x, λ s. ⊎_elim (λ e. rw e tt) (λ e. rw e tt) s)
  where
    low : (x : Float) → T (not (lt (inf true) x)) → (x ≡ nan) ⊎ (x ≡ inf true)
    low nan t = inl refl
    low (inf true) t = inr refl
    low (inf false) t = absurd t
    low (fin s n d) t = absurd t

module _ (may : ℕ → Bool) (value : ℕ → Float) (m : ℕ) where
  pub first_greatest : Rule (inf true) value (FirstGreatest may value m) (Lowest may value m) (best above (inf true) may value m)
  first_greatest =
      reworded holder (λ s k l u. (lowest (value k)).0 (s k l u), λ z k l u. (lowest (value k)).1 (z k l u))
      (best_rule above above_ranks (inf true) may value m)
    where
      either : (b : Bool) → T b ⊎ T (not b)
      either true = inl tt
      either false = inr tt

      holder : (i : ℕ) → Holds above (inf true) may value m i → FirstGreatest may value m i
      holder i g =
          let real : NotNan (value i) = (lt_real (inf true) (value i) g.enters).1 in
          let ahead : (k : ℕ) → k < i → T (may k) → NotNan (value k) → T (lt (value k) (value i)) =
          λ k l u n. ⊎_elim (g.earlier k l u) (λ t. le_lt_trans (value k) (inf true) (value i) ((not_lt (inf true) (value k) (lt_real (inf true) (value i) g.enters).0 n).0 t) g.enters) (either (lt (inf true) (value k))) in
          record {
            inside = g.inside;
            eligible = g.eligible;
            number = g.enters;
            most =
                around (λ k. T (may k) → NotNan (value k) → T (le (value k) (value i))) i m
                (λ k l u n. lt→le (value k) (value i) (ahead k l u n))
                (λ u n. le_refl (value i) n)
                (λ k h l u n. (not_lt (value i) (value k) real n).0 (g.later k h l u));
            first = ahead;
          }

-- ---- the words name one holder

one_of : (P : ℕ → ℕ → Type 0) → ((i j : ℕ) → i < j → P i j → ⊥) → ((i j : ℕ) → P i j → P j i) → (i j : ℕ) → P i j → i ≡ j
one_of P clash turn i j w = ⊎_elim (λ e. e) (⊎_elim (λ l. absurd (clash i j l w)) (λ l. absurd (clash j i l (turn i j w)))) (side i j)

last_one : (R S : Float → Float → Bool) → ((x y : Float) → T (S x y) → T (R y x) → ⊥) → (may : ℕ → Bool) (value : ℕ → Float) (m i j : ℕ)
    → Last R S may value m i → Last R S may value m j → i ≡ j
last_one R S clash may value m i j g h =
    one_of (λ a b. Last R S may value m a × Last R S may value m b)
    (λ a b l w. clash (value b) (value a) (w.0.last b l w.1.inside w.1.eligible w.1.number) (w.1.most a w.0.inside w.0.eligible w.0.number))
    (λ a b w. (w.1, w.0)) i j (g, h)

above_below : (x y : Float) → T (lt x y) → T (le y x) → ⊥
above_below x y l h = lt_irrefl x (lt_le_trans x y x l h)

module _ (may : ℕ → Bool) (value : ℕ → Float) (m : ℕ) where
  pub greatest_one : (i j : ℕ) → LastGreatest may value m i → LastGreatest may value m j → i ≡ j
  greatest_one = last_one le lt above_below may value m

  pub least_one : (i j : ℕ) → LastLeast may value m i → LastLeast may value m j → i ≡ j
  least_one = last_one (λ x y. le y x) (λ x y. lt y x) (λ x y. above_below y x) may value m

  pub first_one : (i j : ℕ) → FirstGreatest may value m i → FirstGreatest may value m j → i ≡ j
  first_one i j g h =
      one_of (λ a b. FirstGreatest may value m a × FirstGreatest may value m b)
      (λ a b l w. above_below (value a) (value b) (w.1.first a l w.0.eligible (lt_real (inf true) (value a) w.0.number).1) (w.0.most b w.1.inside w.1.eligible (lt_real (inf true) (value b) w.1.number).1))
      (λ a b w. (w.1, w.0)) i j (g, h)

  some_greatest : (i : ℕ) → LastGreatest may value m i → NoNumber may value m → ⊥
  some_greatest i g z = z i g.inside g.eligible g.number

  some_least : (i : ℕ) → LastLeast may value m i → NoNumber may value m → ⊥
  some_least i g z = z i g.inside g.eligible g.number

  some_first : (i : ℕ) → FirstGreatest may value m i → Lowest may value m → ⊥
  some_first i g z = T_not (lt (inf true) (value i)) ((lowest (value i)).1 (z i g.inside g.eligible)) g.number

  -- so an extreme is what the words say, and nothing else is
  pub greatest_words : Words (inf true) value (LastGreatest may value m) (best at_least (inf true) may value m)
  greatest_words = in_words (last_greatest may value m) greatest_one some_greatest

  pub least_words : Words (inf false) value (LastLeast may value m) (best at_most (inf false) may value m)
  least_words = in_words (last_least may value m) least_one some_least

  pub first_words : Words (inf true) value (FirstGreatest may value m) (best above (inf true) may value m)
  first_words = in_words (first_greatest may value m) first_one some_first
