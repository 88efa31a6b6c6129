-- The best of the copies is the best of what may be chosen. A closed copy can win only where no number did. Assumes nothing.
use Prim.Native.Nat.{ℕ, zero, suc, ◌<◌}
use mathlib.Core.Bool.{Bool, true, false, cond, true≢false}
use mathlib.Core.Logic.{◌⊎◌, inl, inr}
use mathlib.Core.Path.{◌≡◌, refl, sym, ap, ◌∙◌}
use native.Mathlib.Omega.{arith}
use lib.Dec.{T}
use lib.Ieee.{Float, nan, inf, fin, binary64, fits, neg, lt, le, eq}
use Rattle.extreme.specs.Best.{at_least, above, at_most, held, weighed, best}
use Rattle.extreme.specs.Racing.{below}
use Rattle.extreme.specs.declared.Extreme.{Extreme}
use Rattle.std.specs.Prelude.{is_some}
use Rattle.rounding.proofs.Nan.{lt_nan, le_nan, nan_lt, nan_le}
use Rattle.orderless.specs.Plain.{plain}
use Rattle.orderless.proofs.Plain.{neg_level, lt_level, le_level, lt_neg, le_neg, inf_same}

-- x is a copy of f where it is open; else it is shut, or NaN. It is a value of the format
pub record Copied (unshut : Bool) (shut f x : Float) : Type 0 where
  pub opened : unshut ≡ true → plain x ≡ plain f
  pub closed : unshut ≡ false → (x ≡ shut) ⊎ (x ≡ nan)
  pub fit : T (fits binary64 x)

-- what a test of copies must have to stand for a test of what is copied, turned by `turn`; shut is where the copies start
pub record Stands (takes takes' : Float → Float → Bool) (turn : Float → Float) (start shut : Float) : Type 0 where
  pub begins : start ≡ turn shut
  pub level : (x y : Float) → plain x ≡ plain y → plain (turn x) ≡ plain (turn y)
  pub agrees : (b v x u : Float) → plain b ≡ plain (turn x) → plain v ≡ plain (turn u) → takes b v ≡ takes' x u
  pub passes : (x : Float) → takes' x nan ≡ false
  pub stays : (x : Float) → takes' x shut ≡ true → x ≡ shut
  pub only : (b : Float) → plain b ≡ plain (turn shut) → b ≡ start

-- the same holder and value, but for zero's sign; or nobody worth the name
abbrev pub Same : (Float → Float) → Float → Float → Extreme → Extreme → Type 0
Same turn start shut e x =
    ((e.value ≡ start) × (x.value ≡ shut)) ⊎ ((e.holder ≡ x.holder) × (is_some x.holder ≡ true) × (plain e.value ≡ plain (turn x.value)))

module _ (takes takes' : Float → Float → Bool) (turn : Float → Float) (start shut : Float) (W : Stands takes takes' turn start shut) where
  pub value_level : (e x : Extreme) → Same turn start shut e x → plain e.value ≡ plain (turn x.value)
  value_level e x (inl h) = rw (h.0, h.1, W.begins)
  value_level e x (inr h) = h.2

  -- a candidate's value, turned from what is copied
  step_open : (k : ℕ) (v c : Float) (e x : Extreme) → plain v ≡ plain (turn c) → Same turn start shut e x
      → Same turn start shut (weighed takes true k v e) (weighed takes' true k c x)
  step_open k v c e x q h = go (takes e.value v) (takes' x.value c) (W.agrees e.value v x.value c (value_level e x h) q)
    where
      go : (r z : Bool) → r ≡ z → Same turn start shut (cond r (held v k) e) (cond z (held c k) x)
      go true true w = inr (refl, refl, q)
      go true false w = absurd (true≢false w)
      go false true w = absurd (true≢false (sym w))
      go false false w = h

  step_shut : (k : ℕ) (c : Float) (e x : Extreme) → (c ≡ shut) ⊎ (c ≡ nan) → Same turn start shut e x → Same turn start shut e (weighed takes' true k c x)
  step_shut k c e x (inr n) h = rw (n, W.passes x.value) h
  step_shut k c e x (inl n) h = rw n (go (takes' x.value shut) (W.stays x.value))
    where
      go : (z : Bool) → (z ≡ true → x.value ≡ shut) → Same turn start shut e (cond z (held shut k) x)
      go true w = inl (W.only e.value (value_level e x h ∙ ap (λ (a : Float). plain (turn a)) (w refl)), refl)
      go false w = h

  module _ (may look : ℕ → Bool) (base value copy : ℕ → Float) where
    -- candidate k is looked at, and its copy is open where it may be chosen; or neither
    abbrev pub Seen : ℕ → Type 0
    Seen k = (plain (value k) ≡ plain (turn (base k))) × (((look k ≡ true) × Copied (may k) shut (base k) (copy k)) ⊎ ((look k ≡ false) × (may k ≡ false)))

    step : (k : ℕ) (e x : Extreme) → Seen k → Same turn start shut e x → Same turn start shut (weighed takes (may k) k (value k) e) (weighed takes' (look k) k (copy k) x)
    step k e x (q, inr s) h = rw (s.0, s.1) h
    step k e x (q, inl s) h = rw s.0 (go (may k) refl)
      where
        go : (r : Bool) → may k ≡ r → Same turn start shut (weighed takes r k (value k) e) (weighed takes' true k (copy k) x)
        go true w = step_open k (value k) (copy k) e x (q ∙ sym (W.level (copy k) (base k) (s.1.opened w))) h
        go false w = step_shut k (copy k) e x (s.1.closed w) h

    pub best_same : (a : ℕ) → ((k : ℕ) → k < a → Seen k) → Same turn start shut (best takes start may value a) (best takes' shut look copy a)
    unfolding best
    best_same zero h = inl (refl, refl)
    best_same (suc a) h = step a (best takes start may value a) (best takes' shut look copy a) (h a (omega arith)) (best_same a (λ k l. h k (omega arith)))

-- ---- the four

abbrev pub itself : Float → Float
itself x = x

inf_only : (s : Bool) (b : Float) → plain b ≡ plain (inf s) → b ≡ inf s
unfolding plain
inf_only s b h = inf_same s b h

neg_only : (b : Float) → plain b ≡ plain (neg (inf false)) → b ≡ inf true
unfolding plain neg
neg_only b h = inf_same true b h

le_top : (x : Float) → le (inf false) x ≡ true → x ≡ inf false
unfolding le lt eq
le_top nan h = absurd (true≢false (sym h))
le_top (inf false) h = refl
le_top (inf true) h = absurd (true≢false (sym h))
le_top (fin s m e) h = absurd (true≢false (sym h))

lt_top : (x : Float) → lt (inf false) x ≡ true → x ≡ inf false
unfolding lt
lt_top nan h = absurd (true≢false (sym h))
lt_top (inf s) h = absurd (true≢false (sym h))
lt_top (fin s m e) h = absurd (true≢false (sym h))

pub le_bottom : (x : Float) → le x (inf true) ≡ true → x ≡ inf true
unfolding le lt eq
le_bottom nan h = absurd (true≢false (sym h))
le_bottom (inf false) h = absurd (true≢false (sym h))
le_bottom (inf true) h = refl
le_bottom (fin s m e) h = absurd (true≢false (sym h))

lt_bottom : (x : Float) → lt x (inf true) ≡ true → x ≡ inf true
unfolding lt
lt_bottom nan h = absurd (true≢false (sym h))
lt_bottom (inf false) h = absurd (true≢false (sym h))
lt_bottom (inf true) h = absurd (true≢false (sym h))
lt_bottom (fin s m e) h = absurd (true≢false (sym h))

neg_top : inf true ≡ neg (inf false)
unfolding neg
neg_top = refl

-- the greatest of opposites is the least
pub last_least : Stands at_least at_most neg (inf true) (inf false)
last_least = record {
  begins = neg_top;
  level = neg_level;
  agrees = λ b v x u h k. le_level b (neg x) v (neg u) h k ∙ le_neg x u;
  passes = nan_le;
  stays = le_top;
  only = neg_only;
}

pub first_least : Stands above below neg (inf true) (inf false)
first_least = record {
  begins = neg_top;
  level = neg_level;
  agrees = λ b v x u h k. lt_level b (neg x) v (neg u) h k ∙ lt_neg x u;
  passes = nan_lt;
  stays = lt_top;
  only = neg_only;
}

pub last_greatest : Stands at_least at_least itself (inf true) (inf true)
last_greatest = record {
  begins = refl;
  level = λ x y h. h;
  agrees = λ b v x u h k. le_level b x v u h k;
  passes = le_nan;
  stays = le_bottom;
  only = inf_only true;
}

pub first_greatest : Stands above above itself (inf true) (inf true)
first_greatest = record {
  begins = refl;
  level = λ x y h. h;
  agrees = λ b v x u h k. lt_level b x v u h k;
  passes = lt_nan;
  stays = lt_bottom;
  only = inf_only true;
}

-- by the rule that holds
pub least_by_law : (nu : Bool) → Stands (cond nu above at_least) (cond nu below at_most) neg (inf true) (inf false)
least_by_law true = first_least
least_by_law false = last_least

pub greatest_by : (nu : Bool) → Stands (cond nu above at_least) (cond nu above at_least) itself (inf true) (inf true)
greatest_by true = first_greatest
greatest_by false = last_greatest
