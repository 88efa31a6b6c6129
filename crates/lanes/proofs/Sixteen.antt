-- What `lower_of` picks, and what it picks of a part of a list: the least that is no NaN. Assumes nothing.
use Prim.Native.Nat.{ℕ, zero, suc, ◌+◌, ◌-◌, ◌≤◌, ◌<◌}
use mathlib.Core.Bool.{Bool, true, false, cond}
use mathlib.Core.List.{List}
use mathlib.Core.Logic.{◌⊎◌, inl, inr, ⊎_elim}
use mathlib.Core.Path.{◌≡◌, refl, sym, subst}
use native.Mathlib.Decide.{dec_lt}
use native.Mathlib.Omega.{arith}
use borrow.Author.Count.{below_none, below_more}
use lib.Dec.{T}
use lib.Ieee.{Float, nan, inf, lt, le, is_nan}
use lib.ListN.{get_or}
use Rattle.rounding.specs.Units.{NotNan}
use Rattle.rounding.proofs.Order.{holds, fails, lt_real, lt→le, lt_irrefl, le_refl, le_trans, not_lt}
use Rattle.lanes.specs.Lanes.{lower_of, lane, least_from, least_to}

-- w is x or m, and at most both; of NaNs only m's counts
record Lower (x m w : Float) : Type 0 where
  real : NotNan w
  left : NotNan x → T (le w x)
  right : T (le w m)
  one : (w ≡ x) ⊎ (w ≡ m)

lower_is : (x m : Float) → NotNan m → Lower x m (lower_of x m)
unfolding lower_of
lower_is x m M = go (lt x m) refl
  where
    go : (b : Bool) → lt x m ≡ b → Lower x m (cond b x m)
    go true p = let t = (holds (lt x m)).1 p in record { real = (lt_real x m t).0; left = le_refl x; right = lt→le x m t; one = inl refl }
    go false p = record { real = M; left = λ X. (not_lt x m X M).0 ((fails (lt x m)).1 p); right = le_refl m M; one = inr refl }

-- ---- the least of the places of which P holds

pub record Least (z : ℕ → Float) (P : ℕ → Type 0) (w : Float) : Type 0 where
  pub real : NotNan w
  pub most : (k : ℕ) → P k → NotNan (z k) → T (le w (z k))
  pub one : T (lt w (inf false)) → (k : ℕ) × P k × (w ≡ z k)

module _ {z : ℕ → Float} where
  none : Least z (λ k. ⊥) (inf false)
  unfolding is_nan
  none = record { real = tt; most = λ k p r. absurd p; one = λ h. absurd (lt_irrefl (inf false) h) }

  -- one place more, which may hold a NaN
  added : {P : ℕ → Type 0} {w : Float} (i : ℕ) → Least z P w → Least z (λ k. (k ≡ i) ⊎ P k) (lower_of (z i) w)
  added {P} {w} i L =
      let x = z i in
      let l = lower_is x w L.real in
      record {
        real = l.real;
        most = λ k p r. ⊎_elim (λ e. subst (λ (k : ℕ). NotNan (z k) → T (le (lower_of x w) (z k))) (sym e) l.left r) (λ h. le_trans (lower_of x w) w (z k) l.right (L.most k h r)) p;
        one = λ h. ⊎_elim (λ e. (i, inl refl, e)) (λ e. let q = L.one (rw e at h) in (q.0, inr q.1, rw e q.2)) l.one;
      }

  joined : {P Q : ℕ → Type 0} {x w : Float} → Least z P x → Least z Q w → Least z (λ k. P k ⊎ Q k) (lower_of x w)
  joined {P} {Q} {x} {w} K L =
      let l = lower_is x w L.real in
      record {
        real = l.real;
        most = λ k p r. ⊎_elim (λ h. le_trans (lower_of x w) x (z k) (l.left K.real) (K.most k h r)) (λ h. le_trans (lower_of x w) w (z k) l.right (L.most k h r)) p;
        one = λ h. ⊎_elim (λ e. let q = K.one (rw e at h) in (q.0, inl q.1, rw e q.2)) (λ e. let q = L.one (rw e at h) in (q.0, inr q.1, rw e q.2)) l.one;
      }

  covered : {P Q : ℕ → Type 0} {w : Float} → ((k : ℕ) → P k → Q k) → ((k : ℕ) → Q k → P k) → Least z P w → Least z Q w
  covered to from L = record { real = L.real; most = λ k q r. L.most k (from k q) r; one = λ h. let q = L.one h in (q.0, to q.0 q.1, q.2) }

-- the places from t on, up to e
abbrev pub Span : ℕ → ℕ → ℕ → Type 0
Span t e k = (t ≤ k) × (k < e)

abbrev pub at : List Float → ℕ → Float
at f k = get_or f k nan

pub least_to_law : (f : List Float) (t m : ℕ) → Least (at f) (Span t (t + m)) (least_to f t m)
unfolding least_to
least_to_law f t zero = covered (λ k p. absurd p) (λ k q. omega arith) none
least_to_law f t (suc m) = covered to from (added (t + m) (least_to_law f t m))
  where
    to : (k : ℕ) → (k ≡ t + m) ⊎ Span t (t + m) k → Span t (t + suc m) k
    to k (inl e) = (omega arith, omega arith)
    to k (inr s) = (omega arith, omega arith)

    from : (k : ℕ) → Span t (t + suc m) k → (k ≡ t + m) ⊎ Span t (t + m) k
    from k s = go (dec_lt k (t + m))
      where
        go : Dec (k < t + m) → (k ≡ t + m) ⊎ Span t (t + m) k
        go (yes h) = inr (s.0, h)
        go (no h) = inl (omega arith)

-- ---- sixteen in eight lanes

eight : (P : ℕ → Type 0) → P 0 → P 1 → P 2 → P 3 → P 4 → P 5 → P 6 → P 7 → (k : ℕ) → k < 8 → P k
eight P a b c d e f g h =
    below_more P 7 (below_more P 6 (below_more P 5 (below_more P 4 (below_more P 3 (below_more P 2 (below_more P 1 (below_more P 0 (below_none P) a) b) c) d) e) f) g) h

module _ (f : List Float) (t : ℕ) where
  abbrev InLane : ℕ → ℕ → Type 0
  InLane j k = (k ≡ t + 8 + j) ⊎ ((k ≡ t + j) ⊎ ⊥)

  lane_least : (j : ℕ) → Least (at f) (InLane j) (lane f t j)
  lane_least j = added (t + 8 + j) (added (t + j) none)

  inside : (j k : ℕ) → j < 8 → InLane j k → Span t (t + 16) k
  inside j k l (inl e) = (omega arith, omega arith)
  inside j k l (inr (inl e)) = (omega arith, omega arith)
  inside j k l (inr (inr e)) = absurd e

  abbrev InTree : ℕ → Type 0
  InTree k = ((InLane 0 k ⊎ InLane 4 k) ⊎ (InLane 2 k ⊎ InLane 6 k)) ⊎ ((InLane 1 k ⊎ InLane 5 k) ⊎ (InLane 3 k ⊎ InLane 7 k))

  to : (k : ℕ) → InTree k → Span t (t + 16) k
  to k =
      ⊎_elim (⊎_elim (⊎_elim (inside 0 k (omega arith)) (inside 4 k (omega arith))) (⊎_elim (inside 2 k (omega arith)) (inside 6 k (omega arith))))
      (⊎_elim (⊎_elim (inside 1 k (omega arith)) (inside 5 k (omega arith))) (⊎_elim (inside 3 k (omega arith)) (inside 7 k (omega arith))))

  from : (k : ℕ) → Span t (t + 16) k → InTree k
  from k s = go (dec_lt k (t + 8))
    where
      by : (j : ℕ) → j < 8 → InLane j k → InTree k
      by =
          eight (λ j. InLane j k → InTree k) (λ h. inl (inl (inl h))) (λ h. inr (inl (inl h))) (λ h. inl (inr (inl h))) (λ h. inr (inr (inl h)))
          (λ h. inl (inl (inr h))) (λ h. inr (inl (inr h))) (λ h. inl (inr (inr h))) (λ h. inr (inr (inr h)))

      go : Dec (k < t + 8) → InTree k
      go (yes h) = by (k - t) (omega arith) (inr (inl (omega arith)))
      go (no h) = by (k - t - 8) (omega arith) (inl (omega arith))

  pub least_from_law : Least (at f) (Span t (t + 16)) (least_from f t)
  unfolding least_from
  least_from_law =
      let l = lane_least in
      covered to from (joined (joined (joined (l 0) (l 4)) (joined (l 2) (l 6))) (joined (joined (l 1) (l 5)) (joined (l 3) (l 7))))
