-- The place that the lanes lead to is the one that the race over the whole list names: the first of equals with the nu rule, the last without.
-- Assumes nothing.
use Prim.Native.Nat.{ℕ, zero, suc, ◌+◌, ◌-◌, ◌*◌, ◌/◌, ◌≤◌, ◌<◌}
use mathlib.Core.Bool.{Bool, true, false, not, cond}
use mathlib.Core.List.{List}
use mathlib.Core.Logic.{◌⊎◌, inl, inr, ⊎_elim}
use mathlib.Core.Path.{◌≡◌, refl, ap, ap₂, subst, ◌∙◌}
use native.Mathlib.Decide.{dec_lt, ℕ_discrete}
use native.Mathlib.Omega.{arith}
use borrow.Author.Tests.{leb-true, leb-false}
use lib.Dec.{T, T_not, not_T, leb}
use lib.Ieee.{Float, nan, inf, lt, le, eq}
use lib.ListN.{get_or}
use Rattle.std.specs.Prelude.{Option, Some, None}
use Rattle.extreme.specs.Best.{at_most, held, best}
use Rattle.extreme.specs.Racing.{racing, below, place_in, race_of}
use Rattle.extreme.specs.declared.Extreme.{Extreme}
use Rattle.extreme.specs.declared.Race.{Race}
use Rattle.extreme.proofs.Rule.{Rule, Ranks, Holds, Shut, around, best_rule}
use Rattle.extreme.proofs.Tests.{at_most_ranks, last_least}
use Rattle.orderless.proofs.Unique.{below_ranks, last_at, first_at}
use Rattle.rounding.specs.Units.{NotNan}
use Rattle.rounding.proofs.Order.{holds, fails, lt_real, lt→le, lt_irrefl, le_refl, le_real, le_trans, lt_le_trans, le_lt_trans, not_lt, not_le, eq_le, eq_refl}
use Rattle.lanes.specs.Lanes.{least_from, least_to, least_in, least_by, sixteen_of, end_of, last_in, first_in, seat_in}
use Rattle.lanes.proofs.Sixteen.{Least, Span, at, least_to_law, least_from_law}

-- k lies on the side of i where an equal would be chosen instead
abbrev Beaten : Bool → ℕ → ℕ → Type 0
Beaten true i k = k < i
Beaten false i k = i < k

-- ---- the place in a part of the list that equals v

record Seat (nu : Bool) (f : List Float) (t e : ℕ) (v : Float) (i : ℕ) : Type 0 where
  low : t ≤ i
  high : i < e
  same : T (eq (at f i) v)
  alone : (k : ℕ) → Span t e k → Beaten nu i k → T (not (eq (at f k) v))

last_in_law : (f : List Float) (v : Float) (t m k : ℕ) → Span t (t + m) k → T (eq (at f k) v) → Seat false f t (t + m) v (last_in f v t m)
unfolding last_in
last_in_law f v t zero k s h = absurd (omega arith)
last_in_law f v t (suc m) k s h = go (eq (at f (t + m)) v) refl (ℕ_discrete k (t + m)) (last_in_law f v t m k)
  where
    go : (b : Bool) → eq (at f (t + m)) v ≡ b → Dec (k ≡ t + m) → (Span t (t + m) k → T (eq (at f k) v) → Seat false f t (t + m) v (last_in f v t m))
        → Seat false f t (t + suc m) v (cond b (t + m) (last_in f v t m))
    go true p d r = record { low = omega arith; high = omega arith; same = (holds (eq (at f (t + m)) v)).1 p; alone = λ j q l. absurd (omega arith) }
    go false p (yes e) r = absurd (T_not (eq (at f (t + m)) v) ((fails (eq (at f (t + m)) v)).1 p) (rw e at h))
    go false p (no e) r =
        let z = r (s.0, omega arith) h in
        let a = z.low in
        let b = z.high in
        record { low = z.low; high = omega arith; same = z.same; alone = λ j q l. by j q l (ℕ_discrete j (t + m)) z }
      where
        by : (j : ℕ) → Span t (t + suc m) j → last_in f v t m < j → Dec (j ≡ t + m) → Seat false f t (t + m) v (last_in f v t m) → T (not (eq (at f j) v))
        by j q l (yes u) z = rw u ((fails (eq (at f (t + m)) v)).1 p)
        by j q l (no u) z = z.alone j (q.0, omega arith) l

first_in_law : (f : List Float) (v : Float) (d m t k : ℕ) → Span t (t + m) k → T (eq (at f k) v) → Seat true f t (t + m) v (first_in f v d t m)
unfolding first_in
first_in_law f v d zero t k s h = absurd (omega arith)
first_in_law f v d (suc m) t k s h = go (eq (at f t) v) refl (ℕ_discrete k t) (first_in_law f v d m (suc t) k)
  where
    go : (b : Bool) → eq (at f t) v ≡ b → Dec (k ≡ t) → (Span (suc t) (suc t + m) k → T (eq (at f k) v) → Seat true f (suc t) (suc t + m) v (first_in f v d (suc t) m))
        → Seat true f t (t + suc m) v (cond b t (first_in f v d (suc t) m))
    go true p e r = record { low = omega arith; high = omega arith; same = (holds (eq (at f t) v)).1 p; alone = λ j q l. absurd (omega arith) }
    go false p (yes e) r = absurd (T_not (eq (at f t) v) ((fails (eq (at f t) v)).1 p) (rw e at h))
    go false p (no e) r =
        let z = r (omega arith, omega arith) h in
        let a = z.low in
        let b = z.high in
        record { low = omega arith; high = omega arith; same = z.same; alone = λ j q l. by j q l (ℕ_discrete j t) z }
      where
        by : (j : ℕ) → Span t (t + suc m) j → j < first_in f v d (suc t) m → Dec (j ≡ t) → Seat true f (suc t) (suc t + m) v (first_in f v d (suc t) m) → T (not (eq (at f j) v))
        by j q l (yes u) z = rw u ((fails (eq (at f t) v)).1 p)
        by j q l (no u) z = z.alone j (omega arith, omega arith) l

seat_in_law : (nu : Bool) (f : List Float) (v : Float) (t m k : ℕ) → Span t (t + m) k → T (eq (at f k) v) → Seat nu f t (t + m) v (seat_in nu f v t m)
seat_in_law true f v t m k s h = first_in_law f v t m t k s h
seat_in_law false f v t m k s h = last_in_law f v t m k s h

-- ---- sixteen for sixteen

least_in_law : (f : List Float) (o n j : ℕ) → 16 * j ≤ n → Least (at f) (Span (o + 16 * j) (o + end_of (16 * j) n)) (least_in f o n j)
least_in_law f o n j h = go (leb (16 * j + 16) n)
  where
    go : (b : Bool) → Least (at f) (Span (o + 16 * j) (o + cond b (16 * j + 16) n)) (cond b (least_from f (o + 16 * j)) (least_to f (o + 16 * j) (n - 16 * j)))
    go true = let e : o + (16 * j + 16) ≡ o + 16 * j + 16 = omega arith in rw e (least_from_law f (o + 16 * j))
    go false = let e : o + n ≡ o + 16 * j + (n - 16 * j) = omega arith in rw e (least_to_law f (o + 16 * j) (n - 16 * j))

module _ (f : List Float) (o n : ℕ) where
  abbrev of : ℕ → Float
  of j = least_in f o n j

  abbrev count : ℕ
  count = suc (n / 16)

  of_real : (j : ℕ) → j < count → NotNan (of j)
  of_real j l = (least_in_law f o n j (omega arith)).real

  -- sixteen c have the least value, and none on the beaten side has it too
  record Wins (nu : Bool) (c : ℕ) : Type 0 where
    inside : c < count
    some : T (lt (of c) (inf false))
    most : (j : ℕ) → j < count → T (le (of c) (of j))
    strict : (j : ℕ) → j < count → Beaten nu c j → T (lt (of c) (of j))

  wins : (nu : Bool) (c : ℕ) → (least_by nu f o n count).holder ≡ Some c → T (lt (of c) (inf false)) → Wins nu c
  wins true c q x =
      let h = (best_rule below below_ranks (inf false) (λ j. true) of count).holds c q in
      let l = h.inside in
      let strict : (j : ℕ) → j < c → T (lt (of c) (of j)) = λ j u. ahead j (omega arith) (h.earlier j u tt) (lt (of j) (inf false)) refl in
      record {
        inside = l;
        some = x;
        most =
            around (λ j. T (le (of c) (of j))) c count (λ j u. lt→le (of c) (of j) (strict j u)) (le_refl (of c) (of_real c l))
            (λ j u y. (not_lt (of j) (of c) (of_real j y) (of_real c l)).0 (h.later j u y tt));
        strict = λ j y u. strict j u;
      }
    where
      ahead : (j : ℕ) → j < count → (T (lt (of j) (inf false)) → T (lt (of c) (of j))) → (b : Bool) → lt (of j) (inf false) ≡ b → T (lt (of c) (of j))
      ahead j l e true p = e ((holds (lt (of j) (inf false))).1 p)
      ahead j l e false p =
          lt_le_trans (of c) (inf false) (of j) x ((not_lt (of j) (inf false) (of_real j l) (lt_real (of c) (inf false) x).1).0 ((fails (lt (of j) (inf false))).1 p))
  wins false c q x =
      let h = (last_least (λ j. true) of count).holds c q in
      record {
        inside = h.inside;
        some = x;
        most = λ j l. h.most j l tt (of_real j l);
        strict = λ j l u. h.last j u l tt (of_real j l);
      }

-- ---- the place in the sixteen that win is the one of the whole list

shifted : (nu : Bool) (o p k : ℕ) → Beaten nu p k → Beaten nu (o + p) (o + k)
shifted true o p k h = omega arith
shifted false o p k h = omega arith

sides : (nu : Bool) (p k : ℕ) → Beaten nu p k → (k / 16 ≡ p / 16) ⊎ Beaten nu (p / 16) (k / 16)
sides true p k h = elim (dec_lt (k / 16) (p / 16)) [ yes l ↦ inr l | no l ↦ inl (omega arith) ]
sides false p k h = elim (dec_lt (p / 16) (k / 16)) [ yes l ↦ inr l | no l ↦ inl (omega arith) ]

end_most : (h n : ℕ) → (end_of h n ≤ h + 16) × (end_of h n ≤ n)
end_most h n = go (leb (h + 16) n) refl
  where
    go : (b : Bool) → leb (h + 16) n ≡ b → (cond b (h + 16) n ≤ h + 16) × (cond b (h + 16) n ≤ n)
    go true p = (omega arith, leb-true (h + 16) n p)
    go false p = let l = leb-false (h + 16) n p in (omega arith, omega arith)

end_least : (h n k : ℕ) → k < h + 16 → k < n → k < end_of h n
end_least h n k a b = go (leb (h + 16) n)
  where
    go : (t : Bool) → k < cond t (h + 16) n
    go true = a
    go false = b

module _ (f : List Float) (o n : ℕ) (nu : Bool) (c p : ℕ) (W : Wins f o n nu c) (S : Seat nu f (o + 16 * c) (o + end_of (16 * c) n) (least_in f o n c) (o + p)) where
  abbrev v : Float
  v = least_in f o n c

  abbrev value : ℕ → Float
  value k = get_or f (o + k) nan

  in_own : (p / 16 ≡ c) × (p < n)
  in_own =
      let a = S.low in
      let b = S.high in
      let e = end_most (16 * c) n in
      (omega arith, omega arith)

  same_both : T (le (value p) v) × T (le v (value p))
  same_both = (eq_le (value p) v).0 S.same

  in_part : (k : ℕ) → k < n → Span (o + 16 * (k / 16)) (o + end_of (16 * (k / 16)) n) (o + k)
  in_part k l =
      let e = end_least (16 * (k / 16)) n k (omega arith) l in
      (omega arith, omega arith)

  at_most_law : (k : ℕ) → k < n → NotNan (value k) → T (le (least_in f o n (k / 16)) (value k))
  at_most_law k l r = (least_in_law f o n (k / 16) (omega arith)).most (o + k) (in_part k l) r

  v_most : (k : ℕ) → k < n → NotNan (value k) → T (le v (value k))
  v_most k l r = le_trans v (least_in f o n (k / 16)) (value k) (W.most (k / 16) (omega arith)) (at_most_law k l r)

  most : (k : ℕ) → k < n → NotNan (value k) → T (le (value p) (value k))
  most k l r = le_trans (value p) v (value k) same_both.0 (v_most k l r)

  -- at most and not equal is below
  strictly : (x : Float) → T (le v x) → T (not (eq x v)) → T (lt v x)
  strictly x l d =
      let r = le_real v x l in
      (not_le x v r.1 r.0).0 (not_T (le x v) (λ u. T_not (eq x v) d ((eq_le x v).1 (u, l))))

  strict : (k : ℕ) → k < n → Beaten nu p k → NotNan (value k) → T (lt (value p) (value k))
  strict k l b r =
      le_lt_trans (value p) v (value k) same_both.0
      (⊎_elim
      (λ e.
      let q : k / 16 ≡ c = e ∙ in_own.0 in
      strictly (value k) (v_most k l r) (S.alone (o + k) (rw q at (in_part k l)) (shifted nu o p k b)))
      (λ d. lt_le_trans v (least_in f o n (k / 16)) (value k) (W.strict (k / 16) (omega arith) (rw in_own.0 at d)) (at_most_law k l r))
      (sides nu p k b))

  real : NotNan (value p)
  real = (le_real (value p) v same_both.0).0

  some : T (lt (value p) (inf false))
  some = le_lt_trans (value p) v (inf false) same_both.0 W.some

found : (nu : Bool) (f : List Float) (o n c p : ℕ) → Wins f o n nu c → Seat nu f (o + 16 * c) (o + end_of (16 * c) n) (least_in f o n c) (o + p)
    → best (cond nu below at_most) (inf false) (λ k. true) (λ k. get_or f (o + k) nan) n ≡ held (get_or f (o + p) nan) p
found true f o n c p W S =
    first_at (λ k. get_or f (o + k) nan) n p (in_own f o n true c p W S).1 (real f o n true c p W S) (most f o n true c p W S) (some f o n true c p W S)
    (λ k l r. let h = (in_own f o n true c p W S).1 in strict f o n true c p W S k (omega arith) l r)
found false f o n c p W S =
    last_at (λ k. get_or f (o + k) nan) n p (in_own f o n false c p W S).1 (real f o n false c p W S) (most f o n false c p W S)
    (λ k l h r. strict f o n false c p W S k h l r)

-- ---- from what `least` leaves

ranks : (nu : Bool) → Ranks (cond nu below at_most)
ranks true = below_ranks
ranks false = at_most_ranks

-- i is a place of the list, and the race over all of it ends there
pub record Placed (nu : Bool) (f : List Float) (o n i : ℕ) : Type 0 where
  pub low : o ≤ i
  pub high : i < o + n
  pub race : racing (get_or f i nan) (i - o) ≡ race_of n (best (cond nu below at_most) (inf false) (λ k. true) (λ k. get_or f (o + k) nan) n)

module _ (nu : Bool) (f : List Float) (o n : ℕ) where
  seat_placed : (c i : ℕ) → Wins f o n nu c → Seat nu f (o + 16 * c) (o + end_of (16 * c) n) (least_in f o n c) i → Placed nu f o n i
  seat_placed c i W S =
      let a = S.low in
      let b = S.high in
      let e = end_most (16 * c) n in
      let q : i ≡ o + (i - o) = omega arith in
      record {
        low = omega arith;
        high = omega arith;
        race =
            rw (found nu f o n c (i - o) W (subst (Seat nu f (o + 16 * c) (o + end_of (16 * c) n) (least_in f o n c)) q S))
            (ap (λ (k : ℕ). racing (get_or f k nan) (i - o)) q);
      }

  -- the search in the sixteen that win finds it
  sought_placed : (c : ℕ) → Wins f o n nu c → Placed nu f o n (seat_in nu f (least_in f o n c) (o + 16 * c) (o + end_of (16 * c) n - (o + 16 * c)))
  sought_placed c W =
      let v = least_in f o n c in
      let t = o + 16 * c in
      let m = o + end_of (16 * c) n - t in
      let l = W.inside in
      let L = least_in_law f o n c (omega arith) in
      let k = L.one W.some in
      let a = k.1.0 in
      let b = k.1.1 in
      let e : t + m ≡ o + end_of (16 * c) n = omega arith in
      let same : T (eq (at f k.0) v) = subst (λ (x : Float). T (eq x v)) k.2 (eq_refl v L.real) in
      seat_placed c (seat_in nu f v t m) W (subst (λ (e : ℕ). Seat nu f t e v (seat_in nu f v t m)) e (seat_in_law nu f v t m k.0 (a, omega arith) same))

  placed : (r : Race) → r ≡ sixteen_of nu f o n → T (lt r.value (inf false)) → Placed nu f o n (seat_in nu f r.value (o + r.at) (o + end_of r.at n - (o + r.at)))
  placed r e h = go E.holder refl
    where
      E : Extreme
      E = least_by nu f o n (suc (n / 16))

      rule : Rule (inf false) (least_in f o n) (Holds (cond nu below at_most) (inf false) (λ j. true) (least_in f o n) (suc (n / 16))) (Shut (cond nu below at_most) (inf false) (λ j. true) (least_in f o n) (suc (n / 16))) E
      rule = best_rule (cond nu below at_most) (ranks nu) (inf false) (λ j. true) (least_in f o n) (suc (n / 16))

      go : (q : Option ℕ) → E.holder ≡ q → Placed nu f o n (seat_in nu f r.value (o + r.at) (o + end_of r.at n - (o + r.at)))
      go (Some c) q =
          let x : r ≡ racing (least_in f o n c) (16 * c) = e ∙ ap₂ (λ (v : Float) (q : Option ℕ). racing v (16 * place_in 0 q)) (rule.value_is c q) q in
          rw x (sought_placed c (wins f o n nu c q (rw x at h)))
      go None q = absurd (lt_irrefl (inf false) (subst (λ (v : Float). T (lt v (inf false))) (ap (λ (r : Race). r.value) e ∙ rule.start_is q) h))

  pub placed_at : (r : Race) (e i : ℕ) → r ≡ sixteen_of nu f o n → lt r.value (inf false) ≡ true → e ≡ end_of r.at n
      → i ≡ seat_in nu f r.value (o + r.at) (o + e - (o + r.at)) → Placed nu f o n i
  placed_at r e i p h q s = rw (s, q) (placed r p ((holds (lt r.value (inf false))).1 h))
