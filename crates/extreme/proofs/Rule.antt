-- The rule of a running extreme, of any test with two laws. Assumes nothing.
use Prim.Native.Nat.{ℕ, zero, suc, ◌<◌, suc-le-suc, zero-le}
use mathlib.Core.Bool.{Bool, true, false, not, ◌&&◌, cond}
use mathlib.Core.Logic.{◌⊎◌, inl, inr, ⊎_elim, ◌↔◌}
use mathlib.Core.Path.{◌≡◌, refl, sym, subst, ap₂, ◌∙◌}
use native.Mathlib.Omega.{arith}
use lib.Dec.{T, T_not}
use lib.Ieee.{Float, inf}
use Rattle.std.specs.Prelude.{Option, Some, None}
use Rattle.extreme.specs.Best.{held, weighed, best, Below}
use Rattle.extreme.specs.Rule.{Top}
use Rattle.extreme.specs.declared.Extreme.{Extreme}

-- an extreme by its value and holder
pub extreme_is : (e : Extreme) (v : Float) (h : Option ℕ) → e.value ≡ v → e.holder ≡ h → e ≡ record { value = v; holder = h }
extreme_is e v h = ap₂ (λ (x : Float) (y : Option ℕ). record { value = x; holder = y })

-- the rule of an extreme e: what its holder satisfies, and exactly when it has none
pub record Rule (start : Float) (value : ℕ → Float) (Holds : ℕ → Type 0) (Absent : Type 0) (e : Extreme) : Type 0 where
  pub holds : (i : ℕ) → e.holder ≡ Some i → Holds i
  pub value_is : (i : ℕ) → e.holder ≡ Some i → e.value ≡ value i
  pub start_is : e.holder ≡ None → e.value ≡ start
  pub nobody : (e.holder ≡ None) ↔ Absent

-- the same in other words
pub reworded : {start : Float} {value : ℕ → Float} {H H' : ℕ → Type 0} {N N' : Type 0} {e : Extreme}
    → ((i : ℕ) → H i → H' i) → (N ↔ N') → Rule start value H N e → Rule start value H' N' e
reworded h n r =
    record {
      holds = λ i q. h i (r.holds i q);
      value_is = r.value_is;
      start_is = r.start_is;
      nobody = (λ q. n.0 (r.nobody.0 q), λ z. r.nobody.1 (n.1 z));
    }

-- an extreme in words: its holder is the one that holds, and its value is his, or the start's where nobody does
pub record Words (start : Float) (value : ℕ → Float) (Holds : ℕ → Type 0) (e : Extreme) : Type 0 where
  pub named : (i : ℕ) → (e.holder ≡ Some i) ↔ Holds i
  pub one : (i j : ℕ) → Holds i → Holds j → i ≡ j
  pub nobody : (e.holder ≡ None) ↔ ((i : ℕ) → Holds i → ⊥)
  pub value_is : (i : ℕ) → e.holder ≡ Some i → e.value ≡ value i
  pub start_is : e.holder ≡ None → e.value ≡ start

-- where one holds at the most, and nobody only where there is none
pub in_words : {start : Float} {value : ℕ → Float} {Holds : ℕ → Type 0} {Absent : Type 0} {e : Extreme} → Rule start value Holds Absent e
    → ((i j : ℕ) → Holds i → Holds j → i ≡ j) → ((i : ℕ) → Holds i → Absent → ⊥) → Words start value Holds e
in_words {Holds = Holds} {e = e} r one some =
    record {
      named = λ i. (r.holds i, held i e.holder refl);
      one = one;
      nobody = (λ q i h. some i h (r.nobody.0 q), none e.holder refl);
      value_is = r.value_is;
      start_is = r.start_is;
    }
  where
    held : (i : ℕ) (f : Option ℕ) → e.holder ≡ f → Holds i → e.holder ≡ Some i
    held i (Some k) q h = rw (one i k h (r.holds k q)) q
    held i None q h = absurd (some i h (r.nobody.0 q))

    none : (f : Option ℕ) → e.holder ≡ f → ((i : ℕ) → Holds i → ⊥) → e.holder ≡ None
    none (Some k) q z = absurd (z k (r.holds k q))
    none None q z = q

module _ {value : ℕ → Float} {Holds : ℕ → Type 0} {e : Extreme} (w : Words (inf true) value Holds e) where
  -- its value is the extreme of the words
  pub top_of : Top Holds value e.value
  top_of = go e.holder refl
    where
      go : (f : Option ℕ) → e.holder ≡ f → Top Holds value e.value
      go (Some i) q = inl (i, (w.named i).0 q, w.value_is i q)
      go None q = inr (w.nobody.0 q, w.start_is q)

  -- and no other is
  pub top_is : (x : Float) → Top Holds value x → e.value ≡ x
  top_is x (inl (i, h, q)) = w.value_is i ((w.named i).1 h) ∙ sym q
  top_is x (inr (z, q)) = w.start_is (w.nobody.1 z) ∙ sym q

-- ---- any test

-- what is asked of a test: it is transitive, and what takes the place of x also takes that of an entrant which didn't take x's
pub record Ranks (takes : Float → Float → Bool) : Type 0 where
  pub through : (x y z : Float) → T (takes x y) → T (takes y z) → T (takes x z)
  pub past : (s x y z : Float) → T (takes s y) → T (not (takes x y)) → T (takes x z) → T (takes y z)

module _ (takes : Float → Float → Bool) (start : Float) (may : ℕ → Bool) (value : ℕ → Float) where
  -- i holds the best of the first m: it takes the place of each entrant before it, and none after it takes its own
  pub record Holds (m i : ℕ) : Type 0 where
    pub inside : i < m
    pub eligible : T (may i)
    pub enters : T (takes start (value i))
    pub earlier : (k : ℕ) → k < i → T (may k) → T (takes start (value k)) → T (takes (value k) (value i))
    pub later : (k : ℕ) → i < k → k < m → T (may k) → T (not (takes (value i) (value k)))

  -- no candidate enters
  abbrev pub Shut : ℕ → Type 0
  Shut m = (k : ℕ) → k < m → T (may k) → T (not (takes start (value k)))

  abbrev Ruled : ℕ → Float → Option ℕ → Type 0
  Ruled m v None = (v ≡ start) × Shut m
  Ruled m v (Some i) = (v ≡ value i) × Holds m i

pub side : (k i : ℕ) → (k ≡ i) ⊎ ((k < i) ⊎ (i < k))
side zero zero = inl refl
side zero (suc i) = inr (inl (suc-le-suc zero-le))
side (suc k) zero = inr (inr (suc-le-suc zero-le))
side (suc k) (suc i) = ⊎_elim (λ e. inl (rw e)) (⊎_elim (λ h. inr (inl (suc-le-suc h))) (λ h. inr (inr (suc-le-suc h)))) (side k i)

-- what holds below i, at i and above i holds of all
pub around : (P : ℕ → Type 0) (i m : ℕ) → ((k : ℕ) → k < i → P k) → P i → ((k : ℕ) → i < k → k < m → P k) → (k : ℕ) → k < m → P k
around P i m low here high k l = ⊎_elim (λ e. subst P (sym e) here) (⊎_elim (low k) (λ h. high k h l)) (side k i)

upto : (P : ℕ → Type 0) (m : ℕ) → ((k : ℕ) → k < m → P k) → P m → (k : ℕ) → k < suc m → P k
upto P m all here = around P m (suc m) all here (λ k h l. absurd (omega arith))

module _ (takes : Float → Float → Bool) (ranks : Ranks takes) (start : Float) (may : ℕ → Bool) (value : ℕ → Float) where
  taken : (m : ℕ) (v : Float) (h : Option ℕ) → T (may m) → T (takes v (value m)) → Ruled takes start may value m v h → Ruled takes start may value (suc m) (value m) (Some m)
  taken m v None t c r = (
    refl,
    record {
      inside = omega arith;
      eligible = t;
      enters = rw r.0 at c;
      earlier = λ k l u n. absurd (T_not (takes start (value k)) (r.1 k l u) n);
      later = λ k h l. absurd (omega arith);
    },
  )
  taken m v (Some i) t c r =
      let g = r.1 in
      let w : T (takes (value i) (value m)) = rw r.0 at c in (
        refl,
        record {
          inside = omega arith;
          eligible = t;
          enters = ranks.through start (value i) (value m) g.enters w;
          earlier =
              around (λ k. T (may k) → T (takes start (value k)) → T (takes (value k) (value m))) i m
              (λ k l u n. ranks.through (value k) (value i) (value m) (g.earlier k l u n) w)
              (λ u n. w)
              (λ k h l u n. ranks.past start (value i) (value k) (value m) n (g.later k h l u) w);
          later = λ k h l. absurd (omega arith);
        },
      )

  kept : (m : ℕ) (v : Float) (h : Option ℕ) → (T (may m) → T (not (takes v (value m)))) → Ruled takes start may value m v h → Ruled takes start may value (suc m) v h
  kept m v None c r = (r.0, upto (λ k. T (may k) → T (not (takes start (value k)))) m r.1 (λ u. rw r.0 at (c u)))
  kept m v (Some i) c r =
      let g = r.1 in
      let l = g.inside in (
        r.0,
        record {
          inside = omega arith;
          eligible = g.eligible;
          enters = g.enters;
          earlier = g.earlier;
          later = λ k h l. upto (λ k. i < k → T (may k) → T (not (takes (value i) (value k)))) m (λ k l h. g.later k h l) (λ h u. rw r.0 at (c u)) k l h;
        },
      )

  weighs : (m : ℕ) (b : Extreme) (t s : Bool) → may m ≡ t → takes b.value (value m) ≡ s → Ruled takes start may value m b.value b.holder
      → Ruled takes start may value (suc m) (cond (t && s) (held (value m) m) b).value (cond (t && s) (held (value m) m) b).holder
  weighs m b true true p q r = taken m b.value b.holder (subst T (sym p) tt) (subst T (sym q) tt) r
  weighs m b true false p q r = kept m b.value b.holder (λ u. subst (λ (x : Bool). T (not x)) (sym q) tt) r
  weighs m b false s p q r = kept m b.value b.holder (λ u. absurd (subst T p u)) r

  ruled : (m : ℕ) → Ruled takes start may value m (best takes start may value m).value (best takes start may value m).holder
  unfolding best
  ruled zero = (refl, λ k l. absurd (omega arith))
  ruled (suc m) =
      weighs m (best takes start may value m) (may m) (takes (best takes start may value m).value (value m)) refl refl (ruled m)

  pub best_rule : (m : ℕ) → Rule start value (Holds takes start may value m) (Shut takes start may value m) (best takes start may value m)
  best_rule m =
      let e = best takes start may value m in
      let at : (h : Option ℕ) → e.holder ≡ h → Ruled takes start may value m e.value h = λ h q. subst (Ruled takes start may value m e.value) q (ruled m) in
      record {
        holds = λ i q. (at (Some i) q).1;
        value_is = λ i q. (at (Some i) q).0;
        start_is = λ q. (at None q).0;
        nobody = (λ q. (at None q).1, λ n. none n e.value e.holder (ruled m));
      }
    where
      none : Shut takes start may value m → (v : Float) (h : Option ℕ) → Ruled takes start may value m v h → h ≡ None
      none n v None r = refl
      none n v (Some i) r = absurd (T_not (takes start (value i)) (n i r.1.inside r.1.eligible) r.1.enters)

  pub best_below : (m : ℕ) → Below m (best takes start may value m).holder
  best_below m i q = ((best_rule m).holds i q).inside

-- tests and values that agree below m give one best; values need agree only where the test holds
pub best_ext : (takes : Float → Float → Bool) (start : Float) (may may' : ℕ → Bool) (value value' : ℕ → Float) (m : ℕ)
    → ((k : ℕ) → k < m → may k ≡ may' k) → ((k : ℕ) → k < m → T (may k) → value k ≡ value' k) → best takes start may value m ≡ best takes start may' value' m
unfolding best
best_ext takes start may may' value value' zero h g = refl
best_ext takes start may may' value value' (suc k) h g =
    rw (← best_ext takes start may may' value value' k (λ i l. h i (omega arith)) (λ i l. g i (omega arith)), ← h k (omega arith)) (one (may k) (g k (omega arith)))
  where
    one : (t : Bool) → (T t → value k ≡ value' k)
        → weighed takes t k (value k) (best takes start may value k) ≡ weighed takes t k (value' k) (best takes start may value k)
    one true e = rw (e tt)
    one false e = refl
