-- A walk is one rearrangement of all that travels. Assumes nothing.
--
-- Main theorems:
--   one_rearrangement: a walk is one rearrangement of the positions, the same for every field
--   rearranged_moved: a rearrangement and one move is one; `rearranged_none`: so is no move
--   perm_rearranged: each sample still stands at one place
--   travelled_rearranged: and has with it what it had
use Prim.Native.Nat.{ℕ, ◌+◌, ◌*◌, ◌≤◌, ◌<◌}
use mathlib.Core.Path.{◌≡◌, refl, sym, ap, ap₂, ◌∙◌}
use native.Mathlib.Nat.{zero-mul, one-mul, zero-add}
use native.Mathlib.Omega.{arith}
use lib.Ieee.{Float, nan}
use lib.ListN.{length, get_or}
use Rattle.alpha.specs.Weight.{weight}
use Rattle.readings.specs.Order.{Perm}
use Rattle.shrink.specs.Drops.{drops_at, walked_over}
use Rattle.shrink.specs.declared.Limits.{Limits}
use Rattle.shrink.proofs.Walks.{walks}
use Rattle.state.specs.Fields.{sample}
use Rattle.state.specs.Lists.{Problem, State, Ready}
use Rattle.state.specs.Moving.{swapped_fields, moved}
use Rattle.state.proofs.Kept.{ready_moved}
use Rattle.state.proofs.Moves.{source, source_below, source_twice, swapped_at, fields_at, fields_behind}
use Rattle.travel.specs.Travel.{Travelled, Rearranged}
use Rattle.travel.proofs.Within.{sample_moved, index_moved}

module _ (p : Problem) where
  pub rearranged_none : (s : State) → Rearranged p s s
  rearranged_none s =
      record {
        from = λ k. k;
        to = λ k. k;
        from_below = λ k c. c;
        to_below = λ k c. c;
        there = λ k c. refl;
        back = λ k c. refl;
        gradients = λ k c. refl;
        fixed = λ k c. refl;
        weights = λ k c. refl;
        terms = λ k c. refl;
        samples = λ k c. refl;
        indexes = λ k c. refl;
        labels = λ k c. refl;
        behind = λ q c. refl;
      }

  -- one move more
  pub rearranged_moved : (s t : State) (i j : ℕ) → i < p.n → j < p.n → Ready p t → Rearranged p s t → Rearranged p s (moved p.n t i j)
  unfolding moved
  rearranged_moved s t i j a b r w =
      let n = p.n in
      let l = r.floats in
      let u = r.indexed.long in
      let y = r.labels in
      let in-n : (k : ℕ) → k < n → source i j k < n = λ k c. source_below n i j k a b c in
      let float : (f k : ℕ) → f < 5 → k < n → get_or (swapped_fields nan n t.floats i j 5) (f * n + k) nan ≡ get_or t.floats (f * n + source i j k) nan
      = λ f k h c. fields_at nan n t.floats i j a b 5 f k (omega arith) h c in
      record {
        from = λ k. w.from (source i j k);
        to = λ k. source i j (w.to k);
        from_below = λ k c. w.from_below (source i j k) (in-n k c);
        to_below = λ k c. in-n (w.to k) (w.to_below k c);
        there = λ k c. ap w.from (source_twice i j (w.to k)) ∙ w.there k c;
        back = λ k c. ap (source i j) (w.back (source i j k) (in-n k c)) ∙ source_twice i j k;
        gradients = λ k c. simp (zero-mul, zero-add) at (float 0 k (omega arith) c) ∙ w.gradients (source i j k) (in-n k c);
        fixed = λ k c. simp one-mul at (float 1 k (omega arith) c) ∙ w.fixed (source i j k) (in-n k c);
        weights = λ k c. ap₂ weight (float 2 k (omega arith) c) (float 3 k (omega arith) c) ∙ w.weights (source i j k) (in-n k c);
        terms = λ k c. float 4 k (omega arith) c ∙ w.terms (source i j k) (in-n k c);
        samples = λ k c. sample_moved n t.numbers i j a b u k c ∙ w.samples (source i j k) (in-n k c);
        indexes = λ k c. index_moved n t.numbers i j a b u k c ∙ w.indexes (source i j k) (in-n k c);
        labels = λ k c. swapped_at 0 t.labels i j k (omega arith) (omega arith) ∙ w.labels (source i j k) (in-n k c);
        behind = λ q h. fields_behind nan n t.floats i j a b 5 q (omega arith) h ∙ w.behind q h;
      }

  -- what a walk does to the lists: one rearrangement of the positions, the same for every field
  pub one_rearrangement : (l : Limits) (a : ℕ) (s : State) → a ≤ p.n → Ready p s → Rearranged p s (walked_over p.n l a s).state
  one_rearrangement l a s h r =
      (walks p.n (λ t. Ready p t × Rearranged p s t) (moved p.n)
      (λ t i j x y w. (ready_moved w.0 i j x y, rearranged_moved s t i j x y w.0 w.1))
      l.ends (drops_at p.n l) a h s a h (r, rearranged_none s)).kept.1

  -- each sample still stands at one place
  pub perm_rearranged : (s t : State) → p.n ≤ length t.numbers → Rearranged p s t → Perm p.n s.numbers → Perm p.n t.numbers
  perm_rearranged s t l w o =
      record {
        within = record { long = l; below = λ k c. rw (w.samples k c) (o.within.below (w.from k) (w.from_below k c)) };
        place = λ q. w.to (o.place q);
        inside = λ q c. w.to_below (o.place q) (o.inside q c);
        there = λ q c.
            w.samples (w.to (o.place q)) (w.to_below (o.place q) (o.inside q c))
            ∙ ap (sample s) (w.there (o.place q) (o.inside q c))
            ∙ o.there q c;
        only = λ k c. ap (λ q. w.to (o.place q)) (w.samples k c) ∙ ap w.to (o.only (w.from k) (w.from_below k c)) ∙ w.back k c;
      }

  -- and has with it what it had
  pub travelled_rearranged : (labels : ℕ → ℕ) (terms : ℕ → Float) (s t : State) → p.n ≤ length t.numbers → Rearranged p s t
      → Travelled p.n labels terms s → Travelled p.n labels terms t
  travelled_rearranged labels terms s t l w h =
      record {
        order = perm_rearranged s t l w h.order;
        paired = record { same = λ k c. w.samples k c ∙ h.paired.same (w.from k) (w.from_below k c) ∙ sym (w.indexes k c) };
        label = λ k c. w.labels k c ∙ h.label (w.from k) (w.from_below k c) ∙ ap labels (sym (w.samples k c));
        term = λ k c. w.terms k c ∙ h.term (w.from k) (w.from_below k c) ∙ ap terms (sym (w.samples k c));
      }
