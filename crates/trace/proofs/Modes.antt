-- The crate's run and the one whose ceilings travel are the same, pass for pass, with one common ceiling (`trained_common`), and with shrinking off
-- (`trained_off`). Assumes nothing.
use Prim.Native.Nat.{ℕ, zero, suc, ◌+◌, ◌*◌, ◌≤◌, ◌<◌}
use mathlib.Core.Bool.{Bool, true, false}
use mathlib.Core.List.{List}
use mathlib.Core.Path.{◌≡◌, refl, sym, ap, ◌∙◌}
use native.Mathlib.Decide.{ℕ_discrete}
use native.Mathlib.Omega.{arith}
use lib.Ieee.{Float, nan, binary64, sub}
use lib.ListN.{length, set}
use lib.Seq.{get_or-set_other}
use Rattle.std.specs.Prelude.{Option, Some, None}
use Rattle.alpha.specs.Weight.{weight}
use Rattle.modes.specs.Modes.{travels, repaired}
use Rattle.modes.specs.declared.Mode.TheVariants.{Crate, Travelling}
use Rattle.reconstruct.specs.Reconstruct.{reconstructed}
use Rattle.solver.specs.End.{closed, trained}
use Rattle.solver.specs.Pass.{chosen, rebuilt, refreshed, tops_of, restored, walked_from, shrunk, counted_down, stepped, looked, worked_by, onward, passed, next, runs}
use Rattle.solver.specs.Run.{problem_of, Full, with_run, goes, counter_at}
use Rattle.solver.specs.declared.Given.{Given}
use Rattle.solver.proofs.Laws.{chosen_below}
use Rattle.state.specs.Fields.{alpha, bound}
use Rattle.state.specs.Lists.{Problem, State, over}
use Rattle.state.specs.Moving.{moved}
use Rattle.state.proofs.Moves.{source, source_below, fields_at, length_fields}
use Rattle.update.specs.Update.{ceiling_in, ceiling, counted_upper, j_reach, pair_at, shifted_to, stored, settled, carried, updated, updated_state}
use Rattle.update.specs.declared.Pair.{Pair as Two}
use Rattle.update.proofs.Filled.{shifted_to_other}
use Rattle.update.proofs.Left.{length_updated, alpha_i, alpha_j, alpha_other}
use Rattle.update.proofs.Turned.{turned_by_other}
use Rattle.trace.specs.Modes.{in_mode}
use Rattle.trace.specs.Trace.{start_of}
use Rattle.trace.proofs.Kept.{Keeps, chosen_apart, refreshed_keeps, counted_keeps}
use Rattle.trace.proofs.Off.{refreshed_off, counted_off}
use Rattle.trace.proofs.Rests.{same_reconstructed, same_started}

-- ---- one step

module _ (p : Problem) (b : List Float) where
  ceiling_crate : (s : State) (k : ℕ) → ceiling p Crate b s k ≡ bound b k
  unfolding ceiling_in travels
  ceiling_crate s k = refl

  ceiling_travels : (s : State) (k : ℕ) → ceiling p Travelling b s k ≡ (alpha p s k).upper
  unfolding ceiling_in travels
  ceiling_travels s k = refl

  counted_same : (s : State) (k : ℕ) (x : Float) → counted_upper Travelling (alpha p s k) x ≡ counted_upper Crate (alpha p s k) x
  unfolding counted_upper repaired
  counted_same s k x = refl

  reach_same : (n a : ℕ) → j_reach Travelling n a ≡ j_reach Crate n a
  unfolding j_reach repaired
  reach_same n a = refl

  ceiling_same : (s : State) (k : ℕ) → (alpha p s k).upper ≡ bound b k → ceiling p Travelling b s k ≡ ceiling p Crate b s k
  ceiling_same s k e = ceiling_travels s k ∙ e ∙ sym (ceiling_crate s k)

  settled_same : (s : State) (k : ℕ) (x : Float) (count : ℕ) → (alpha p s k).upper ≡ bound b k
      → settled p b Travelling s k x count ≡ settled p b Crate s k x count
  unfolding settled
  settled_same s k x count e = rw (ceiling_same s k e, counted_same s k x)

  -- the ceiling of j stays where i settles
  settled_upper_other : (s : State) (i j : ℕ) (x : Float) → i < p.n → j < p.n → (i ≡ j → ⊥) → (alpha p (over s (settled p b Crate s i x p.n)) j).upper ≡ (alpha p s j).upper
  unfolding settled stored
  settled_upper_other s i j x I J d =
      let w = weight x (ceiling p Crate b s i) in
      let f = set s.floats (2 * p.n + i) w.value in
      turned_by_other p (over s (set f (3 * p.n + i) w.upper)) i (counted_upper Crate (alpha p s i) x) w p.n (3 * p.n + j) (λ h l e. omega arith)
      ∙ get_or-set_other f (3 * p.n + i) (3 * p.n + j) w.upper nan (λ e. d (omega arith))
      ∙ get_or-set_other s.floats (2 * p.n + i) (3 * p.n + j) w.value nan (λ e. omega arith)

  pair_same : (floor : Float) (s : State) (i j : ℕ) → (alpha p s i).upper ≡ bound b i → (alpha p s j).upper ≡ bound b j
      → pair_at p b Travelling floor s i j ≡ pair_at p b Crate floor s i j
  unfolding pair_at
  pair_same floor s i j ei ej = rw (ceiling_same s i ei, ceiling_same s j ej)

  pub updated_same : (floor : Float) (s : State) (i j a : ℕ) → i < p.n → j < p.n → a ≤ p.n → (i ≡ j → ⊥)
      → (alpha p s i).upper ≡ bound b i → (alpha p s j).upper ≡ bound b j
      → updated p b Travelling floor s i j a ≡ updated p b Crate floor s i j a
  unfolding updated carried
  updated_same floor s i j a I J A d ei ej =
      rw (pair_same floor s i j ei ej, reach_same p.n a) (go (pair_at p b Crate floor s i j))
    where
      go : (q : Two)
          → settled p b Travelling (over s (settled p b Travelling (over s (shifted_to p s i j (sub binary64 q.i.value (alpha p s i).value) (sub binary64 q.j.value (alpha p s j).value) a)) i q.i.value p.n)) j q.j.value (j_reach Crate p.n a)
          ≡ settled p b Crate (over s (settled p b Crate (over s (shifted_to p s i j (sub binary64 q.i.value (alpha p s i).value) (sub binary64 q.j.value (alpha p s j).value) a)) i q.i.value p.n)) j q.j.value (j_reach Crate p.n a)
      go q =
          let xi = sub binary64 q.i.value (alpha p s i).value in
          let xj = sub binary64 q.j.value (alpha p s j).value in
          let t = over s (shifted_to p s i j xi xj a) in
          let ti : (alpha p t i).upper ≡ bound b i = shifted_to_other p s i j xi xj a (3 * p.n + i) (omega arith) ∙ ei in
          let tj : (alpha p t j).upper ≡ bound b j = shifted_to_other p s i j xi xj a (3 * p.n + j) (omega arith) ∙ ej in
          rw (settled_same t i q.i.value p.n ti)
          (settled_same (over s (settled p b Crate t i q.i.value p.n)) j q.j.value (j_reach Crate p.n a) (settled_upper_other t i j q.i.value I J d ∙ tj))

-- ---- what does not ask for the ceilings

module _ (g : Given) (m : List ℕ) (w : Full) where
  chosen_same : chosen (in_mode Travelling g) m w ≡ chosen (in_mode Crate g) m w
  unfolding chosen
  chosen_same = refl

  refreshed_same : refreshed (in_mode Travelling g) m w ≡ refreshed (in_mode Crate g) m w
  unfolding refreshed rebuilt repaired
  refreshed_same = refl

  counted_down_same : counted_down (in_mode Travelling g) m w ≡ counted_down (in_mode Crate g) m w
  unfolding counted_down shrunk walked_from restored tops_of rebuilt repaired
  counted_down_same = refl

  closed_same : (budget : ℕ) → closed (in_mode Travelling g) m budget w ≡ closed (in_mode Crate g) m budget w
  unfolding closed rebuilt repaired
  closed_same budget = refl

-- ---- the run, as long as each position has the ceiling of its place

-- A tells of the active count
module _ (g : Given) (m : List ℕ) (b : List Float) (A : ℕ → Type 0) (most : (a : ℕ) → A a → a ≤ g.n) where
  abbrev p : Problem
  p = problem_of g m

  abbrev g1 : Given
  g1 = in_mode Crate g

  abbrev g2 : Given
  g2 = in_mode Travelling g

  pub record Matched (w : Full) : Type 0 where
    pub room : 7 * g.n ≤ length w.state.floats
    pub upper : (k : ℕ) → k < g.n → (alpha p w.state k).upper ≡ bound b k
    pub active : A w.run.active

  stepped_matched : (w : Full) (i j : ℕ) → chosen g1 m w ≡ Some (i, j) → Matched w → Matched (stepped g1 m b w i j)
  unfolding stepped
  stepped_matched w i j e k =
      record { room = rw (length_updated p b Crate g.floor w.state i j w.run.active) k.room; upper = λ q z. go q z (ℕ_discrete q i) (ℕ_discrete q j); active = k.active }
    where
      few : w.run.active ≤ g.n
      few = most w.run.active k.active

      x : i < g.n
      x = let l = (chosen_below g1 m w i j e).0 in omega (arith, few)

      y : j < g.n
      y = let l = (chosen_below g1 m w i j e).1 in omega (arith, few)

      go : (q : ℕ) → q < g.n → Dec (q ≡ i) → Dec (q ≡ j) → (alpha p (updated_state p b Crate g.floor w.state i j w.run.active) q).upper ≡ bound b q
      go q z (yes f) h =
          rw f (ap (λ r. r.upper) (alpha_i p b Crate g.floor w.state i j w.run.active x y few k.room (chosen_apart g1 m w i j e)) ∙ ceiling_crate p b w.state i)
      go q z (no f) (yes h) = rw h (ap (λ r. r.upper) (alpha_j p b Crate g.floor w.state i j w.run.active x y few k.room) ∙ ceiling_crate p b w.state j)
      go q z (no f) (no h) = ap (λ r. r.upper) (alpha_other p b Crate g.floor w.state i j w.run.active x y few k.room q z f h) ∙ k.upper q z

  stepped_same : (w : Full) (i j : ℕ) → chosen g1 m w ≡ Some (i, j) → Matched w → stepped g2 m b w i j ≡ stepped g1 m b w i j
  unfolding stepped
  stepped_same w i j e k =
      let l = chosen_below g1 m w i j e in
      let few = most w.run.active k.active in
      let x : i < g.n = omega (arith, l.0) in
      let y : j < g.n = omega (arith, l.1) in
      rw (updated_same p b g.floor w.state i j w.run.active x y few (chosen_apart g1 m w i j e) (k.upper i x) (k.upper j y))

  counter_none : (w : Full) (t : ℕ) → chosen g1 m (with_run w (counter_at w.run t)) ≡ chosen g1 m w
  unfolding chosen
  counter_none w t = refl

  recounted : (w : Full) (t : ℕ) → Matched w → Matched (with_run w (counter_at w.run t))
  recounted w t k = record { room = k.room; upper = k.upper; active = k.active }

  -- what the second look leaves is the same, and matched
  looked_same : (w : Full) (h : Option (ℕ × ℕ)) → chosen g1 m w ≡ h → Matched w → (looked g2 m b w h ≡ looked g1 m b w h) × Matched (looked g1 m b w h)
  unfolding looked
  looked_same w (Some (i, j)) e k =
      let v = with_run w (counter_at w.run 1) in
      (stepped_same v i j (counter_none w 1 ∙ e) (recounted w 1 k), stepped_matched v i j (counter_none w 1 ∙ e) (recounted w 1 k))
  looked_same w None e k = (refl, record { room = k.room; upper = k.upper; active = k.active })

  module _ (counts : (w : Full) → Matched w → Matched (counted_down g1 m w)) (widens : (w : Full) → Matched w → Matched (refreshed g1 m w)) where
    worked_same : (w : Full) (h : Option (ℕ × ℕ)) → chosen g1 m w ≡ h → Matched w → (worked_by g2 m b w h ≡ worked_by g1 m b w h) × Matched (worked_by g1 m b w h)
    unfolding worked_by
    worked_same w (Some (i, j)) e k = (stepped_same w i j e k, stepped_matched w i j e k)
    worked_same w None e k =
        let v = refreshed g1 m w in
        let z = looked_same v (chosen g1 m v) refl (widens w k) in
        (rw (refreshed_same g m w, chosen_same g m v) z.0, z.1)

    onward_same : (x : Bool) (w : Full) → Matched w → (onward g2 m b x w ≡ onward g1 m b x w) × Matched (onward g1 m b x w)
    unfolding onward
    onward_same true w k = let z = worked_same w (chosen g1 m w) refl k in (rw (chosen_same g m w) z.0, z.1)
    onward_same false w k = (refl, k)

    next_same : (x : Bool) (w : Full) → Matched w → (next g2 m b x w ≡ next g1 m b x w) × Matched (next g1 m b x w)
    unfolding next passed
    next_same true w k =
        let v = counted_down g1 m w in
        let z = onward_same (goes v.run.status) v (counts w k) in
        (rw (counted_down_same g m w) z.0, z.1)
    next_same false w k = (refl, k)

    runs_same : (w : Full) (t : ℕ) → Matched w → (runs g2 m b w t ≡ runs g1 m b w t) × Matched (runs g1 m b w t)
    unfolding runs
    runs_same w zero k = (refl, k)
    runs_same w (suc t) k =
        let h = runs_same w t k in
        let v = runs g1 m b w t in
        let z = next_same (goes v.run.status) v h.1 in
        (rw h.0 z.0, z.1)

    trained_by : (budget : ℕ) (s : State) → Matched (start_of g1 m b s) → trained g2 m b budget s ≡ trained g1 m b budget s
    unfolding trained
    trained_by budget s k = rw (runs_same (start_of g1 m b s) budget k).0 (closed_same g m (runs g1 m b (start_of g1 m b s) budget) budget)

-- ---- when that is so

-- as lent: room, and with each position the ceiling of its place
pub record Placed (g : Given) (m : List ℕ) (b : List Float) (s : State) : Type 0 where
  pub room : 7 * g.n ≤ length s.floats
  pub upper : (k : ℕ) → k < g.n → (alpha (problem_of g m) s k).upper ≡ bound b k

module _ (g : Given) (m : List ℕ) (b : List Float) where
  abbrev AtMost : ℕ → Type 0
  AtMost a = a ≤ g.n

  abbrev All : ℕ → Type 0
  All a = a ≡ g.n

  start_matched : (A : ℕ → Type 0) (most : (a : ℕ) → A a → a ≤ g.n) → A g.n → (s : State) → Placed g m b s → Matched g m b A most (start_of (in_mode Crate g) m b s)
  start_matched A most all s k =
      let e = same_started (problem_of g m) b s in
      record { room = rw e.long k.room; upper = λ q z. e.at (3 * g.n + q) (omega arith) (omega arith) ∙ k.upper q z; active = all }

  -- one common ceiling
  module _ (c : Float) (places : (k : ℕ) → k < g.n → bound b k ≡ c) where
    abbrev Held : State → Type 0
    Held = Placed g m b

    by_rebuilt : (s : State) (a : ℕ) → a ≤ g.n → Held s → Held (over s (reconstructed (problem_of g m) (repaired Crate) a s))
    by_rebuilt s a l h =
        let e = same_reconstructed (problem_of g m) (repaired Crate) a l (4 * g.n) s in
        record { room = rw e.long h.room; upper = λ k z. e.at (3 * g.n + k) (omega arith) (omega arith) ∙ h.upper k z }

    by_moved : (s : State) (i j : ℕ) → i < g.n → j < g.n → Held s → Held (moved g.n s i j)
    unfolding moved
    by_moved s i j x y h =
        let r = h.room in
        record {
          room = rw (length_fields nan g.n s.floats i j 5) r;
          upper = λ k z.
              let q = source_below g.n i j k x y z in
              fields_at nan g.n s.floats i j x y 5 3 k (omega arith) (omega arith) z ∙ h.upper (source i j k) q ∙ places (source i j k) q ∙ sym (places k z);
        }

    abbrev M : Full → Type 0
    M = Matched g m b AtMost (λ a l. l)

    keeps : (w : Full) → M w → Keeps (in_mode Crate g) Held w
    keeps w k = record { kept = record { room = k.room; upper = k.upper }; active = k.active }

    kept : (w : Full) → Keeps (in_mode Crate g) Held w → M w
    kept w k = record { room = k.kept.room; upper = k.kept.upper; active = k.active }

    -- start, run and end: every answer is taken from this
    pub trained_common : (budget : ℕ) (s : State) → Placed g m b s → trained (in_mode Travelling g) m b budget s ≡ trained (in_mode Crate g) m b budget s
    trained_common budget s k =
        trained_by g m b AtMost (λ a l. l)
        (λ w z. kept _ (counted_keeps (in_mode Crate g) m Held by_rebuilt by_moved w (keeps w z)))
        (λ w z. kept _ (refreshed_keeps (in_mode Crate g) m Held by_rebuilt by_moved w (keeps w z)))
        budget s (start_matched AtMost (λ a l. l) (omega arith) s k)

  -- shrinking off: nothing moves
  module _ (off : g.shrinking ≡ false) where
    abbrev N : Full → Type 0
    N = Matched g m b All (λ a e. omega arith)

    counts_off : (w : Full) → N w → N (counted_down (in_mode Crate g) m w)
    counts_off w k =
        let z = counted_off (in_mode Crate g) m off w in
        record { room = rw z.state k.room; upper = λ q l. ap (λ (s : State). (alpha (problem_of g m) s q).upper) z.state ∙ k.upper q l; active = z.active ∙ k.active }

    pub trained_off : (budget : ℕ) (s : State) → Placed g m b s → trained (in_mode Travelling g) m b budget s ≡ trained (in_mode Crate g) m b budget s
    trained_off budget s k =
        trained_by g m b All (λ a e. omega arith) counts_off (λ w z. rw (refreshed_off (in_mode Crate g) m w z.active) z)
        budget s (start_matched All (λ a e. omega arith) refl s k)
