-- Home is what the last step that chose a sample left it. Assumes nothing.
--
-- Main theorems:
--   never_chosen: what the steps leave of a sample that none of them chose is what it had
--   last_chosen_j: where a step chose it second, and none after did, it is what that step left; `last_chosen_i` where it chose it first alone
--   told_step: one update leaves the two samples what the step records, and the others what they had
--   runs_tell: after any number of passes each weight is what the last step that chose its sample left, else the one at the start
--   home_is_last: and so is the weight at the place where the order has a sample
--   trained_home: and so is the home reading when the run has ended
use Prim.Native.Nat.{ℕ, zero, suc, ◌+◌, ◌*◌, ◌≤◌, ◌<◌}
use mathlib.Core.Bool.{Bool, true, false}
use mathlib.Core.List.{List, [], ◌∷◌, ◌++◌}
use mathlib.Core.Logic.{inl, inr}
use mathlib.Core.Path.{◌≡◌, refl, sym, ap, ◌∙◌}
use native.Mathlib.Decide.{ℕ_discrete}
use native.Mathlib.Omega.{arith}
use borrow.Author.Tests.{eq-eqb, ne_eqb}
use lib.Ieee.{Float, nan}
use lib.ListN.{length, get_or}
use Rattle.std.specs.Prelude.{Option, Some, None}
use Rattle.readings.specs.Order.{home_reading, weight_in, Perm}
use Rattle.modes.specs.Modes.{repaired}
use Rattle.reconstruct.specs.Reconstruct.{reconstructed}
use Rattle.solver.specs.End.{trained}
use Rattle.solver.specs.Pass.{chosen, counted_down, passed, next, runs}
use Rattle.solver.specs.Run.{problem_of, Full, goes}
use Rattle.solver.specs.declared.Given.{Given}
use Rattle.solver.proofs.Laws.{chosen_below}
use Rattle.start.specs.Start.{started}
use Rattle.state.specs.Fields.{sample}
use Rattle.state.specs.Lists.{Problem, State, Ready, over}
use Rattle.state.specs.Moving.{moved}
use Rattle.state.proofs.Kept.{ready_floats, ready_moved}
use Rattle.trace.specs.Trace.{Step, look_by, look_at, pair_from, step_at, steps_of, added, traced, start_of}
use Rattle.trace.proofs.Kept.{Keeps, refreshed_keeps, counted_keeps, closed_keeps}
use Rattle.trace.proofs.Passes.{pair_look, pass_steps, pass_ends}
use Rattle.trace.proofs.Rests.{same_started, same_reconstructed}
use Rattle.update.specs.Update.{updated_state}
use Rattle.update.proofs.Left.{length_updated, alpha_other}
use Rattle.travel.specs.Home.{left_by, last_left, Told}
use Rattle.travel.specs.Travel.{Fresh}
use Rattle.readings.proofs.Order.{home_at}
use Rattle.travel.proofs.Rearranged.{rearranged_none, rearranged_moved, perm_rearranged}
use Rattle.travel.proofs.Travel.{fresh_travelled}

pub last_more : (es fs : List Step) (s : ℕ) (x : Float) → last_left (es ++ fs) s x ≡ last_left fs s (last_left es s x)
unfolding last_left
last_more [] fs s x = refl
last_more (e ∷ es) fs s x = last_more es fs s (left_by e s x)

-- ---- what last_left is

-- step e didn't choose sample s
abbrev pub Missed : ℕ → Step → Type 0
Missed s e = (s ≡ e.sample_i → ⊥) × (s ≡ e.sample_j → ⊥)

abbrev pub AllMissed : ℕ → List Step → Type 0
AllMissed s [] = Unit {0}
AllMissed s (e ∷ es) = Missed s e × AllMissed s es

-- no step chose s
pub never_chosen : (es : List Step) (s : ℕ) (x : Float) → AllMissed s es → last_left es s x ≡ x
unfolding last_left left_by
never_chosen [] s x h = refl
never_chosen (e ∷ es) s x h = rw (ne_eqb s e.sample_j h.0.1, ne_eqb s e.sample_i h.0.0) (never_chosen es s x h.1)

-- step e is the last that chose s
module _ (es fs : List Step) (e : Step) (s : ℕ) (x : Float) (h : AllMissed s fs) where
  last_one : last_left (es ++ e ∷ fs) s x ≡ left_by e s (last_left es s x)
  unfolding last_left
  last_one = last_more es (e ∷ fs) s x ∙ never_chosen fs s (left_by e s (last_left es s x)) h

  pub last_chosen_j : s ≡ e.sample_j → last_left (es ++ e ∷ fs) s x ≡ e.left_j
  unfolding left_by
  last_chosen_j q = last_one ∙ rw (eq-eqb s e.sample_j q)

  pub last_chosen_i : s ≡ e.sample_i → (s ≡ e.sample_j → ⊥) → last_left (es ++ e ∷ fs) s x ≡ e.left_i
  unfolding left_by
  last_chosen_i q d = last_one ∙ rw (ne_eqb s e.sample_j d, eq-eqb s e.sample_i q)

-- ---- what each part of a run does to the weights

module _ (p : Problem) where
  told_rebuilt : (x : ℕ → Float) (s : State) (a : ℕ) → a ≤ p.n → Told p x s → (y : Bool) → Told p x (over s (reconstructed p y a s))
  told_rebuilt x s a l w y =
      let e = same_reconstructed p y a l (5 * p.n) s in
      record {
        ready = ready_floats w.ready (reconstructed p y a s) e.long;
        order = w.order;
        weights = λ k c. e.at (2 * p.n + k) (omega arith) (omega arith) ∙ w.weights k c;
      }

  told_moved : (x : ℕ → Float) (s : State) (i j : ℕ) → i < p.n → j < p.n → Told p x s → Told p x (moved p.n s i j)
  told_moved x s i j a b w =
      let r = ready_moved w.ready i j a b in
      let l = r.indexed.long in
      let m = rearranged_moved p s s i j a b w.ready (rearranged_none p s) in
      record {
        ready = r;
        order = perm_rearranged p s (moved p.n s i j) (omega arith) m w.order;
        weights = λ k c.
            ap (λ y. y.value) (m.weights k c) ∙ w.weights (m.from k) (m.from_below k c) ∙ ap x (sym (m.samples k c));
      }

  one_place : (u : List ℕ) → Perm p.n u → (k l : ℕ) → k < p.n → l < p.n → get_or u k 0 ≡ get_or u l 0 → k ≡ l
  one_place u o k l a b e = sym (o.only k a) ∙ ap o.place e ∙ o.only l b

module _ (g : Given) (m : List ℕ) (b : List Float) where
  abbrev p : Problem
  p = problem_of g m

  -- one update from s leaves v: the two samples have what the step records, the others what they had
  pub told_step : (x : ℕ → Float) (s : State) (v : Full) (i j a : ℕ) → i < a → j < a → a ≤ g.n → v.state ≡ updated_state p b g.mode g.floor s i j a
      → Told p x s → Told p (λ q. left_by (step_at g m v i j) q (x q)) v.state
  unfolding left_by
  told_step x s v i j a I J A e w = record {
    ready = rw e (ready_floats w.ready _ (length_updated p b g.mode g.floor s i j a));
    order = rw e w.order;
    weights = λ k c. go k c (ℕ_discrete k j) (ℕ_discrete k i);
  }
    where
      order : Perm g.n v.state.numbers
      order = rw e w.order

      go : (k : ℕ) → k < g.n → Dec (k ≡ j) → Dec (k ≡ i)
          → weight_in g.n v.state.floats k ≡ left_by (step_at g m v i j) (sample v.state k) (x (sample v.state k))
      go k c (yes z) y = rw (eq-eqb (sample v.state k) (sample v.state j) (ap (sample v.state) z), z)
      go k c (no z) (yes y) =
          rw (
            ne_eqb (sample v.state k) (sample v.state j) (λ t. z (one_place p v.state.numbers order k j c (omega arith) t)),
            eq-eqb (sample v.state k) (sample v.state i) (ap (sample v.state) y),
            y,
          )
      go k c (no z) (no y) =
          rw (
            ne_eqb (sample v.state k) (sample v.state j) (λ t. z (one_place p v.state.numbers order k j c (omega arith) t)),
            ne_eqb (sample v.state k) (sample v.state i) (λ t. y (one_place p v.state.numbers order k i c (omega arith) t)),
          )
          (ap (λ (t : State). weight_in g.n t.floats k) e
          ∙ ap (λ t. t.value) (alpha_other p b g.mode g.floor s i j a (omega arith) (omega arith) A w.ready.floats k c y z)
          ∙ w.weights k c
          ∙ ap (λ (t : State). x (sample t k)) (sym e))

  -- ---- a pass, and a run

  -- told, with the active count in range
  abbrev pub Tells : (ℕ → Float) → Full → Type 0
  Tells x = Keeps g (Told p x)

  rebuilt_tells : (x : ℕ → Float) (s : State) (a : ℕ) → a ≤ g.n → Told p x s → Told p x (over s (reconstructed p (repaired g.mode) a s))
  rebuilt_tells x s a l w = told_rebuilt p x s a l w (repaired g.mode)

  look_tells : (x : ℕ → Float) (v : Full) (c : Option (ℕ × ℕ)) → Tells x v → Tells x (look_by g m v c)
  unfolding look_by
  look_tells x v (Some (i, j)) k = k
  look_tells x v None k = refreshed_keeps g m (Told p x) (rebuilt_tells x) (told_moved p x) v k

  -- what the steps that a pass adds leave
  pass_tells : (x : ℕ → Float) (w : Full) → Tells x w → Tells (λ q. last_left (steps_of g m (passed g m b w) (pair_from g m w)) q (x q)) (passed g m b w)
  unfolding steps_of last_left
  pass_tells x w k = go (pair_from g m w) refl
    where
      v : Full
      v = counted_down g m w

      told : Tells x v
      told = counted_keeps g m (Told p x) (rebuilt_tells x) (told_moved p x) w k

      go : (c : Option (ℕ × ℕ)) → pair_from g m w ≡ c → Tells (λ q. last_left (steps_of g m (passed g m b w) c) q (x q)) (passed g m b w)
      go (Some (i, j)) e =
          let u = look_at g m v in
          let t = look_tells x v (chosen g m v) told in
          let l = chosen_below g m u i j (pair_look g m w i j e) in
          let s = pass_steps g m b w i j e in
          record {
            kept = told_step x u.state (passed g m b w) i j u.run.active l.0 l.1 t.active s.state t.kept;
            active = rw s.active t.active;
          }
      go None e = elim (pass_ends g m b w e) [
        | inl z ↦ rw z.1 (record { kept = told.kept; active = told.active })
        | inr z ↦
            let t = refreshed_keeps g m (Told p x) (rebuilt_tells x) (told_moved p x) v told in
            record { kept = rw z.state t.kept; active = rw z.active t.active }
      ]

  next_tells : (x : ℕ → Float) (go : Bool) (w : Full) → Tells x w → Tells (λ q. last_left (added g m b go w) q (x q)) (next g m b go w)
  unfolding next added last_left
  next_tells x true w k = pass_tells x w k
  next_tells x false w k = record { kept = k.kept; active = k.active }

  tells_same : (x y : ℕ → Float) (w : Full) → ((q : ℕ) → x q ≡ y q) → Tells x w → Tells y w
  tells_same x y w h k = record {
    kept = record { ready = k.kept.ready; order = k.kept.order; weights = λ l c. k.kept.weights l c ∙ h (sample w.state l) };
    active = k.active;
  }

  pub runs_tell : (x : ℕ → Float) (w : Full) (t : ℕ) → Tells x w → Tells (λ q. last_left (traced g m b w t) q (x q)) (runs g m b w t)
  unfolding runs traced last_left
  runs_tell x w zero k = record { kept = k.kept; active = k.active }
  runs_tell x w (suc t) k =
      let v = runs g m b w t in
      let e = added g m b (goes v.run.status) v in
      tells_same (λ q. last_left e q (last_left (traced g m b w t) q (x q))) (λ q. last_left (traced g m b w t ++ e) q (x q)) (next g m b (goes v.run.status) v)
      (λ q. sym (last_more (traced g m b w t) e q (x q)))
      (next_tells (λ q. last_left (traced g m b w t) q (x q)) (goes v.run.status) v (runs_tell x w t k))

  -- at the place where a sample stands after t passes: what the last step that chose it left, else its weight at the start
  pub home_is_last : (x : ℕ → Float) (w : Full) (t : ℕ) → w.run.active ≤ g.n → Told p x w.state
      → (o : Perm g.n (runs g m b w t).state.numbers) (s : ℕ) → s < g.n
      → weight_in g.n (runs g m b w t).state.floats (o.place s) ≡ last_left (traced g m b w t) s (x s)
  home_is_last x w t h k o s c =
      let r = runs_tell x w t (record { kept = k; active = h }) in
      r.kept.weights (o.place s) (o.inside s c) ∙ ap (λ q. last_left (traced g m b w t) q (x q)) (o.there s c)

  -- ---- start, run, end

  pub start_told : (s : State) → Ready p s → Fresh g.n s → Told p (weight_in g.n s.floats) (start_of g m b s).state
  start_told s r h =
      let e = same_started p b s in
      record {
        ready = ready_floats r (started p b s) e.long;
        order = (fresh_travelled p s r h).order;
        weights = λ k c. e.at (2 * g.n + k) (omega arith) (omega arith) ∙ ap (weight_in g.n s.floats) (sym (h.order k c));
      }

  trained_tells : (budget : ℕ) (s : State) → Ready p s → Fresh g.n s
      → Tells (λ q. last_left (traced g m b (start_of g m b s) budget) q (weight_in g.n s.floats q)) (trained g m b budget s)
  unfolding trained
  trained_tells budget s r h =
      let x = weight_in g.n s.floats in
      let y : ℕ → Float = λ q. last_left (traced g m b (start_of g m b s) budget) q (x q) in
      closed_keeps g m (Told p y) (rebuilt_tells y) (told_moved p y) budget (runs g m b (start_of g m b s) budget)
      (runs_tell x (start_of g m b s) budget (record { kept = start_told s r h; active = omega arith }))

  -- the home reading of what is left: for each sample what the last step that chose it left, else the weight that was lent for it
  pub trained_home : (budget : ℕ) (s : State) → Ready p s → Fresh g.n s → (res : List Float) → g.n ≤ length res → (q : ℕ) → q < g.n
      → get_or (home_reading g.n (trained g m b budget s).state.numbers (weight_in g.n (trained g m b budget s).state.floats) res) q nan
      ≡ last_left (traced g m b (start_of g m b s) budget) q (weight_in g.n s.floats q)
  trained_home budget s r h res l q c =
      let k = (trained_tells budget s r h).kept in
      let o = k.order in
      home_at nan (trained g m b budget s).state.numbers (weight_in g.n (trained g m b budget s).state.floats) res g.n q l o c
      ∙ k.weights (o.place q) (o.inside q c)
      ∙ ap (λ t. last_left (traced g m b (start_of g m b s) budget) t (weight_in g.n s.floats t)) (o.there q c)
