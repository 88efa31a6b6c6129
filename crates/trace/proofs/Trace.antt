-- The run, told by its passes and by its steps. Assumes nothing.
--
-- Main theorems:
--   state_at: the k-th state of the list is what the k-th pass left, from where the run was going on
--   pass_by_pass: each state is the pass of the one before
--   last_state: the run's end is the last of them, or its start where there is none
--   states_off: a run that has stopped makes no pass; `traced_off`: and no step
--   runs_more: a run of more passes goes on from what the first ones left; `traced_more`: with the same steps and more
--   iterations_are_steps: the iterations of a run grow by the number of its steps
--   steps_at_most: t passes make at most t steps; `steps_going`: exactly t while the run goes on
--   trained_iterations: the count that is answered is the number of steps; `trained_at_most`: at most the budget
--   trained_last: the answer is read off the last state
use Prim.Native.Nat.{ℕ, zero, suc, ◌+◌, ◌≤◌, ◌<◌}
use mathlib.Core.Bool.{Bool, true, false, ◌&&◌, cond, true≢false}
use mathlib.Core.List.{List, [], ◌∷◌, ◌++◌, append-nil, append_assoc}
use mathlib.Core.Logic.{inl, inr}
use mathlib.Core.Path.{◌≡◌, refl, sym, ap, ◌∙◌}
use native.Mathlib.Nat.{add-zero, zero-add, suc-add, eq-or-lt_of_le}
use native.Mathlib.Omega.{arith}
use lib.Dec.{eqb, ltb}
use lib.Ieee.{Float}
use lib.ListN.{length, get_or, length-append, get_or-append}
use lib.Seq.{get_or_at}
use Rattle.std.specs.Prelude.{Option, Some, None}
use Rattle.state.specs.Lists.{State}
use Rattle.solver.specs.End.{closed, trained}
use Rattle.solver.specs.Pass.{chosen, rebuilt, counted_down, passed, next, runs}
use Rattle.solver.specs.Run.{active_at, Full, goes, with_run}
use Rattle.solver.specs.declared.Given.{Given}
use Rattle.solver.proofs.Laws.{counted_iterations, runs_off}
use Rattle.trace.specs.Trace.{look_at, pair_from, steps_of, added, traced, made, states, start_of, last_of}
use Rattle.trace.proofs.Passes.{look_iterations as look-counts, pass_steps, pass_ends}

module _ (g : Given) (m : List ℕ) (b : List Float) (w : Full) where
  -- ---- pass by pass

  -- a run that goes on has made every pass
  going_long : (t : ℕ) → goes (runs g m b w t).run.status ≡ true → length (states g m b w t) ≡ t
  unfolding states runs next made
  going_long zero h = refl
  going_long (suc t) h = go (goes (runs g m b w t).run.status) refl (going_long t) h
    where
      go : (x : Bool) → goes (runs g m b w t).run.status ≡ x → (goes (runs g m b w t).run.status ≡ true → length (states g m b w t) ≡ t)
          → goes (next g m b x (runs g m b w t)).run.status ≡ true → length (states g m b w t ++ made g m b x (runs g m b w t)) ≡ suc t
      go true e ih k = length-append (states g m b w t) _ ∙ (let q = ih e in omega arith)
      go false e ih k = absurd (true≢false (sym k ∙ e))

  -- the k-th pass was made, from where the run was going on, and left what the run has there
  pub record Made (k : ℕ) (v : Full) : Type 0 where
    pub going : goes (runs g m b w k).run.status ≡ true
    pub left : v ≡ passed g m b (runs g m b w k)
    pub there : v ≡ runs g m b w (suc k)

  pub state_at : (t k : ℕ) → k < length (states g m b w t) → Made k (get_or (states g m b w t) k w)
  unfolding states runs next made
  state_at zero k h = let z : ⊥ = omega arith in absurd z
  state_at (suc t) k h = go (goes (runs g m b w t).run.status) refl (state_at t k) (going_long t) h
    where
      now : goes (runs g m b w t).run.status ≡ true → Made t (passed g m b (runs g m b w t))
      now e = record { going = e; left = refl; there = rw e }

      go : (x : Bool) → goes (runs g m b w t).run.status ≡ x → (k < length (states g m b w t) → Made k (get_or (states g m b w t) k w))
          → (goes (runs g m b w t).run.status ≡ true → length (states g m b w t) ≡ t)
          → k < length (states g m b w t ++ made g m b x (runs g m b w t))
          → Made k (get_or (states g m b w t ++ made g m b x (runs g m b w t)) k w)
      go true e ih long l =
          let q = long e in
          let s = length-append (states g m b w t) (passed g m b (runs g m b w t) ∷ []) in
          let r : k ≤ t = omega arith in
          elim (eq-or-lt_of_le r) [
            | inl z ↦ rw (z, get_or_at (states g m b w t) (passed g m b (runs g m b w t)) [] w t q) (now e)
            | inr z ↦ let y : k < length (states g m b w t) = omega arith in rw (get_or-append (states g m b w t) (passed g m b (runs g m b w t) ∷ []) w k y) (ih y)
          ]
      go false e ih long l = let z = append-nil (states g m b w t) in rw z (ih (rw z at l))

  -- each made pass leaves the pass of the one before: of the state after k passes, and of w where there is none
  pub pass_by_pass : (t k : ℕ) → k < length (states g m b w t) → get_or (states g m b w t) k w ≡ passed g m b (get_or (w ∷ states g m b w t) k w)
  unfolding runs
  pass_by_pass t zero h = (state_at t zero h).left
  pass_by_pass t (suc k) h = (state_at t (suc k) h).left ∙ ap (passed g m b) (sym (state_at t k (omega arith)).there)

  last_more : (w : Full) (vs us : List Full) → last_of w (vs ++ us) ≡ last_of (last_of w vs) us
  unfolding last_of
  last_more w [] us = refl
  last_more w (v ∷ vs) us = last_more v vs us

  -- the run's end is the last of them, and w where there is none
  pub last_state : (t : ℕ) → last_of w (states g m b w t) ≡ runs g m b w t
  unfolding last_of states runs next made
  last_state zero = refl
  last_state (suc t) =
      let v = runs g m b w t in
      last_more w (states g m b w t) (made g m b (goes v.run.status) v) ∙ rw (last_state t) (go (goes v.run.status))
    where
      go : (x : Bool) → last_of (runs g m b w t) (made g m b x (runs g m b w t)) ≡ next g m b x (runs g m b w t)
      go true = refl
      go false = refl

  -- a run that has stopped makes no pass and no step
  pub states_off : (t k : ℕ) → goes (runs g m b w t).run.status ≡ false → states g m b w (k + t) ≡ states g m b w t
  unfolding states made
  states_off t zero h = simp zero-add
  states_off t (suc k) h = rw (suc-add, runs_off g m w b t k h, h) (append-nil (states g m b w (k + t)) ∙ states_off t k h)

  pub traced_off : (t k : ℕ) → goes (runs g m b w t).run.status ≡ false → traced g m b w (k + t) ≡ traced g m b w t
  unfolding traced added
  traced_off t zero h = simp zero-add
  traced_off t (suc k) h = rw (suc-add, runs_off g m w b t k h, h) (append-nil (traced g m b w (k + t)) ∙ traced_off t k h)

  -- the first t passes of a run are the run of t passes: a longer one goes on from there
  pub runs_more : (t u : ℕ) → runs g m b w (u + t) ≡ runs g m b (runs g m b w t) u
  unfolding runs
  runs_more t zero = simp zero-add
  runs_more t (suc u) = rw (suc-add) (ap (λ (v : Full). next g m b (goes v.run.status) v) (runs_more t u))

  pub traced_more : (t u : ℕ) → traced g m b w (u + t) ≡ traced g m b w t ++ traced g m b (runs g m b w t) u
  unfolding traced
  traced_more t zero = rw (zero-add) (sym (append-nil (traced g m b w t)))
  traced_more t (suc u) =
      let v = runs g m b (runs g m b w t) u in
      rw (suc-add, traced_more t u, runs_more t u) (append_assoc (traced g m b w t) (traced g m b (runs g m b w t) u) (added g m b (goes v.run.status) v))

-- ---- iterations

module _ (g : Given) (m : List ℕ) (b : List Float) where
  look_iterations : (w : Full) → (look_at g m (counted_down g m w)).run.iterations ≡ w.run.iterations
  look_iterations w =
      let v = counted_down g m w in
      look-counts g m v (chosen g m v) ∙ counted_iterations g m w

  -- a pass is as many iterations as it adds steps
  pass_iterations : (w : Full) → (passed g m b w).run.iterations ≡ w.run.iterations + length (steps_of g m (passed g m b w) (pair_from g m w))
  unfolding steps_of
  pass_iterations w = go (pair_from g m w) refl
    where
      go : (c : Option (ℕ × ℕ)) → pair_from g m w ≡ c → (passed g m b w).run.iterations ≡ w.run.iterations + length (steps_of g m (passed g m b w) c)
      go (Some (i, j)) e = let x = (pass_steps g m b w i j e).iterations in let y = look_iterations w in omega arith
      go None e =
          let y = counted_iterations g m w in
          elim (pass_ends g m b w e) [
            | inl z ↦ let x = ap (λ (v : Full). v.run.iterations) z.1 in omega arith
            | inr z ↦ let x = z.iterations in omega arith
          ]

  next_iterations : (x : Bool) (w : Full) → (next g m b x w).run.iterations ≡ w.run.iterations + length (added g m b x w)
  unfolding next added
  next_iterations true w = pass_iterations w
  next_iterations false w = sym (add-zero w.run.iterations)

  -- each step is one iteration, and nothing else is
  pub iterations_are_steps : (w : Full) (t : ℕ) → (runs g m b w t).run.iterations ≡ w.run.iterations + length (traced g m b w t)
  unfolding runs traced
  iterations_are_steps w zero = sym (add-zero w.run.iterations)
  iterations_are_steps w (suc t) =
      let v = runs g m b w t in
      let x = goes v.run.status in
      let p = next_iterations x v in
      let q = iterations_are_steps w t in
      let r = length-append (traced g m b w t) (added g m b x v) in
      omega arith

  -- ---- at most one step in each pass, and one in each while the run goes on

  one_at_most : (x : Bool) (w : Full) → length (added g m b x w) ≤ 1
  unfolding added steps_of
  one_at_most true w = go (pair_from g m w)
    where
      go : (c : Option (ℕ × ℕ)) → length (steps_of g m (passed g m b w) c) ≤ 1
      go (Some (i, j)) = omega arith
      go None = omega arith
  one_at_most false w = omega arith

  pub steps_at_most : (w : Full) (t : ℕ) → length (traced g m b w t) ≤ t
  unfolding traced
  steps_at_most w zero = omega arith
  steps_at_most w (suc t) =
      let v = runs g m b w t in
      let x = goes v.run.status in
      let p = one_at_most x v in
      let q = steps_at_most w t in
      let r = length-append (traced g m b w t) (added g m b x v) in
      omega arith

  -- a pass after which the run goes on has made a step
  onward_one : (w : Full) → goes (passed g m b w).run.status ≡ true → length (steps_of g m (passed g m b w) (pair_from g m w)) ≡ 1
  unfolding steps_of goes
  onward_one w h = go (pair_from g m w) refl
    where
      go : (c : Option (ℕ × ℕ)) → pair_from g m w ≡ c → length (steps_of g m (passed g m b w) c) ≡ 1
      go (Some (i, j)) e = refl
      go None e = elim (pass_ends g m b w e) [
        | inl z ↦ absurd (true≢false (sym h ∙ ap (λ (v : Full). goes v.run.status) z.1 ∙ z.0))
        | inr z ↦ absurd (true≢false (sym h ∙ ap goes z.status))
      ]

  pub steps_going : (w : Full) (t : ℕ) → goes (runs g m b w t).run.status ≡ true → length (traced g m b w t) ≡ t
  unfolding runs next traced added
  steps_going w zero h = refl
  steps_going w (suc t) h = go (goes (runs g m b w t).run.status) refl (steps_going w t) h
    where
      go : (x : Bool) → goes (runs g m b w t).run.status ≡ x → (goes (runs g m b w t).run.status ≡ true → length (traced g m b w t) ≡ t)
          → goes (next g m b x (runs g m b w t)).run.status ≡ true → length (traced g m b w t ++ added g m b x (runs g m b w t)) ≡ suc t
      go true e ih k =
          let v = runs g m b w t in
          let q = ih e in
          let o = onward_one v k in
          let r = length-append (traced g m b w t) (steps_of g m (passed g m b v) (pair_from g m v)) in
          omega arith
      go false e ih k = absurd (true≢false (sym k ∙ e))

  pub closed_iterations : (budget : ℕ) (w : Full) → (closed g m budget w).run.iterations ≡ w.run.iterations
  unfolding closed
  closed_iterations budget w = go (eqb w.run.iterations budget && ltb w.run.active g.n)
    where
      go : (x : Bool) → (cond x (with_run (rebuilt g m w) (active_at w.run g.n)) w).run.iterations ≡ w.run.iterations
      go true = refl
      go false = refl

  -- start, run, end: the count that is answered is the number of steps
  pub trained_iterations : (budget : ℕ) (s : State) → (trained g m b budget s).run.iterations ≡ length (traced g m b (start_of g m b s) budget)
  unfolding trained
  trained_iterations budget s =
      closed_iterations budget (runs g m b (start_of g m b s) budget)
      ∙ iterations_are_steps (start_of g m b s) budget
      ∙ zero-add (length (traced g m b (start_of g m b s) budget))

  pub trained_at_most : (budget : ℕ) (s : State) → (trained g m b budget s).run.iterations ≤ budget
  trained_at_most budget s =
      let e = trained_iterations budget s in
      let l = steps_at_most (start_of g m b s) budget in
      omega arith

  -- the answer is read off the last state of those passes
  pub trained_last : (budget : ℕ) (s : State) → trained g m b budget s ≡ closed g m budget (last_of (start_of g m b s) (states g m b (start_of g m b s) budget))
  unfolding trained
  trained_last budget s = ap (closed g m budget) (sym (last_state g m b (start_of g m b s) budget))
