-- The steps of a run over what stands: who steps, how many there are, what they leave a sample, and what stays with it. Assumes nothing.
use Prim.Native.Nat.{ℕ, zero, suc, ◌+◌, ◌*◌, ◌≤◌, ◌<◌}
use mathlib.Core.Bool.{Bool, true, false}
use mathlib.Core.List.{List, ◌++◌}
use mathlib.Core.Path.{◌≡◌, refl, sym, ◌∙◌}
use native.Mathlib.Omega.{arith}
use lib.Ieee.{Float, nan}
use lib.ListN.{length, get_or, length-append}
use Rattle.std.specs.Prelude.{Option, Some, None}
use Rattle.readings.specs.Order.{weight_in}
use Rattle.solver.specs.Pass.{stepped}
use Rattle.solver.specs.Run.{problem_of, Full, goes}
use Rattle.solver.specs.declared.Given.{Given}
use Rattle.start.specs.Start.{started}
use Rattle.state.specs.Fields.{sample}
use Rattle.state.specs.Lists.{Problem, State, Ready}
use Rattle.trace.specs.Trace.{steps_of, start_of}
use Rattle.travel.specs.Home.{last_left, Told}
use Rattle.travel.specs.Travel.{Fresh, Travelled}
use Rattle.travel.proofs.Home.{last_more, told_step, start_told}
use Rattle.travel.proofs.Travel.{Settled, settled_stays, started_stays, updated_stays, fresh_travelled}
use Rattle.update.specs.Update.{updated, updated_state}
use Rattle.standing.specs.Run.{chosen_over, passed_on, next_over, runs_over, added_over, traced_over}
use Rattle.standing.proofs.Off.{alike_self}
use Rattle.standing.proofs.Runs.{chosen_stands}

module _ (stands : ℕ → Bool) (g : Given) (m : List ℕ) (b : List Float) where
  abbrev p : Problem
  p = problem_of g m

  -- all positions are active, and K holds of the state
  pub record All (K : State → Type 0) (w : Full) : Type 0 where
    pub kept : K w.state
    pub active : w.run.active ≡ g.n

  -- ---- who steps, and how often

  -- both samples of a pair stand
  pub pair_stands : (w : Full) (i j : ℕ) → chosen_over stands g m w.state ≡ Some (i, j) → ((i < g.n) × (stands i ≡ true)) × ((j < g.n) × (stands j ≡ true))
  pair_stands w = chosen_stands stands g m m w.state w.state (alike_self stands p w.state)

  -- a pass counts the steps that it adds
  pass_counts : (w : Full) (c : Option (ℕ × ℕ)) → (passed_on stands g m b w c).run.iterations ≡ w.run.iterations + length (steps_of g m (passed_on stands g m b w c) c)
  unfolding passed_on stepped steps_of
  pass_counts w (Some (i, j)) = refl
  pass_counts w None = omega arith

  next_counts : (on : Bool) (w : Full) → (next_over stands g m b on w).run.iterations ≡ w.run.iterations + length (added_over stands g m b on w)
  unfolding next_over added_over
  next_counts true w = pass_counts w (chosen_over stands g m w.state)
  next_counts false w = omega arith

  added_few : (on : Bool) (w : Full) → length (added_over stands g m b on w) ≤ 1
  unfolding added_over steps_of
  added_few true w = go (chosen_over stands g m w.state)
    where
      go : (c : Option (ℕ × ℕ)) → length (steps_of g m (passed_on stands g m b w c) c) ≤ 1
      go (Some (i, j)) = omega arith
      go None = omega arith
  added_few false w = omega arith

  -- the iterations of the first t passes are their steps, at most t of them
  pub runs_count : (w : Full) (t : ℕ) → (runs_over stands g m b w t).run.iterations ≡ w.run.iterations + length (traced_over stands g m b w t)
  unfolding runs_over traced_over
  runs_count w zero = omega arith
  runs_count w (suc t) =
      let v = runs_over stands g m b w t in
      let e = next_counts (goes v.run.status) v in
      let i = runs_count w t in
      let l = length-append (traced_over stands g m b w t) (added_over stands g m b (goes v.run.status) v) in
      omega arith

  pub traced_few : (w : Full) (t : ℕ) → length (traced_over stands g m b w t) ≤ t
  unfolding traced_over
  traced_few w zero = omega arith
  traced_few w (suc t) =
      let v = runs_over stands g m b w t in
      let e = added_few (goes v.run.status) v in
      let i = traced_few w t in
      let l = length-append (traced_over stands g m b w t) (added_over stands g m b (goes v.run.status) v) in
      omega arith

  -- ---- the weights: x is what each sample has

  pass_tells : (x : ℕ → Float) (w : Full) (c : Option (ℕ × ℕ)) → chosen_over stands g m w.state ≡ c → All (Told p x) w
      → All (Told p (λ q. last_left (steps_of g m (passed_on stands g m b w c) c) q (x q))) (passed_on stands g m b w c)
  unfolding passed_on stepped steps_of last_left
  pass_tells x w (Some (i, j)) e k =
      let h = pair_stands w i j e in
      let a = k.active in
      record {
        kept = told_step g m b x w.state (stepped g m b w i j) i j w.run.active (omega (arith, h.0.0)) (omega (arith, h.1.0)) (omega arith) refl k.kept;
        active = k.active;
      }
  pass_tells x w None e k = record { kept = k.kept; active = k.active }

  next_tells : (x : ℕ → Float) (on : Bool) (w : Full) → All (Told p x) w
      → All (Told p (λ q. last_left (added_over stands g m b on w) q (x q))) (next_over stands g m b on w)
  unfolding next_over added_over last_left
  next_tells x true w k = pass_tells x w (chosen_over stands g m w.state) refl k
  next_tells x false w k = record { kept = k.kept; active = k.active }

  told_same : (x y : ℕ → Float) (w : Full) → ((q : ℕ) → x q ≡ y q) → All (Told p x) w → All (Told p y) w
  told_same x y w h k = record {
    kept = record { ready = k.kept.ready; order = k.kept.order; weights = λ l c. k.kept.weights l c ∙ h (sample w.state l) };
    active = k.active;
  }

  runs_tell : (x : ℕ → Float) (w : Full) (t : ℕ) → All (Told p x) w → All (Told p (λ q. last_left (traced_over stands g m b w t) q (x q))) (runs_over stands g m b w t)
  unfolding runs_over traced_over last_left
  runs_tell x w zero k = record { kept = k.kept; active = k.active }
  runs_tell x w (suc t) k =
      let v = runs_over stands g m b w t in
      let es = traced_over stands g m b w t in
      let fs = added_over stands g m b (goes v.run.status) v in
      told_same (λ q. last_left fs q (last_left es q (x q))) (λ q. last_left (es ++ fs) q (x q)) (next_over stands g m b (goes v.run.status) v)
      (λ q. sym (last_more es fs q (x q)))
      (next_tells (λ q. last_left es q (x q)) (goes v.run.status) v (runs_tell x w t k))

  -- after t passes: each sample's weight at the start, or what the last step that chose it left
  pub told_over : (s : State) → Ready p s → Fresh g.n s → (t : ℕ)
      → Told p (λ q. last_left (traced_over stands g m b (start_of g m b s) t) q (weight_in g.n s.floats q)) (runs_over stands g m b (start_of g m b s) t).state
  told_over s r h t = (runs_tell (weight_in g.n s.floats) (start_of g m b s) t (record { kept = start_told g m b s r h; active = refl })).kept

  -- ---- what each update keeps

  module _ (K : State → Type 0) (on_pair : (s : State) (i j : ℕ) → i < g.n → j < g.n → K s → K (updated_state p b g.mode g.floor s i j g.n)) where
    pass_keeps : (w : Full) (c : Option (ℕ × ℕ)) → chosen_over stands g m w.state ≡ c → All K w → All K (passed_on stands g m b w c)
    unfolding passed_on stepped
    pass_keeps w (Some (i, j)) e k =
        let h = pair_stands w i j e in
        record { kept = rw k.active (on_pair w.state i j h.0.0 h.1.0 k.kept); active = k.active }
    pass_keeps w None e k = record { kept = k.kept; active = k.active }

    next_keeps : (on : Bool) (w : Full) → All K w → All K (next_over stands g m b on w)
    unfolding next_over
    next_keeps true w k = pass_keeps w (chosen_over stands g m w.state) refl k
    next_keeps false w k = k

    pub runs_keep : (w : Full) (t : ℕ) → All K w → All K (runs_over stands g m b w t)
    unfolding runs_over
    runs_keep w zero k = k
    runs_keep w (suc t) k = next_keeps (goes (runs_over stands g m b w t).run.status) (runs_over stands g m b w t) (runs_keep w t k)

  -- ---- kernel index, label and linear term

  -- after t passes: each sample has the kernel index, the label and the linear term that were loaded for it
  pub travelled_over : (s : State) → Ready p s → Fresh g.n s → (t : ℕ)
      → Travelled g.n (λ k. get_or s.labels k 0) (λ k. get_or s.floats (4 * g.n + k) nan) (runs_over stands g m b (start_of g m b s) t).state
  travelled_over s r h t =
      let x : ℕ → ℕ = λ k. get_or s.labels k 0 in
      let y : ℕ → Float = λ k. get_or s.floats (4 * g.n + k) nan in
      (runs_keep (Settled p x y)
      (λ u i j hi hj k. settled_stays p x y u (updated p b g.mode g.floor u i j g.n) (updated_stays p u b g.mode g.floor i j g.n hi hj (omega arith) k.ready) k)
      (start_of g m b s) t
      (record { kept = settled_stays p x y s (started p b s) (started_stays p s b) (record { ready = r; travelled = fresh_travelled p s r h }); active = refl })).kept.travelled
