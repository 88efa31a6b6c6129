-- With shrinking off and what is retired silent, the rule's run is the run over what stands. Assumes nothing.
use Prim.Native.Nat.{ℕ, zero, suc, ◌+◌, ◌*◌, ◌<◌, ◌≤◌}
use mathlib.Core.Bool.{Bool, true, false, cond, true≢false}
use mathlib.Core.List.{List}
use mathlib.Core.Path.{◌≡◌, refl, sym, ap, ap₂, ◌∙◌}
use native.Mathlib.Omega.{arith}
use lib.Ieee.{Float}
use lib.ListN.{length}
use Rattle.std.specs.Prelude.{Option, Some, None}
use Rattle.alpha.specs.Weight.{at_lower}
use Rattle.modes.specs.declared.Mode.{Mode}
use Rattle.rounding.proofs.Nan.{nan_add}
use Rattle.solver.specs.End.{trained}
use Rattle.solver.specs.Pass.{chosen, counted_down, stepped, looked, worked_by, onward, passed, next, runs}
use Rattle.solver.specs.Run.{problem_of, Full, full, with_run, goes, ended, ready_of}
use Rattle.solver.specs.declared.Given.{Given}
use Rattle.start.specs.Start.{started}
use Rattle.state.specs.Lists.{Problem, State, over}
use Rattle.trace.proofs.Off.{refreshed_off, closed_off, counted_off}
use Rattle.update.specs.Update.{updated_state}
use Rattle.update.proofs.Left.{length_updated, alpha_other, gradient_active}
use Rattle.standing.proofs.Alike.{Alike}
use Rattle.standing.specs.Run.{chosen_over, passed_on, next_over, runs_over, trained_over}
use Rattle.standing.proofs.Runs.{chosen_stands}
use Rattle.standing.proofs.Silent.{Silent, choice_c_silent, choice_nu_silent}

pub alike_self : (stands : ℕ → Bool) (p : Problem) (s : State) → Alike stands p p s s
alike_self stands p s = record {
  gradients = λ k l h. refl;
  weights = λ k l. refl;
  uppers = λ k l h. refl;
  terms = λ k l h. refl;
  labels = λ k l h. refl;
  diagonals = λ k l h. refl;
  rows = λ i k l c h d. refl;
}

-- what is retired stays silent
pub silent_updated : (stands : ℕ → Bool) (p : Problem) (b : List Float) (mode : Mode) (floor : Float) (s : State) (i j : ℕ) → i < p.n → j < p.n → stands i ≡ true → stands j ≡ true
    → 7 * p.n ≤ length s.floats → Silent stands p s → Silent stands p (updated_state p b mode floor s i j p.n)
silent_updated stands p b mode floor s i j I J hi hj long S = record {
  gradients = λ k l h. gradient_active p b mode floor s i j p.n I J (omega arith) long k l ∙ rw (S.gradients k l h) (nan_add _);
  weights = λ k l h.
      ap at_lower (alpha_other p b mode floor s i j p.n I J (omega arith) long k l
      (λ e. true≢false (sym hi ∙ ap stands (sym e) ∙ h)) (λ e. true≢false (sym hj ∙ ap stands (sym e) ∙ h)))
      ∙ S.weights k l h;
}

module _ (stands : ℕ → Bool) (g : Given) (m : List ℕ) (off : g.shrinking ≡ false) where
  abbrev p : Problem
  p = problem_of g m

  -- the pair of the rule is the pair over what stands
  pub chosen_silent : (w : Full) → w.run.active ≡ g.n → Silent stands p w.state → chosen g m w ≡ chosen_over stands g m w.state
  unfolding chosen chosen_over
  chosen_silent w e S =
      rw e (ap₂ (λ (x y : Option (ℕ × ℕ)). cond g.nu x y)
      (choice_nu_silent stands p w.state S g.n (omega arith) g.floor g.eps)
      (choice_c_silent stands p w.state S g.n (omega arith) g.floor g.eps))

  -- the same but for the counter
  pub record Kin (w v : Full) : Type 0 where
    pub state : w.state ≡ v.state
    pub iterations : w.run.iterations ≡ v.run.iterations
    pub status : w.run.status ≡ v.run.status
    pub active : w.run.active ≡ g.n
    pub active' : v.run.active ≡ g.n

  counted_kin : (w v : Full) → Kin w v → Kin (counted_down g m w) v
  counted_kin w v k =
      let c = counted_off g m off w in
      record { state = c.state ∙ k.state; iterations = c.iterations ∙ k.iterations; status = c.status ∙ k.status; active = c.active ∙ k.active; active' = k.active' }

  module _ (b : List Float) where
    pub record Goes (w v : Full) : Type 0 where
      pub kin : Kin w v
      pub silent : Silent stands p v.state
      pub long : 7 * g.n ≤ length v.state.floats

    step_goes : (w v : Full) (i j : ℕ) → ((i < g.n) × (stands i ≡ true)) × ((j < g.n) × (stands j ≡ true)) → Goes w v → Goes (stepped g m b w i j) (stepped g m b v i j)
    unfolding stepped
    step_goes w v i j h k =
        let e = k.kin in
        record {
          kin = record {
            state = rw (e.state, e.active, e.active');
            iterations = ap (λ (x : ℕ). x + 1) e.iterations;
            status = e.status;
            active = e.active;
            active' = e.active';
          };
          silent = rw e.active' (silent_updated stands p b g.mode g.floor v.state i j h.0.0 h.1.0 h.0.1 h.1.1 k.long k.silent);
          long = rw (length_updated p b g.mode g.floor v.state i j v.run.active) k.long;
        }

    ended_goes : (w v : Full) → Goes w v → Goes (with_run w (ended w.run)) (with_run v (ended v.run))
    ended_goes w v k =
        let e = k.kin in
        record {
          kin = record { state = e.state; iterations = e.iterations; status = refl; active = e.active; active' = e.active' };
          silent = k.silent;
          long = k.long;
        }

    worked_goes : (w v : Full) (c : Option (ℕ × ℕ)) → chosen g m w ≡ c → chosen_over stands g m v.state ≡ c → Goes w v → Goes (worked_by g m b w c) (passed_on stands g m b v c)
    unfolding worked_by passed_on looked
    worked_goes w v (Some (i, j)) q r k = step_goes w v i j (chosen_stands stands g m m v.state v.state (alike_self stands p v.state) i j r) k
    worked_goes w v None q r k = rw (refreshed_off g m w k.kin.active, q) (ended_goes w v k)

    pass_goes : (w v : Full) → goes v.run.status ≡ true → Goes w v → Goes (passed g m b w) (passed_on stands g m b v (chosen_over stands g m v.state))
    unfolding passed onward
    pass_goes w v h k =
        let u = counted_down g m w in
        let e : Kin u v = counted_kin w v k.kin in
        let s : Silent stands p u.state = rw e.state k.silent in
        let q : chosen g m u ≡ chosen_over stands g m v.state = chosen_silent u e.active s ∙ ap (chosen_over stands g m) e.state in
        rw (ap goes e.status, h, q) (worked_goes u v (chosen_over stands g m v.state) q refl (record { kin = e; silent = k.silent; long = k.long }))

    next_goes : (x : Bool) (w v : Full) → goes v.run.status ≡ x → Goes w v → Goes (next g m b x w) (next_over stands g m b x v)
    unfolding next next_over
    next_goes true w v h k = pass_goes w v h k
    next_goes false w v h k = k

    pub runs_goes : (w v : Full) (t : ℕ) → Goes w v → Goes (runs g m b w t) (runs_over stands g m b v t)
    unfolding runs runs_over
    runs_goes w v zero k = k
    runs_goes w v (suc t) k =
        let z = runs_goes w v t k in
        let x = runs g m b w t in
        let y = runs_over stands g m b v t in
        rw (ap goes z.kin.status) (next_goes (goes y.run.status) x y refl z)

    -- the whole: s has been started silent
    pub trained_goes : (budget : ℕ) (s : State) → Silent stands p (over s (started p b s)) → 7 * g.n ≤ length (started p b s)
        → Goes (trained g m b budget s) (trained_over stands g m b budget s)
    unfolding trained trained_over
    trained_goes budget s S long =
        let w = full (ready_of g.n) (started p b s) s.numbers s.labels in
        let k = runs_goes w w budget (record { kin = record { state = refl; iterations = refl; status = refl; active = refl; active' = refl }; silent = S; long = long }) in
        rw (closed_off g m budget (runs g m b w budget) k.kin.active) k
