-- Two runs that begin alike over what stands stay so, pass for pass. Assumes nothing.
use Prim.Native.Nat.{ℕ, zero, suc, ◌*◌, ◌<◌, ◌≤◌}
use mathlib.Core.Bool.{Bool, true, false, cond}
use mathlib.Core.List.{List}
use mathlib.Core.Path.{◌≡◌, refl, sym, ap, ap₂, ◌∙◌}
use native.Mathlib.Omega.{arith}
use lib.Ieee.{Float}
use lib.ListN.{length}
use Rattle.std.specs.Prelude.{Option, Some, None}
use Rattle.solver.specs.Pass.{stepped}
use Rattle.solver.specs.Run.{problem_of, Full, goes, advanced, ended}
use Rattle.solver.specs.declared.Given.{Given}
use Rattle.solver.specs.declared.Run.{Run}
use Rattle.state.specs.Lists.{State}
use Rattle.update.proofs.Left.{length_updated}
use Rattle.standing.proofs.Alike.{Alike, SameBounds}
use Rattle.standing.specs.Over.{choice_c_over, choice_nu_over}
use Rattle.standing.specs.Run.{chosen_over, passed_on, next_over, runs_over}
use Rattle.standing.proofs.Choices.{choice_c_alike, choice_nu_alike, pair_c_stands, pair_nu_stands}
use Rattle.standing.proofs.Updates.{updated_alike}

module _ (stands : ℕ → Bool) (g : Given) (m m' : List ℕ) where
  abbrev A : State → State → Type 0
  A s t = Alike stands (problem_of g m) (problem_of g m') s t

  pub chosen_alike : (s t : State) → A s t → chosen_over stands g m s ≡ chosen_over stands g m' t
  unfolding chosen_over
  chosen_alike s t a =
      ap₂ (λ (x y : Option (ℕ × ℕ)). cond g.nu x y)
      (choice_nu_alike stands (problem_of g m) (problem_of g m') s t a g.n (omega arith) g.floor g.eps)
      (choice_c_alike stands (problem_of g m) (problem_of g m') s t a g.n (omega arith) g.floor g.eps)

  pub chosen_stands : (s t : State) → A s t → (i j : ℕ) → chosen_over stands g m s ≡ Some (i, j) → ((i < g.n) × (stands i ≡ true)) × ((j < g.n) × (stands j ≡ true))
  unfolding chosen_over
  chosen_stands s t a i j = go g.nu
    where
      go : (x : Bool)
          → cond x (choice_nu_over stands (problem_of g m) s g.floor g.eps g.n) (choice_c_over stands (problem_of g m) s g.floor g.eps g.n) ≡ Some (i, j)
          → ((i < g.n) × (stands i ≡ true)) × ((j < g.n) × (stands j ≡ true))
      go true e = pair_nu_stands stands (problem_of g m) (problem_of g m') s t a g.n (omega arith) g.floor g.eps i j e
      go false e = pair_c_stands stands (problem_of g m) (problem_of g m') s t a g.n (omega arith) g.floor g.eps i j e

  -- one small record, all positions active, and states that are alike
  pub record Twins (w v : Full) : Type 0 where
    pub run : w.run ≡ v.run
    pub active : w.run.active ≡ g.n
    pub order : w.state.numbers ≡ v.state.numbers
    pub alike : A w.state v.state
    pub long : 7 * g.n ≤ length w.state.floats
    pub long' : 7 * g.n ≤ length v.state.floats

  module _ (b c : List Float) (B : SameBounds stands g.n b c) where
    step_twins : (w v : Full) (i j : ℕ) → ((i < g.n) × (stands i ≡ true)) × ((j < g.n) × (stands j ≡ true)) → Twins w v
        → Twins (stepped g m b w i j) (stepped g m' c v i j)
    unfolding stepped
    step_twins w v i j h r =
        let e : v.run.active ≡ g.n = sym (ap (λ (x : Run). x.active) r.run) ∙ r.active in
        record {
          run = ap advanced r.run;
          active = r.active;
          order = r.order;
          alike = rw (r.active, e)
              (updated_alike stands g.n g.side g.kind m m' b c B g.mode g.floor w.state v.state r.alike r.long r.long' i j h.0.0 h.1.0 h.0.1 h.1.1);
          long = rw (length_updated (problem_of g m) b g.mode g.floor w.state i j w.run.active) r.long;
          long' = rw (length_updated (problem_of g m') c g.mode g.floor v.state i j v.run.active) r.long';
        }

    pass_twins : (w v : Full) (x : Option (ℕ × ℕ)) → chosen_over stands g m w.state ≡ x → Twins w v → Twins (passed_on stands g m b w x) (passed_on stands g m' c v x)
    unfolding passed_on
    pass_twins w v (Some (i, j)) e r = step_twins w v i j (chosen_stands w.state v.state r.alike i j e) r
    pass_twins w v None e r = record { run = ap ended r.run; active = r.active; order = r.order; alike = r.alike; long = r.long; long' = r.long' }

    next_twins : (x : Bool) (w v : Full) → Twins w v → Twins (next_over stands g m b x w) (next_over stands g m' c x v)
    unfolding next_over
    next_twins true w v r = rw (sym (chosen_alike w.state v.state r.alike)) (pass_twins w v (chosen_over stands g m w.state) refl r)
    next_twins false w v r = r

    pub runs_twins : (w v : Full) (t : ℕ) → Twins w v → Twins (runs_over stands g m b w t) (runs_over stands g m' c v t)
    unfolding runs_over
    runs_twins w v zero r = r
    runs_twins w v (suc t) r =
        let z = runs_twins w v t r in
        rw (sym (ap (λ (x : Run). goes x.status) z.run)) (next_twins (goes (runs_over stands g m b w t).run.status) (runs_over stands g m b w t) (runs_over stands g m' c v t) z)

-- nothing moves
module _ (stands : ℕ → Bool) (g : Given) (m : List ℕ) (b : List Float) where
  passed_order : (w : Full) (x : Option (ℕ × ℕ)) → (passed_on stands g m b w x).state.numbers ≡ w.state.numbers
  unfolding passed_on stepped
  passed_order w (Some (i, j)) = refl
  passed_order w None = refl

  next_order : (x : Bool) (w : Full) → (next_over stands g m b x w).state.numbers ≡ w.state.numbers
  unfolding next_over
  next_order true w = passed_order w (chosen_over stands g m w.state)
  next_order false w = refl

  pub runs_order : (w : Full) (t : ℕ) → (runs_over stands g m b w t).state.numbers ≡ w.state.numbers
  unfolding runs_over
  runs_order w zero = refl
  runs_order w (suc t) = next_order (goes (runs_over stands g m b w t).run.status) (runs_over stands g m b w t) ∙ runs_order w t
