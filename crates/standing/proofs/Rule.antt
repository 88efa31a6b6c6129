-- The pair and the stop over those that stand are the written rule's (trace/specs/Rule.antt), asked of those that stand:
--   over_words        the pair that is chosen is the rule's, and the rule's pair is chosen
--   over_none_words   none is chosen exactly where the rule stops
--   runs_went         after t passes: t steps, or fewer and the rule stops in what they leave
-- Assumes nothing.
use Prim.Native.Nat.{ℕ, zero, suc, ◌+◌, ◌<◌}
use mathlib.Core.Bool.{Bool, true, false, cond}
use mathlib.Core.List.{List}
use mathlib.Core.Logic.{◌⊎◌, inl, inr, ◌↔◌}
use mathlib.Core.Path.{◌≡◌, refl, sym, ap, subst}
use native.Mathlib.Omega.{arith}
use lib.Ieee.{Float}
use Rattle.std.specs.Prelude.{Option, Some, None}
use Rattle.solver.specs.Pass.{stepped}
use Rattle.solver.specs.Run.{problem_of, Full, goes}
use Rattle.solver.specs.declared.Given.{Given}
use Rattle.solver.specs.declared.Status.TheVariants.{Going, Done}
use Rattle.state.specs.Lists.{State}
use Rattle.trace.specs.Rule.{ByRule, NoPair}
use Rattle.trace.proofs.Rule.{choice_by, by_words, none_by_words}
use Rattle.standing.specs.Over.{second_over, choice_over, extremes_over, choice_c_over, risen_over, fallen_over, choice_nu_over}
use Rattle.standing.specs.Run.{chosen_over, passed_on, next_over, runs_over}

module _ (stands : ℕ → Bool) (g : Given) (m : List ℕ) where
  chosen_is : (s : State) → chosen_over stands g m s ≡ choice_by stands g m s g.n g.nu
  unfolding chosen_over choice_c_over choice_nu_over choice_over second_over extremes_over risen_over fallen_over
  chosen_is s = go g.nu
    where
      go : (x : Bool) → cond x (choice_nu_over stands (problem_of g m) s g.floor g.eps g.n) (choice_c_over stands (problem_of g m) s g.floor g.eps g.n) ≡ choice_by stands g m s g.n x
      go true = refl
      go false = refl

  pub over_words : (s : State) (i j : ℕ) → (chosen_over stands g m s ≡ Some (i, j)) ↔ ByRule stands g m s g.n i j
  over_words s = by_words stands g m s g.n (chosen_over stands g m s) (chosen_is s)

  pub over_none_words : (s : State) → (chosen_over stands g m s ≡ None) ↔ NoPair stands g m s g.n
  over_none_words s = none_by_words stands g m s g.n (chosen_over stands g m s) (chosen_is s)

  module _ (b : List Float) where
    -- v is left by t passes from i iterations on: all of them stepped, or the run has stopped
    abbrev pub Went : ℕ → ℕ → Full → Type 0
    Went i t v = ((v.run.status ≡ Going) × (v.run.iterations ≡ i + t)) ⊎ ((v.run.status ≡ Done) × (v.run.iterations < i + t) × NoPair stands g m v.state g.n)

    pass_went : (i t : ℕ) (v : Full) (c : Option (ℕ × ℕ)) → chosen_over stands g m v.state ≡ c → v.run.status ≡ Going → v.run.iterations ≡ i + t → Went i (suc t) (passed_on stands g m b v c)
    unfolding passed_on stepped
    pass_went i t v (Some (h, k)) e s q = inl (s, omega arith)
    pass_went i t v None e s q = inr (refl, omega arith, (over_none_words v.state).0 e)

    next_went : (i t : ℕ) (v : Full) → Went i t v → Went i (suc t) (next_over stands g m b (goes v.run.status) v)
    unfolding next_over goes
    next_went i t v (inl (s, q)) =
        subst (λ (x : Bool). Went i (suc t) (next_over stands g m b x v)) (sym (ap goes s)) (pass_went i t v (chosen_over stands g m v.state) refl s q)
    next_went i t v (inr (s, l, z)) = subst (λ (x : Bool). Went i (suc t) (next_over stands g m b x v)) (sym (ap goes s)) (inr (s, omega arith, z))

    pub runs_went : (w : Full) (t : ℕ) → w.run.status ≡ Going → Went w.run.iterations t (runs_over stands g m b w t)
    unfolding runs_over
    runs_went w zero h = inl (h, omega arith)
    runs_went w (suc t) h = next_went w.run.iterations t (runs_over stands g m b w t) (runs_went w t h)
