-- Where ceilings travel every answer is what it is where they don't, of each entry, refusals and lent lists too: with one common ceiling, and with
-- shrinking off. Assumes nothing.
use Prim.Native.Nat.{ℕ, ◌*◌, ◌≤◌, ◌<◌}
use mathlib.Core.Bool.{Bool, true, false}
use mathlib.Core.List.{List}
use mathlib.Core.Logic.{◌⊎◌, inl, inr}
use mathlib.Core.Path.{◌≡◌, refl, ap, ◌∙◌}
use native.Mathlib.Omega.{arith}
use lib.Dec.{eqb}
use lib.Ieee.{Float, nan}
use lib.ListN.{length, get_or}
use Rattle.alpha.specs.Weight.{one, minus_one}
use Rattle.answer.specs.Lent.{Lent, Whole}
use Rattle.answer.specs.Solved.{level_at, home_of, crate_of, settled_by, closed_with, solved, stuck}
use Rattle.answer.specs.declared.Finish.{Finish}
use Rattle.answer.specs.declared.Finish.TheVariants.{Plain, Signed, Scaled}
use Rattle.classification.specs.Entries.{given_by, scratch_of, decided, fitted, general_tuned_sized, fit_c_tuned_sized, fit_nu_tuned_sized, fit_one_class_tuned_sized}
use Rattle.fits.specs.Load.{loaded}
use Rattle.fits.specs.Starts.{nothing, evenly, all_positive, cost_of, costs_to, half, shared_to, one_class_to}
use Rattle.fits.proofs.Loaded.{ceiling_loaded, length_floats}
use Rattle.fits.proofs.Starts.{evenly_at, cost_at}
use Rattle.judge.specs.Judge.{general_judged, c_judged, nu_judged, one_class_judged, floor_judged}
use Rattle.kernel.specs.declared.Kind.TheVariants.{TwoClass, OneClass}
use Rattle.modes.specs.Modes.{repaired}
use Rattle.modes.specs.declared.Mode.TheVariants.{Crate, Travelling}
use Rattle.solver.specs.End.{trained}
use Rattle.solver.specs.Run.{Full}
use Rattle.solver.specs.declared.Given.{Given}
use Rattle.trace.specs.Modes.{in_mode}
use Rattle.trace.proofs.Modes.{Placed, trained_common, trained_off}
use Rattle.tuning.specs.Tuning.{tuned}
use Rattle.promises.proofs.Boxes.{same_cost}
use Rattle.std.specs.Prelude.{⊤, Result}
use Rattle.judge.specs.declared.Refusal.{Refusal}

-- ---- a fit

module _ (g : Given) (how : Finish) (m l : List ℕ) (c a p : List Float) (budget : ℕ) (d : Lent) where
  -- what isn't the run asks for no mode
  settled_modes : (x : Bool) (w : Full) → settled_by x (in_mode Travelling g) how l budget w d.crate d.home ≡ settled_by x (in_mode Crate g) how l budget w d.crate d.home
  unfolding settled_by level_at home_of crate_of repaired
  settled_modes true w = refl
  settled_modes false w = refl

  module _ (room : 7 * g.n ≤ length d.floats) where
    placed : Placed g m c (loaded g.n l c a p (scratch_of d))
    placed = record {
      room = rw (length_floats g.n c a p d.floats g.n) room;
      upper = λ k h. ceiling_loaded g.n c a p d.floats room g.n k (omega arith) h;
    }

    fitted_by : trained (in_mode Travelling g) m c budget (loaded g.n l c a p (scratch_of d)) ≡ trained (in_mode Crate g) m c budget (loaded g.n l c a p (scratch_of d))
        → fitted (in_mode Travelling g) how m l c a p budget d ≡ fitted (in_mode Crate g) how m l c a p budget d
    unfolding fitted solved
    fitted_by e =
        let w = trained (in_mode Crate g) m c budget (loaded g.n l c a p (scratch_of d)) in
        rw e (ap (closed_with g.n w.state) (settled_modes (stuck w.run.status) w))

    fitted_common : (b : Float) → ((k : ℕ) → k < g.n → get_or c k nan ≡ b) → fitted (in_mode Travelling g) how m l c a p budget d ≡ fitted (in_mode Crate g) how m l c a p budget d
    fitted_common b same = fitted_by (trained_common g m c b same budget (loaded g.n l c a p (scratch_of d)) placed)

    fitted_off : g.shrinking ≡ false → fitted (in_mode Travelling g) how m l c a p budget d ≡ fitted (in_mode Crate g) how m l c a p budget d
    fitted_off off = fitted_by (trained_off g m c off budget (loaded g.n l c a p (scratch_of d)) placed)

-- ---- an entry: the refusals are the same, so what is left is the fit; ModesWhole.antt has the entries with the sizes that are judged first

decided_by : (j : Result ⊤ Refusal) (w v : Whole) (d : Lent) → w ≡ v → decided j w d ≡ decided j v d
decided_by j w v d h = ap (λ (z : Whole). decided j z d) h

-- ---- the entries, under a floor x; what follows the sizes by itself

module _ (x : Float) (n : ℕ) (m l : List ℕ) (eps : Float) (shrinking : Bool) (budget : ℕ) (d : Lent) where
  module _ (room : 7 * n ≤ length d.floats) (most : n ≤ 512) where
    pub general_sized_modes : (c a p : List Float) (nurule : Bool) (b : Float) → ((i : ℕ) → i < n → get_or c i nan ≡ b) ⊎ (shrinking ≡ false)
        → general_tuned_sized (tuned x Travelling) n m l c a p nurule eps shrinking budget d ≡ general_tuned_sized (tuned x Crate) n m l c a p nurule eps shrinking budget d
    unfolding general_tuned_sized
    general_sized_modes c a p nurule b h =
        let g = given_by (tuned x Crate) n TwoClass eps shrinking nurule in
        decided_by (floor_judged x (general_judged n m l c a p eps budget)) _ _ d
        (elim h [ inl e ↦ fitted_common g Plain m l c a p budget d room b e | inr e ↦ fitted_off g Plain m l c a p budget d room e ])

    pub c_sized_modes : (cpos cneg : Float) → (cpos ≡ cneg) ⊎ (shrinking ≡ false)
        → fit_c_tuned_sized (tuned x Travelling) n m l cpos cneg eps shrinking budget d ≡ fit_c_tuned_sized (tuned x Crate) n m l cpos cneg eps shrinking budget d
    unfolding fit_c_tuned_sized
    c_sized_modes cpos cneg h =
        let g = given_by (tuned x Crate) n TwoClass eps shrinking false in
        let c = costs_to cpos cneg l nothing n in
        decided_by (floor_judged x (c_judged n m l cpos cneg eps budget)) _ _ d
        (elim h [
          | inl e ↦ fitted_common g Signed m l c nothing (evenly minus_one n) budget d room cneg
              (λ i q. cost_at n i most q cpos cneg l ∙ ap (λ (y : Float). cost_of y cneg (get_or l i 0)) e ∙ same_cost cneg (eqb (get_or l i 0) 1))
          | inr e ↦ fitted_off g Signed m l c nothing (evenly minus_one n) budget d room e
        ])

    -- every ceiling is 1
    pub nu_sized_modes : (nu : Float) → fit_nu_tuned_sized (tuned x Travelling) n m l nu eps shrinking budget d ≡ fit_nu_tuned_sized (tuned x Crate) n m l nu eps shrinking budget d
    unfolding fit_nu_tuned_sized
    nu_sized_modes nu =
        let g = given_by (tuned x Crate) n TwoClass eps shrinking true in
        decided_by (floor_judged x (nu_judged n m l nu eps budget)) _ _ d
        (fitted_common g Scaled m l (evenly one n) (shared_to (half nu n) l nothing n) nothing budget d room one (λ i q. evenly_at n i most q one))

    pub one_class_sized_modes : (nu : Float) → fit_one_class_tuned_sized (tuned x Travelling) n m nu eps shrinking budget d ≡ fit_one_class_tuned_sized (tuned x Crate) n m nu eps shrinking budget d
    unfolding fit_one_class_tuned_sized
    one_class_sized_modes nu =
        let g = given_by (tuned x Crate) n OneClass eps shrinking false in
        decided_by (floor_judged x (one_class_judged n m nu eps budget)) _ _ d
        (fitted_common g Plain m (all_positive n) (evenly one n) (one_class_to nu n nothing n) nothing budget d room one (λ i q. evenly_at n i most q one))
