-- What the sizes and the verdict give to the run. Assumes nothing.
use Prim.Native.Nat.{ℕ, ◌*◌, ◌≤◌}
use mathlib.Core.Bool.{true, ◌&&◌}
use mathlib.Core.List.{List}
use mathlib.Core.Path.{◌≡◌, sym}
use native.Mathlib.Nat.{le_of_eq}
use borrow.Author.Tests.{leb-true}
use lib.Dec.{eqb, ltb, leb}
use lib.Ieee.{Float}
use lib.ListN.{length}
use Rattle.answer.specs.Lent.{Lent, lent, Whole}
use Rattle.answer.specs.Solved.{solved}
use Rattle.answer.specs.declared.Finish.{Finish}
use Rattle.fits.specs.Load.{loaded}
use Rattle.fits.proofs.Loaded.{ready_loaded, paired_loaded}
use Rattle.judge.specs.Judge.{first, entry_good, budget_good, general_judged, c_judged, nu_judged, one_class_judged}
use Rattle.judge.proofs.Accepted.{matrix_fine, general_fine, c_fine, nu_fine, one_class_fine}
use Rattle.judge.proofs.Lengths.{long_enough}
use Rattle.kernel.specs.Matrix.{Matrix}
use Rattle.rounding.proofs.Order.{both}
use Rattle.solver.specs.Run.{problem_of}
use Rattle.solver.specs.declared.Given.{Given}
use Rattle.state.specs.Lists.{State, Ready}
use Rattle.travel.specs.Travel.{Paired}
use Rattle.classification.specs.Entries.{scratch_of, fitted}
use Rattle.std.specs.Prelude.{Ok}
use Rattle.judge.specs.declared.Refusal.TheVariants.{Kernel}

budget_small : (budget : ℕ) → budget_good budget ≡ true → budget ≤ 10000000
unfolding budget_good
budget_small budget h = leb-true budget 10000000 (both (ltb 0 budget) (leb budget 10000000) h).1

-- ---- the verdict

-- what the run asks of what was judged
pub record Usable (n : ℕ) (m : List ℕ) (budget : ℕ) : Type 0 where
  pub matrix : Matrix n m
  pub budget_most : budget ≤ 10000000

module _ (n : ℕ) (m : List ℕ) (budget : ℕ) (most : n ≤ 512) (long : length m ≡ 8 * (n * n)) where
  usable : first Kernel (entry_good m) (n * n) 0 ≡ Ok tt → budget_good budget ≡ true → Usable n m budget
  usable x y = record { matrix = matrix_fine n m most (le_of_eq (sym long)) x; budget_most = budget_small budget y }

  pub usable_general : (l : List ℕ) (c a p : List Float) (eps : Float) → general_judged n m l c a p eps budget ≡ Ok tt → Usable n m budget
  usable_general l c a p eps h = let q = general_fine n m l c a p eps budget h in usable q.matrix q.budget_good_law

  pub usable_c : (l : List ℕ) (cpos cneg eps : Float) → c_judged n m l cpos cneg eps budget ≡ Ok tt → Usable n m budget
  usable_c l cpos cneg eps h = let q = c_fine n m l cpos cneg eps budget h in usable q.matrix q.budget_good_law

  pub usable_nu : (l : List ℕ) (nu eps : Float) → nu_judged n m l nu eps budget ≡ Ok tt → Usable n m budget
  usable_nu l nu eps h = let q = nu_fine n m l nu eps budget h in usable q.matrix q.budget_good_law

  pub usable_one_class : (nu eps : Float) → one_class_judged n m nu eps budget ≡ Ok tt → Usable n m budget
  usable_one_class nu eps h = let q = one_class_fine n m nu eps budget h in usable q.matrix q.budget_good_law

-- ---- the lengths

pub four_long : (n l c a p : ℕ) → (eqb l n && eqb c n && eqb a n && eqb p n) ≡ true → (n ≤ l) × (n ≤ c) × (n ≤ a) × (n ≤ p)
four_long n l c a p h =
    let h3 = both (eqb l n && eqb c n && eqb a n) (eqb p n) h in
    let h2 = both (eqb l n && eqb c n) (eqb a n) h3.0 in
    let h1 = both (eqb l n) (eqb c n) h2.0 in
    (long_enough n l h1.0, long_enough n c h1.1, long_enough n a h2.1, long_enough n p h3.1)

-- ---- the run

-- loaded lists are ready
pub loaded_ready : (g : Given) (m l : List ℕ) (c a p : List Float) (s t : State) → g.side ≡ g.n → t ≡ loaded g.n l c a p s → Matrix g.n m
    → 7 * g.n ≤ length s.floats → 2 * g.n ≤ length s.numbers → g.n ≤ length s.labels → (Ready (problem_of g m) t) × (Paired g.n t.numbers)
loaded_ready g m l c a p s t e q x f u y = rw (q, e) (ready_loaded g.n g.kind m l c a p s x f u y, paired_loaded g.n s.numbers u)

pub fitted_by : (g : Given) (how : Finish) (m l : List ℕ) (c a p : List Float) (budget : ℕ) (d : Lent) (t : State) (w : Whole)
    → t ≡ loaded g.n l c a p (scratch_of d) → w ≡ solved g how m l c budget (lent d.crate d.home t.floats t.numbers t.labels) → w ≡ fitted g how m l c a p budget d
unfolding fitted
fitted_by g how m l c a p budget d t w q x = rw (x, q)
