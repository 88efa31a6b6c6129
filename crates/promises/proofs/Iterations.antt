-- The iterations that an entry answers are the steps of its run, at most the budget: of each entry, `.._iterations`. Assumes nothing.
use Prim.Native.Nat.{ℕ}
use mathlib.Core.Bool.{Bool, true, false}
use mathlib.Core.List.{List}
use mathlib.Core.Path.{◌≡◌, sym, ap, ◌∙◌}
use native.Mathlib.Omega.{arith}
use lib.Ieee.{Float}
use Rattle.answer.specs.Lent.{Lent, Whole}
use Rattle.answer.specs.Solved.{stuck, settled_by, solved}
use Rattle.answer.specs.declared.Answer.{Answer}
use Rattle.answer.specs.declared.Finish.{Finish}
use Rattle.classification.specs.Entries.{fitted, general_tuned, fit_c_tuned, fit_nu_tuned, fit_one_class_tuned}
use Rattle.classification.proofs.Accepts.{refused_apart}
use Rattle.solver.specs.Run.{Full}
use Rattle.solver.specs.declared.Given.{Given}
use Rattle.trace.proofs.Trace.{trained_iterations, trained_at_most}
use Rattle.tuning.specs.declared.Tuning.{Tuning}
use Rattle.promises.specs.Fit.{Fit, general_fit, c_fit, nu_fit, one_class_fit, start_from, run_of, Counts}
use Rattle.promises.proofs.Entries.{general_served, c_served, nu_served, one_class_served}
use Rattle.promises.proofs.Retired.{iterations_of}
use Rattle.promises.proofs.Travel.{Served}
use Rattle.std.specs.Prelude.{Ok}
use Rattle.judge.specs.declared.Refusal.TheVariants.{ShrunkAway}

settled_iterations : (b : Bool) (g : Given) (how : Finish) (l : List ℕ) (budget : ℕ) (w : Full) (c h : List Float) (x : Answer) → (settled_by b g how l budget w c h).out ≡ Ok x
    → w.run.iterations ≡ x.iterations
unfolding settled_by
settled_iterations true g how l budget w c h x e = absurd (refused_apart ShrunkAway x e)
settled_iterations false g how l budget w c h x e = ap iterations_of e

pub served_iterations : {k : Fit} {m : List ℕ} {budget : ℕ} {d : Lent} {o : Whole} → Served k m budget d o → (x : Answer) → o.out ≡ Ok x → Counts k m d budget x.iterations
unfolding fitted solved
served_iterations {k = k} {m = m} {budget = budget} {d = d} v x e =
    let w = run_of k m d budget in
    let q = settled_iterations (stuck w.run.status) k.given k.how k.labels budget w d.crate d.home x (sym (ap (λ (q : Whole). q.out) v.same) ∙ e) in
    let i = trained_iterations k.given m k.ceilings budget (start_from k m d) in
    let l = trained_at_most k.given m k.ceilings budget (start_from k m d) in
    (sym q ∙ i, omega arith)

pub general_iterations : (tune : Tuning) (n : ℕ) (m l : List ℕ) (c a p : List Float) (nurule : Bool) (eps : Float) (shrinking : Bool) (budget : ℕ) (d : Lent) (x : Answer)
    → (general_tuned tune n m l c a p nurule eps shrinking budget d).out ≡ Ok x → Counts (general_fit tune n l c a p nurule eps shrinking) m d budget x.iterations
general_iterations tune n m l c a p nurule eps shrinking budget d x e = served_iterations (general_served tune n m l c a p nurule eps shrinking budget d x e) x e

pub c_iterations : (tune : Tuning) (n : ℕ) (m l : List ℕ) (cpos cneg eps : Float) (shrinking : Bool) (budget : ℕ) (d : Lent) (x : Answer) → (fit_c_tuned tune n m l cpos cneg eps shrinking budget d).out ≡ Ok x
    → Counts (c_fit tune n l cpos cneg eps shrinking) m d budget x.iterations
c_iterations tune n m l cpos cneg eps shrinking budget d x e = served_iterations (c_served tune n m l cpos cneg eps shrinking budget d x e) x e

pub nu_iterations : (tune : Tuning) (n : ℕ) (m l : List ℕ) (nu eps : Float) (shrinking : Bool) (budget : ℕ) (d : Lent) (x : Answer) → (fit_nu_tuned tune n m l nu eps shrinking budget d).out ≡ Ok x
    → Counts (nu_fit tune n l nu eps shrinking) m d budget x.iterations
nu_iterations tune n m l nu eps shrinking budget d x e = served_iterations (nu_served tune n m l nu eps shrinking budget d x e) x e

pub one_class_iterations : (tune : Tuning) (n : ℕ) (m : List ℕ) (nu eps : Float) (shrinking : Bool) (budget : ℕ) (d : Lent) (x : Answer) → (fit_one_class_tuned tune n m nu eps shrinking budget d).out ≡ Ok x
    → Counts (one_class_fit tune n nu eps shrinking) m d budget x.iterations
one_class_iterations tune n m nu eps shrinking budget d x e = served_iterations (one_class_served tune n m nu eps shrinking budget d x e) x e
