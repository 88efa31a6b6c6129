-- What the code does, in the rule's own definitions: the linear term of what is retired is NaN, and nothing but the obj sum asks who stands.
-- A reader needn't believe it: proofs/Coded.antt shows that it is what Entry.antt says.
use Rattle.std.specs.Prelude.{ℕ, List, Float, Result, Ok, Err}
use Rattle.answer.specs.Lent.{Lent, lent, Whole}
use Rattle.answer.specs.Solved.{read, settled_of, closed_with}
use Rattle.answer.specs.declared.Finish.TheVariants.{Plain}
use Rattle.classification.specs.Entries.{scratch_of}
use Rattle.fits.specs.Load.{loaded}
use Rattle.standing.specs.End.{objective_over}
use Rattle.solver.specs.End.{trained}
use Rattle.solver.specs.declared.Given.{Given}
use Rattle.state.specs.Lists.{state}
use Rattle.retired.specs.Entry.{stands_in, kept}
use Rattle.retired.specs.Silenced.{silenced}
use Rattle.answer.specs.declared.Answer.{Answer}
use Rattle.judge.specs.declared.Refusal.{Refusal}

abbrev pub with_obj : Result Answer Refusal → Float → Result Answer Refusal
with_obj (Ok a) x =
    Ok (record { rho = a.rho; r = a.r; obj = x; iterations = a.iterations; exit_reason = a.exit_reason; support = a.support })
with_obj (Err refusal) x = Err refusal

-- d's scratch is loaded
unfoldable pub solved_silent : Given → List ℕ → List ℕ → List Float → List ℕ → ℕ → Lent → Whole
solved_silent g m l b r budget d =
    let w = trained g m b budget (state d.floats d.numbers d.bytes) in
    let x = settled_of g Plain l budget w d.crate d.home in
    closed_with g.n w.state (read (with_obj x.out (objective_over (stands_in r) g.n w.state.floats)) x.crate x.home)

-- labels l, ceilings c, start alphas a, linear terms p, retired bytes r
unfoldable pub fitted_silent : Given → List ℕ → List ℕ → List Float → List Float → List Float → List ℕ → ℕ → Lent → Whole
fitted_silent g m l c a p r budget d =
    let s = loaded g.n l c (kept r a g.n) (silenced r p g.n) (scratch_of d) in
    solved_silent g m l c r budget (lent d.crate d.home s.floats s.numbers s.labels)
