-- What the code leans on: what a run over silent lists leaves, by its calls; what right lengths and the verdict give. Assumes nothing.
use Prim.Native.Nat.{ℕ, ◌*◌, ◌≤◌}
use mathlib.Core.Bool.{Bool, true, not, ◌&&◌}
use mathlib.Core.List.{List}
use mathlib.Core.Path.{◌≡◌, refl}
use lib.Dec.{eqb}
use lib.Ieee.{Float}
use lib.ListN.{length}
use Rattle.answer.specs.Lent.{Lent, Whole, whole, cleared}
use Rattle.answer.specs.Solved.{Read, settled_of}
use Rattle.answer.specs.declared.Finish.TheVariants.{Plain}
use Rattle.classification.proofs.Laws.{Usable, four_long, usable_general, loaded_ready}
use Rattle.fits.specs.Load.{loaded}
use Rattle.judge.specs.Judge.{general_judged, floor_good, floor_judged, retired_judged, bytes_good, need, and_then}
use Rattle.judge.proofs.Accepted.{floor_fine}
use Rattle.judge.proofs.First.{and_then_fine, need_fine}
use Rattle.judge.proofs.Lengths.{long_enough}
use Rattle.kernel.specs.Matrix.{Matrix}
use Rattle.rounding.proofs.Order.{both}
use Rattle.standing.specs.End.{objective_over}
use Rattle.solver.specs.End.{trained}
use Rattle.solver.specs.Run.{Full, problem_of}
use Rattle.solver.specs.declared.Given.{Given}
use Rattle.state.specs.Lists.{State, state, Ready}
use Rattle.travel.specs.Travel.{Paired}
use Rattle.retired.specs.Coded.{with_obj, solved_silent}
use Rattle.retired.specs.Entry.{stands_in}
use Rattle.std.specs.Prelude.{Result, Ok}
use Rattle.answer.specs.declared.Answer.{Answer}
use Rattle.judge.specs.declared.Refusal.{Refusal}
use Rattle.judge.specs.declared.Refusal.TheVariants.{Retired, RetiredShrinking}

pub silent_by : (g : Given) (m l : List ℕ) (b : List Float) (r : List ℕ) (budget : ℕ) (d : Lent) (w : Full) (x : Read) (v : Float) (z : State) (o : Result Answer Refusal)
    → w ≡ trained g m b budget (state d.floats d.numbers d.bytes) → x ≡ settled_of g Plain l budget w d.crate d.home
    → v ≡ objective_over (stands_in r) g.n w.state.floats → z ≡ cleared g.n w.state → o ≡ with_obj x.out v
    → ◌≡◌ {A = Whole} (whole o x.crate x.home z.floats z.numbers z.labels) (solved_silent g m l b r budget d)
unfolding solved_silent
silent_by g m l b r budget d w x v z o e f h i j = rw (j, i, h, f, e)

-- a given that is another's equal, over loaded lists
pub given_ready : (h g : Given) (m l : List ℕ) (c a p : List Float) (s t : State) → h ≡ g → g.side ≡ g.n → t ≡ loaded g.n l c a p s → Matrix g.n m
    → 7 * g.n ≤ length s.floats → 2 * g.n ≤ length s.numbers → g.n ≤ length s.labels
    → (Ready (problem_of h m) t) × (Paired h.n t.numbers) × (h.side ≡ h.n) × (h.n ≡ g.n)
given_ready h g m l c a p s t e q w x f u y = let r = loaded_ready g m l c a p s t q w x f u y in rw e (r.0, r.1, q, refl)

-- ---- lengths and verdict

pub five_long : (n l c a p r : ℕ) → (eqb l n && eqb c n && eqb a n && eqb p n && eqb r n) ≡ true → (n ≤ l) × (n ≤ c) × (n ≤ a) × (n ≤ p) × (n ≤ r)
five_long n l c a p r h =
    let q = both (eqb l n && eqb c n && eqb a n && eqb p n) (eqb r n) h in
    let t = four_long n l c a p q.0 in
    (t.0, t.1, t.2, t.3, long_enough n r q.1)

pub record RetiredFine (x : Float) (n : ℕ) (m l : List ℕ) (c a p : List Float) (r : List ℕ) (eps : Float) (shrinking : Bool) (budget : ℕ) : Type 0 where
  pub general : general_judged n m l c a p eps budget ≡ Ok tt
  pub floor_good_law : floor_good x ≡ true
  pub bytes_good_law : bytes_good r n ≡ true
  pub off : not shrinking ≡ true

pub retired_fine : (x : Float) (n : ℕ) (m l : List ℕ) (c a p : List Float) (r : List ℕ) (eps : Float) (shrinking : Bool) (budget : ℕ)
    → retired_judged x n m l c a p r eps shrinking budget ≡ Ok tt → RetiredFine x n m l c a p r eps shrinking budget
unfolding retired_judged
retired_fine x n m l c a p r eps shrinking budget h =
    let j10 = general_judged n m l c a p eps budget in
    let j14 = floor_judged x j10 in
    let h13 = and_then_fine (and_then j14 (need Retired (bytes_good r n))) (need RetiredShrinking (not shrinking)) h in
    let h12 = and_then_fine j14 (need Retired (bytes_good r n)) h13.0 in
    let h14 = floor_fine x j10 h12.0 in
    record { general = h14.0; floor_good_law = h14.1; bytes_good_law = need_fine Retired (bytes_good r n) h12.1; off = need_fine RetiredShrinking (not shrinking) h13.1 }

pub usable_retired : (x : Float) (n : ℕ) (m : List ℕ) (budget : ℕ) → n ≤ 512 → length m ≡ 8 * (n * n) → (l : List ℕ) (c a p : List Float) (r : List ℕ) (eps : Float) (shrinking : Bool)
    → retired_judged x n m l c a p r eps shrinking budget ≡ Ok tt → Usable n m budget
usable_retired x n m budget most long l c a p r eps shrinking h =
    usable_general n m budget most long l c a p eps (retired_fine x n m l c a p r eps shrinking budget h).general
