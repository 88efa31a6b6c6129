-- With shrinking off a fit answers what the training without an order table answers, and both its readings are that one's result. Assumes nothing.
--
-- Main theorems:
--   fitted_from: outcome, home and crate reading of any fit whose ceilings go by label, from a scratch that holds the start weights
--   fitted_still_law: the same, from any scratch
--   out_alike: the outcome is the same whatever result list is lent, and `result_alike` each place of it
--   from_any: what is replied is the same from any scratch that holds the start weights
use Prim.Native.Nat.{ℕ, zero, suc, ◌+◌, ◌*◌, ◌≤◌, ◌<◌}
use mathlib.Core.Bool.{Bool, true, false, cond}
use mathlib.Core.List.{List}
use mathlib.Core.Path.{◌≡◌, refl, sym, ap, ◌∙◌}
use native.Mathlib.Nat.{le_of_eq}
use native.Mathlib.Omega.{arith}
use lib.Ieee.{Float, nan, lt}
use lib.ListN.{length, get_or, replicate, length-replicate}
use Rattle.alpha.specs.Weight as Weight
use Rattle.answer.specs.Answer.{coefficient_of, finished_to, support_of}
use Rattle.answer.specs.Lent.{Lent, lent}
use Rattle.answer.specs.Solved.{stuck, crate_of, home_of, level_at, settled_by, solved}
use Rattle.answer.specs.declared.Finish.{Finish}
use Rattle.classification.specs.Entries.{fitted}
use Rattle.fits.specs.Load.{loaded_floats, loaded_numbers, loaded_labels}
use Rattle.fits.proofs.Loaded.{length_floats, weight_loaded, ceiling_loaded, linear_loaded, sample_loaded, index_loaded, label_loaded}
use Rattle.orderless.specs.End.{level_in, objective_in}
use Rattle.orderless.specs.Run.{spread, Course, orderless}
use Rattle.orderless.specs.Sheet.{Sheet, sized, read_in}
use Rattle.orderless.proofs.Equal.{Equal, equal}
use Rattle.orderless.proofs.Labels.{orderless_alike, level_alike, objective_alike}
use Rattle.orderless.proofs.Lent.{Labelled, lent as lent_by}
use Rattle.orderless.proofs.Plain.{Steady}
use Rattle.orderless.proofs.Relation.{Lent as Alike}
use Rattle.orderless.proofs.Starts.{Both, length_spread, spread_at}
use Rattle.readings.specs.Order.{gathered, scattered, weight_in}
use Rattle.rho.specs.Rho.{positive_in}
use Rattle.rho.specs.declared.Level.{Level}
use Rattle.rows.proofs.Filled.{filled_length, filled_at}
use Rattle.solver.specs.End.{trained, objective_of}
use Rattle.solver.specs.Run.{Full}
use Rattle.solver.specs.declared.Given.{Given}
use Rattle.solver.specs.declared.Status.TheVariants.{Going, Done}
use Rattle.state.specs.Lists.{state}
use Rattle.still.specs.Answered.{Reply, Answers, weights_to, result_of, reply_of, fitted_still}

-- ---- the weights in their field

module _ (n : ℕ) (a f : List Float) where
  pub length_weights : (k : ℕ) → length (weights_to n a f k) ≡ length f
  unfolding weights_to
  length_weights = filled_length (weights_to n a f) (λ k. n + k) (λ k x. get_or a k nan) (λ k. refl) (λ h k g e. omega arith)

  pub weights_at : (k : ℕ) → k < n → 2 * n ≤ length f → get_or (weights_to n a f n) (n + k) nan ≡ get_or a k nan
  unfolding weights_to
  weights_at k K long = filled_at (weights_to n a f) (λ k. n + k) (λ k x. get_or a k nan) (λ k. refl) (λ h k g e. omega arith) n k K (omega arith)

pub two_fields : (nu : Bool) (n x : ℕ) → sized nu n ≤ x → 2 * n ≤ x
two_fields true n x h = omega arith
two_fields false n x h = omega arith

-- ---- the readings, where each position holds its own sample

module _ (u : List ℕ) (w v : ℕ → Float) (h : List Float) where
  gathered_own : (n : ℕ) → ((k : ℕ) → k < n → get_or u k 0 ≡ k) → ((k : ℕ) → k < n → w k ≡ v k) → gathered u w h n ≡ spread v h n
  unfolding gathered spread
  gathered_own zero U W = refl
  gathered_own (suc n) U W = rw (gathered_own n (λ k K. U k (omega arith)) (λ k K. W k (omega arith)), U n (omega arith), W n (omega arith))

  scattered_own : (n : ℕ) → ((k : ℕ) → k < n → get_or u k 0 ≡ k) → ((k : ℕ) → k < n → w k ≡ v k) → scattered u w h n ≡ spread v h n
  unfolding scattered spread
  scattered_own zero U W = refl
  scattered_own (suc n) U W = rw (scattered_own n (λ k K. U k (omega arith)) (λ k K. W k (omega arith)), U n (omega arith), W n (omega arith))

not_stuck : (x : Bool) → stuck (cond x Going Done) ≡ false
unfolding stuck
not_stuck true = refl
not_stuck false = refl

-- ---- the outcome, whatever the result list holds before

finished_at : (how : Finish) (l : List ℕ) (r : Float) (d : List Float) (n k : ℕ) → k < n → n ≤ length d → get_or (finished_to how l r d n) k nan ≡ coefficient_of how (get_or l k 0) r (get_or d k nan)
unfolding finished_to
finished_at how l r d n k K long = filled_at (finished_to how l r d) (λ k. k) (λ k x. coefficient_of how (get_or l k 0) r x) (λ k. refl) (λ h k g e. omega arith) n k K (omega arith)

support_alike : (x y : List Float) (n : ℕ) → ((k : ℕ) → k < n → get_or x k nan ≡ get_or y k nan) → support_of x n ≡ support_of y n
unfolding support_of
support_alike x y zero h = refl
support_alike x y (suc n) h = rw (support_alike x y n (λ k K. h k (omega arith)), h n (omega arith))

module _ (g : Given) (how : Finish) (m l : List ℕ) (top : Bool → Float) (term : ℕ → Float) where
  -- each place holds its sample's coefficient
  pub result_at : (o : Sheet) (v : Level) (h : List Float) (k : ℕ) → k < g.n → g.n ≤ length h
      → get_or (result_of g how m l top term o v h) k nan ≡ coefficient_of how (get_or l k 0) v.r (o.weights k)
  unfolding result_of
  result_at o v h k K long =
      finished_at how l v.r (spread o.weights h g.n) g.n k K (rw (length_spread o.weights h g.n) long)
      ∙ ap (coefficient_of how (get_or l k 0) v.r) (spread_at o.weights h g.n k K long)

  pub out_alike : (a : List Float) (budget : ℕ) (f h x : List Float) → g.n ≤ length h → g.n ≤ length x
      → (fitted_still g how m l top term a budget f h).out ≡ (fitted_still g how m l top term a budget f x).out
  unfolding fitted_still reply_of
  out_alike a budget f h x long long' =
      let c = orderless g m l top term (weights_to g.n a f g.n) budget in
      let o = read_in g.nu g.n c.floats in
      let v = level_in g m l top o in
      rw (support_alike (result_of g how m l top term o v h) (result_of g how m l top term o v x) g.n (λ k K. result_at o v h k K long ∙ sym (result_at o v x k K long')))

  pub result_alike : (a : List Float) (budget : ℕ) (f h x : List Float) → g.n ≤ length h → g.n ≤ length x → (k : ℕ) → k < g.n
      → get_or (fitted_still g how m l top term a budget f h).result k nan ≡ get_or (fitted_still g how m l top term a budget f x).result k nan
  unfolding fitted_still reply_of
  result_alike a budget f h x long long' k K = result_at _ _ h k K long ∙ sym (result_at _ _ x k K long')

-- ---- a fit: labels l, ceilings c, start weights a, linear terms p

-- what a fit lends, by label and by sample
pub record ByLabel (g : Given) (l : List ℕ) (c p : List Float) (top : Bool → Float) (term : ℕ → Float) : Type 0 where
  pub labels : (k : ℕ) → k < g.n → Labelled g.kind (get_or l k 0)
  pub ceilings : (k : ℕ) → k < g.n → get_or c k nan ≡ top (positive_in l k)
  pub above : (t : Bool) → lt Weight.zero (top t) ≡ true
  pub terms : (k : ℕ) → k < g.n → get_or p k nan ≡ term k
  pub steady : (k : ℕ) → k < g.n → Steady (term k)

module _ (g : Given) (how : Finish) (m l : List ℕ) (c a p : List Float) (top : Bool → Float) (term : ℕ → Float) (budget : ℕ) (d : Lent)
    (off : g.shrinking ≡ false) (square : g.side ≡ g.n) (B : ByLabel g l c p top term)
    (lf : 7 * g.n ≤ length d.floats) (lu : 2 * g.n ≤ length d.numbers) (ly : g.n ≤ length d.bytes)
    (f1 : List Float) (room : sized g.nu g.n ≤ length f1) (W : (k : ℕ) → k < g.n → get_or f1 (g.n + k) nan ≡ get_or a k nan) where
  abbrev n : ℕ
  n = g.n

  abbrev x : List Float
  x = loaded_floats n c a p d.floats n

  abbrev u : List ℕ
  u = loaded_numbers n d.numbers n

  abbrev y : List ℕ
  y = loaded_labels l d.bytes n

  label_is : (k : ℕ) → k < n → get_or y k 0 ≡ get_or l k 0
  label_is k K = label_loaded l d.bytes n k ly K

  pos_is : (k : ℕ) → k < n → positive_in y k ≡ positive_in l k
  pos_is k K = rw (label_is k K)

  alike : Alike g m u y top c
  alike =
      lent_by g m u y top c (λ k K. index_loaded n d.numbers lu n k (omega arith) K) (λ k K. rw (label_is k K) (B.labels k K))
      (λ k K. B.ceilings k K ∙ ap top (sym (pos_is k K))) B.above

  both : Both g m u y top c alike term x f1
  both = record {
    weights = λ k K. weight_loaded n c a p d.floats lf n k (omega arith) K ∙ sym (W k K);
    uppers = λ k K. ceiling_loaded n c a p d.floats lf n k (omega arith) K ∙ B.ceilings k K ∙ ap top (sym (pos_is k K));
    terms = λ k K. linear_loaded n c a p d.floats lf n k (omega arith) K ∙ B.terms k K;
    steady = B.steady;
    square = square;
    long = rw (length_floats n c a p d.floats n) lf;
    room = room;
  }

  abbrev w : Full
  w = trained g m c budget (state x u y)

  abbrev v : Course
  v = orderless g m l top term f1 budget

  abbrev o : Sheet
  o = read_in g.nu n v.floats

  same_course : orderless g m y top term f1 budget ≡ v
  same_course = orderless_alike g m y l top label_is term f1 budget

  beside : Equal g m u y top c alike term x f1 both off budget
  beside = equal g m u y top c alike term x f1 both off budget

  abbrev lv : Level
  lv = level_in g m l top o

  level_is : level_at g w ≡ lv
  unfolding level_at
  level_is =
      rw beside.active beside.level ∙ ap (λ (e : Course). level_in g m y top (read_in g.nu n e.floats)) same_course ∙ level_alike g m y l top label_is o

  objective_is : objective_of n w.state.floats ≡ objective_in g m l top o term
  objective_is = beside.objective ∙ ap (λ (e : Course). objective_in g m y top (read_in g.nu n e.floats) term) same_course ∙ objective_alike g m y l top label_is o term

  weight_is : (k : ℕ) → k < n → weight_in n w.state.floats k ≡ o.weights k
  weight_is k K = beside.weights k K ∙ ap (λ (e : Course). (read_in g.nu n e.floats).weights k) same_course

  order_is : (k : ℕ) → k < n → get_or w.state.numbers k 0 ≡ k
  order_is k K = rw beside.numbers (sample_loaded n d.numbers lu n k (omega arith) K)

  home_is : (h : List Float) → home_of g how l w lv h ≡ result_of g how m l top term o lv h
  unfolding home_of result_of
  home_is h = ap (λ (z : List Float). finished_to how l lv.r z n) (scattered_own w.state.numbers (weight_in n w.state.floats) o.weights h n order_is weight_is)

  crate_is : (h : List Float) → crate_of g how l w lv h ≡ result_of g how m l top term o lv h
  unfolding crate_of result_of
  crate_is h = ap (λ (z : List Float). finished_to how l lv.r z n) (gathered_own w.state.numbers (weight_in n w.state.floats) o.weights h n order_is weight_is)

  steps_are : w.run.iterations ≡ v.steps
  steps_are = beside.iterations ∙ ap (λ (e : Course). e.steps) same_course

  free : stuck w.run.status ≡ false
  free = ap stuck beside.status ∙ not_stuck (orderless g m y top term f1 budget).going

  -- f1 is lent with the weights in their field
  pub fitted_from : Answers (fitted g how m l c a p budget d) (reply_of g how m l top term budget (orderless g m l top term f1 budget)) d
  unfolding fitted solved settled_by reply_of
  fitted_from = record {
    out = rw (free, level_is, home_is d.home, objective_is, steps_are);
    home = rw (free, level_is) (home_is d.home);
    crate = rw (free, level_is) (crate_is d.crate);
  }

pub fitted_still_law : (g : Given) (how : Finish) (m l : List ℕ) (c a p : List Float) (top : Bool → Float) (term : ℕ → Float) (budget : ℕ) (d : Lent) (f : List Float)
    → g.shrinking ≡ false → g.side ≡ g.n → ByLabel g l c p top term → 7 * g.n ≤ length d.floats → 2 * g.n ≤ length d.numbers → g.n ≤ length d.bytes
    → sized g.nu g.n ≤ length f → Answers (fitted g how m l c a p budget d) (fitted_still g how m l top term a budget f) d
unfolding fitted_still
fitted_still_law g how m l c a p top term budget d f off square B lf lu ly room =
    fitted_from g how m l c a p top term budget d off square B lf lu ly (weights_to g.n a f g.n) (rw (length_weights g.n a f g.n) room)
    (λ k K. weights_at g.n a f k K (two_fields g.nu g.n (length f) room))

reply_by : (r q : Reply) → r.out ≡ q.out → r.result ≡ q.result → r ≡ q
reply_by r q e z = λ i. record { out = e i; result = z i }

-- lists that are lent to nobody, as long as a fit of n samples wants them
abbrev stead : ℕ → List Float → Lent
stead n h = lent h h (replicate (7 * n) Weight.zero) (replicate (2 * n) 0) (replicate n 0)

pub from_any : (g : Given) (how : Finish) (m l : List ℕ) (c a p : List Float) (top : Bool → Float) (term : ℕ → Float) (budget : ℕ) (f1 f h : List Float)
    → g.shrinking ≡ false → g.side ≡ g.n → ByLabel g l c p top term → sized g.nu g.n ≤ length f1 → ((k : ℕ) → k < g.n → get_or f1 (g.n + k) nan ≡ get_or a k nan)
    → sized g.nu g.n ≤ length f → reply_of g how m l top term budget (orderless g m l top term f1 budget) h ≡ fitted_still g how m l top term a budget f h
from_any g how m l c a p top term budget f1 f h off square B room W room' =
    let n = g.n in
    let lf = le_of_eq (sym (length-replicate (7 * n) Weight.zero)) in
    let lu = le_of_eq (sym (length-replicate {A = ℕ} (2 * n) 0)) in
    let ly = le_of_eq (sym (length-replicate {A = ℕ} n 0)) in
    let x = fitted_from g how m l c a p top term budget (stead n h) off square B lf lu ly f1 room W in
    let z = fitted_still_law g how m l c a p top term budget (stead n h) f off square B lf lu ly room' in
    reply_by _ _ (sym x.out ∙ z.out) (sym x.home ∙ z.home)
