-- Where a C function answers 0: the iterations in its answer are the steps of its run (`.._called_iterations`); and where the reason there is 0,
-- 'threshold', the rule stops in what the run leaves (`.._called_threshold`). Assumes nothing.
use Prim.Native.Nat.{ℕ, ◌*◌, ◌%◌, ◌^◌, ◌≤◌, ◌<◌}
use mathlib.Core.List.{List}
use mathlib.Core.Path.{◌≡◌, refl, sym, ap, ◌∙◌}
use native.Mathlib.Nat.{mod-eq_of_lt}
use native.Mathlib.Omega.{arith}
use lib.ListN.{length}
use Rattle.altuliscia.specs.Functions.{general_host_by, c_host_by, nu_host_by, one_class_host_by, retired_host}
use Rattle.answer.specs.Answer.{words_of, reason_number}
use Rattle.answer.specs.Lent.{Whole}
use Rattle.answer.specs.declared.Answer.{Answer}
use Rattle.answer.specs.declared.ExitReason.{ExitReason}
use Rattle.answer.specs.declared.ExitReason.TheVariants.{ReachedThreshold, ReachedIterations}
use Rattle.boxed.specs.Range.{Entry, Divides}
use Rattle.hosted.specs.Hosted.{is_on, as_float, tuning_of, floats_of, room, Handed, answered_by}
use Rattle.judge.proofs.Accepted.{floor_fine, general_fine, c_fine, nu_fine, one_class_fine}
use Rattle.promises.specs.Fit.{Fit, Counts}
use Rattle.promises.specs.Retired.{retired_fit, steps_over}
use Rattle.promises.specs.Threshold.{Threshold, ThresholdOver}
use Rattle.promises.proofs.Box.{floor_in, entries_in}
use Rattle.promises.proofs.Iterations.{served_iterations}
use Rattle.promises.proofs.Retired.{taken_iterations}
use Rattle.promises.proofs.Threshold.{served_threshold, taken_threshold}
use Rattle.retired.specs.Entry.{stands_in}
use Rattle.retired.proofs.Independent.{taken_usable}
use Rattle.wire.specs.Wire.{digits, float_at}
use Rattle.tuning.specs.declared.Tuning.{Tuning}
use Rattle.handed.specs.Gives.{decoded}
use Rattle.handed.specs.Trains.{general_trains, c_trains, nu_trains, one_class_trains}
use Rattle.handed.proofs.Handed.{Ran, general_ran, c_ran, nu_ran, one_class_ran}
use Rattle.handed.proofs.Retired.{out, called_taken, answer_long}
use Rattle.handed.proofs.Stored.{word_at}
use Rattle.std.specs.Prelude.{Ok}

-- the eighth word of an accepted answer
reason_told : (x : Answer) (an : List ℕ) → 72 ≤ length an → digits (answered_by (Ok x) an) 56 8 ≡ 0 → x.exit_reason ≡ ReachedThreshold
unfolding words_of reason_number
reason_told x an long z = go x.exit_reason (sym (word_at (words_of (Ok x)) an 9 7 long (omega arith)) ∙ z)
  where
    go : (r : ExitReason) → reason_number r % 256 ^ 8 ≡ 0 → r ≡ ReachedThreshold
    go ReachedThreshold e = refl
    go ReachedIterations e = absurd (omega (arith, e))

-- the seventh: as long as the count fits a word
count_told : (x : Answer) (an : List ℕ) → 72 ≤ length an → x.iterations ≤ 10000000 → digits (answered_by (Ok x) an) 48 8 ≡ x.iterations
unfolding words_of
count_told x an long few = word_at (words_of (Ok x)) an 9 6 long (omega arith) ∙ mod-eq_of_lt (omega arith)

pub ran_iterations : {k : Fit} {m cr h an : List ℕ} {budget : ℕ} {w : Whole} {o : Handed} → Ran k m cr h an budget w o → Counts k m room budget (digits o.answer 48 8)
ran_iterations {an = an} r =
    let c = served_iterations r.served r.out.answer r.out.accepted in
    let q = ap (λ (b : List ℕ). digits b 48 8) r.out.told ∙ count_told r.out.answer an r.answer_long (omega (arith, c.1, r.served.usable.budget_most)) in
    (q ∙ c.0, omega (arith, c.1))

ran_threshold : {k : Fit} {m cr h an : List ℕ} {budget : ℕ} {w : Whole} {o : Handed} → Ran k m cr h an budget w o
    → ((i : ℕ) → i < k.given.n * k.given.n → Entry (float_at m (8 * i))) → Divides k.given.floor → digits o.answer 56 8 ≡ 0 → Threshold k m room budget
ran_threshold {an = an} r entries floor z =
    served_threshold r.served entries floor r.out.answer r.out.accepted
    (reason_told r.out.answer an r.answer_long (sym (ap (λ (b : List ℕ). digits b 56 8) r.out.told) ∙ z))

module _ (tune : Tuning) (n : ℕ) (m l c a p : List ℕ) (nurule eps shrinking budget : ℕ) (cr h an : List ℕ) (z : (general_host_by tune n m l c a p nurule eps shrinking budget cr h an).code ≡ 0) where
  pub general_called_iterations : Counts (general_trains tune n l c a p nurule eps shrinking) m room budget (digits (general_host_by tune n m l c a p nurule eps shrinking budget cr h an).answer 48 8)
  general_called_iterations = ran_iterations (general_ran tune n m l c a p nurule eps shrinking budget cr h an z).2

  pub general_called_threshold : digits (general_host_by tune n m l c a p nurule eps shrinking budget cr h an).answer 56 8 ≡ 0 → Threshold (general_trains tune n l c a p nurule eps shrinking) m room budget
  general_called_threshold =
      let r = general_ran tune n m l c a p nurule eps shrinking budget cr h an z in
      ran_threshold r.2 (entries_in n m (general_fine n m l (floats_of c n) (floats_of a n) (floats_of p n) (as_float eps) budget (floor_fine tune.floor _ r.1).0).matrix) (floor_in tune.floor (floor_fine tune.floor _ r.1).1)

module _ (tune : Tuning) (n : ℕ) (m l : List ℕ) (cpos cneg eps shrinking budget : ℕ) (cr h an : List ℕ) (z : (c_host_by tune n m l cpos cneg eps shrinking budget cr h an).code ≡ 0) where
  pub c_called_iterations : Counts (c_trains tune n l cpos cneg eps shrinking) m room budget (digits (c_host_by tune n m l cpos cneg eps shrinking budget cr h an).answer 48 8)
  c_called_iterations = ran_iterations (c_ran tune n m l cpos cneg eps shrinking budget cr h an z).2

  pub c_called_threshold : digits (c_host_by tune n m l cpos cneg eps shrinking budget cr h an).answer 56 8 ≡ 0 → Threshold (c_trains tune n l cpos cneg eps shrinking) m room budget
  c_called_threshold =
      let r = c_ran tune n m l cpos cneg eps shrinking budget cr h an z in
      ran_threshold r.2 (entries_in n m (c_fine n m l (as_float cpos) (as_float cneg) (as_float eps) budget (floor_fine tune.floor _ r.1).0).matrix) (floor_in tune.floor (floor_fine tune.floor _ r.1).1)

module _ (tune : Tuning) (n : ℕ) (m l : List ℕ) (nu eps shrinking budget : ℕ) (cr h an : List ℕ) (z : (nu_host_by tune n m l nu eps shrinking budget cr h an).code ≡ 0) where
  pub nu_called_iterations : Counts (nu_trains tune n l nu eps shrinking) m room budget (digits (nu_host_by tune n m l nu eps shrinking budget cr h an).answer 48 8)
  nu_called_iterations = ran_iterations (nu_ran tune n m l nu eps shrinking budget cr h an z).2

  pub nu_called_threshold : digits (nu_host_by tune n m l nu eps shrinking budget cr h an).answer 56 8 ≡ 0 → Threshold (nu_trains tune n l nu eps shrinking) m room budget
  nu_called_threshold =
      let r = nu_ran tune n m l nu eps shrinking budget cr h an z in
      ran_threshold r.2 (entries_in n m (nu_fine n m l (as_float nu) (as_float eps) budget (floor_fine tune.floor _ r.1).0).matrix) (floor_in tune.floor (floor_fine tune.floor _ r.1).1)

module _ (tune : Tuning) (n : ℕ) (m : List ℕ) (nu eps shrinking budget : ℕ) (cr h an : List ℕ) (z : (one_class_host_by tune n m nu eps shrinking budget cr h an).code ≡ 0) where
  pub one_class_called_iterations : Counts (one_class_trains tune n nu eps shrinking) m room budget (digits (one_class_host_by tune n m nu eps shrinking budget cr h an).answer 48 8)
  one_class_called_iterations = ran_iterations (one_class_ran tune n m nu eps shrinking budget cr h an z).2

  pub one_class_called_threshold : digits (one_class_host_by tune n m nu eps shrinking budget cr h an).answer 56 8 ≡ 0 → Threshold (one_class_trains tune n nu eps shrinking) m room budget
  one_class_called_threshold =
      let r = one_class_ran tune n m nu eps shrinking budget cr h an z in
      ran_threshold r.2 (entries_in n m (one_class_fine n m (as_float nu) (as_float eps) budget (floor_fine tune.floor _ r.1).0).matrix) (floor_in tune.floor (floor_fine tune.floor _ r.1).1)

module _ (n : ℕ) (m l c a p r : List ℕ) (nurule eps shrinking budget : ℕ) (t cr h an : List ℕ) (z : (retired_host n m l c a p r nurule eps shrinking budget t cr h an).code ≡ 0) where
  pub retired_called_iterations : (digits (retired_host n m l c a p r nurule eps shrinking budget t cr h an).answer 48 8 ≡ length (steps_over (stands_in r) (retired_fit (tuning_of t) n (decoded n m l c a p) r (is_on nurule) (as_float eps)) m room budget))
      × (digits (retired_host n m l c a p r nurule eps shrinking budget t cr h an).answer 48 8 ≤ budget)
  retired_called_iterations =
      let v = out n m l c a p r nurule eps shrinking budget t cr h an z in
      let w = called_taken n m l c a p r nurule eps shrinking budget t cr h an z in
      let d = taken_iterations w v.answer v.accepted in
      let q = ap (λ (b : List ℕ). digits b 48 8) v.told ∙ count_told v.answer an (answer_long n m l c a p r nurule eps shrinking budget t cr h an z) (omega (arith, d.1, (taken_usable w).budget_most)) in
      (q ∙ d.0, omega (arith, d.1))

  pub retired_called_threshold : digits (retired_host n m l c a p r nurule eps shrinking budget t cr h an).answer 56 8 ≡ 0
      → ThresholdOver (stands_in r) (retired_fit (tuning_of t) n (decoded n m l c a p) r (is_on nurule) (as_float eps)) m room budget
  retired_called_threshold q =
      let v = out n m l c a p r nurule eps shrinking budget t cr h an z in
      taken_threshold (called_taken n m l c a p r nurule eps shrinking budget t cr h an z) v.answer v.accepted
      (reason_told v.answer an (answer_long n m l c a p r nurule eps shrinking budget t cr h an z) (sym (ap (λ (b : List ℕ). digits b 56 8) v.told) ∙ q))
