-- The promises of the entries without an order table, C, nu and one-class: each through what the rule's entry beside it answers with shrinking off. Assumes nothing.
--
-- Main theorems, of C; of nu and one-class the same:
--   still_c_accepts: what an acceptance says, of the call and of the rule's entry
--   still_c_home: each coefficient is made of the sample's start weight, or of what the last step of the rule's run that chose it left
--   still_c_box, still_c_no_nan, still_c_home_box: with one common ceiling, the weights of that run and the one behind each coefficient
--   still_c_iterations, still_c_threshold: what the answer's iterations and its reason say of that run
--   still_c_number: which number a refusal has, and when it is 13
--   still_c_leaves: what the lent lists hold in every outcome
use Prim.Native.Nat.{ℕ, ◌*◌, ◌<◌}
use mathlib.Core.Bool.{Bool, true, false, not, ◌&&◌, cond, true≢false}
use mathlib.Core.List.{List}
use mathlib.Core.Logic.{◌⊎◌, inl, inr}
use mathlib.Core.Path.{◌≡◌, refl, sym, ap, ◌∙◌}
use native.Mathlib.Omega.{arith}
use borrow.Author.Tests.{eq-eqb, lt-ltb, le-leb}
use lib.Dec.{T, eqb}
use lib.Ieee.{Float, nan, binary64, fits}
use lib.ListN.{length, get_or, replicate, length-replicate}
use Rattle.std.specs.Prelude.{Some}
use Rattle.alpha.specs.Weight as Weight
use Rattle.alpha.specs.Weight.{one}
use Rattle.answer.specs.Answer.{words_of}
use Rattle.answer.specs.Lent.{Lent, lent, Whole}
use Rattle.answer.specs.declared.Answer.{Answer}
use Rattle.answer.specs.declared.ExitReason.TheVariants.{ReachedThreshold}
use Rattle.answer.specs.declared.Finish.{Finish}
use Rattle.boxed.specs.Range.{In}
use Rattle.classification.specs.Entries.{given_by, sizes_of, fit_c_tuned, fit_nu_tuned, fit_one_class_tuned}
use Rattle.classification.proofs.Accepts.{refused_apart}
use Rattle.fits.specs.Starts.{nothing, half, shared_to, one_class_to}
use Rattle.judge.specs.Judge.{need, and_then, floor_good, floor_judged, c_judged, nu_judged, one_class_judged}
use Rattle.judge.specs.Sizes.{count_good, sizes}
use Rattle.judge.specs.Refusals.{number as number_of}
use Rattle.kernel.specs.declared.Kind.TheVariants.{TwoClass, OneClass}
use Rattle.lists.proofs.Prefix.{filled_at}
use Rattle.orderless.proofs.Starts.{length_spread, spread_other}
use Rattle.rounding.specs.Units.{NotNan}
use Rattle.solver.specs.declared.Given.{Given}
use Rattle.still.specs.Answered.{Reply, result_of, reply_of, fitted_still}
use Rattle.still.specs.Entries.{StillLent, StillWhole, still_untouched, still_left, still_room_good, still_sizes_by, still_sizes, still_judged, still_decided, still_c_tuned_sized, still_c_tuned, still_nu_tuned_sized, still_nu_tuned, still_one_class_tuned_sized, still_one_class_tuned}
use Rattle.still.specs.Fits.{still_c, still_nu, still_one_class}
use Rattle.still.specs.Same.{Same}
use Rattle.still.proofs.Same.{c_same, nu_same, one_class_same}
use Rattle.still.proofs.Sizes.{inputs_still, room_still}
use Rattle.travel.specs.Home.{last_left}
use Rattle.tuning.specs.declared.Tuning.{Tuning}
use Rattle.promises.specs.Fit.{c_fit, nu_fit, one_class_fit, weight_after, pair_after, delta_after, steps_taken, Counts, own_weight}
use Rattle.promises.specs.Leaves.{Beyond}
use Rattle.promises.specs.Numbers.{FloorBad}
use Rattle.promises.specs.Threshold.{Threshold}
use Rattle.promises.specs.Still.{StillAccepts, c_number, nu_number, one_class_number, StillNumbered, StillNumbers, StillClear, StillLeaves}
use Rattle.promises.proofs.Beyond.{beyond_refl, beyond_trans, filled_beyond}
use Rattle.promises.proofs.Boxes.{c_box, c_no_nan, c_home_box, nu_box, nu_no_nan, nu_home_box, one_class_box, one_class_no_nan, one_class_home_box}
use Rattle.promises.proofs.Entries.{c_home, nu_home, one_class_home}
use Rattle.promises.proofs.Iterations.{c_iterations, nu_iterations, one_class_iterations}
use Rattle.promises.proofs.Leaves.{finished_beyond}
use Rattle.promises.proofs.Numbers.{c_judged_number, nu_judged_number, one_class_judged_number}
use Rattle.promises.proofs.Threshold.{c_threshold, nu_threshold, one_class_threshold}
use Rattle.std.specs.Prelude.{⊤, Result, Ok, Err}
use Rattle.judge.specs.declared.Refusal.{Refusal}
use Rattle.judge.specs.declared.Refusal.TheVariants.{Samples, Length, RetiredShrinking, Floor}

-- ---- what a fit replies

-- an acceptance, and behind the n coefficients what was lent
record Replies (n : ℕ) (h : List Float) (r : Reply) : Type 0 where
  answer : Answer
  out : r.out ≡ Ok answer
  result : Beyond nan n h r.result

still_replies : (g : Given) (how : Finish) (m l : List ℕ) (top : Bool → Float) (term : ℕ → Float) (a : List Float) (budget : ℕ) (f h : List Float)
    → Replies g.n h (fitted_still g how m l top term a budget f h)
unfolding fitted_still reply_of result_of
still_replies g how m l top term a budget f h = record {
  answer = _;
  out = refl;
  result = beyond_trans nan g.n (record { long = length_spread _ h g.n; at = λ j J. spread_other _ h g.n j J }) (finished_beyond how l _ _ g.n);
}

-- ---- every entry goes one of two ways

-- refused with shrinking off and on alike
record Away (own : ℕ → Bool) (x : Float) (e : StillLent) (v : Bool → StillWhole) : Type 0 where
  refusal : Refusal
  whole : (shrinking : Bool) → v shrinking ≡ still_untouched (Err refusal) e
  known : (own (number_of refusal) ≡ true) ⊎ FloorBad x (number_of refusal)

-- or r with shrinking off, and 13 with it on; z is the sizes' verdict
record Replied (n : ℕ) (z : Result ⊤ Refusal) (e : StillLent) (r : Reply) (v : Bool → StillWhole) : Type 0 where
  room : z ≡ Ok tt
  off : v false ≡ still_left n r e
  on : v true ≡ still_untouched (Err RetiredShrinking) e

-- j is what is judged before 14 and 13
module _ (n : ℕ) (own : ℕ → Bool) (x : Float) (e : StillLent) (r : Reply) (j : Result ⊤ Refusal) (known : (refusal : Refusal) → j ≡ Err refusal → own (number_of refusal) ≡ true) where
  abbrev sized : Result ⊤ Refusal → Bool → StillWhole
  sized q s = still_decided (and_then q (need RetiredShrinking (not s))) (still_left n r e) e

  abbrev entry : Result ⊤ Refusal → Bool → StillWhole
  entry z s = still_decided z (still_decided (still_judged x s j) (still_left n r e) e) e

  judged_ways : Away own x e (entry (Ok tt)) ⊎ Replied n (Ok tt) e r (entry (Ok tt))
  unfolding still_decided and_then
  judged_ways = go j refl
    where
      floor : (b : Bool) → floor_good x ≡ b → Away own x e (sized (need Floor b)) ⊎ Replied n (Ok tt) e r (sized (need Floor b))
      floor true h = inr (record { room = refl; off = refl; on = refl })
      floor false h = inl (record { refusal = Floor; whole = λ s. refl; known = inr (refl, h) })

      go : (q : Result ⊤ Refusal) → j ≡ q → Away own x e (sized (floor_judged x q)) ⊎ Replied n (Ok tt) e r (sized (floor_judged x q))
      go (Err q) h = inl (record { refusal = q; whole = λ s. refl; known = inl (known q h) })
      go (Ok p) h = floor (floor_good x) refl

  entry_ways : own 1 ≡ true → own 2 ≡ true → (inputs : Bool) (m : List ℕ)
      → Away own x e (entry (still_sizes n inputs m e)) ⊎ Replied n (still_sizes n inputs m e) e r (entry (still_sizes n inputs m e))
  unfolding still_decided still_sizes_by
  entry_ways one two inputs m = go (count_good n) (inputs && still_room_good n (length m) (length e.result) (length e.floats) (length e.bytes))
    where
      go : (a b : Bool) → Away own x e (entry (cond a (cond b (Ok tt) (Err Length)) (Err Samples))) ⊎ Replied n (cond a (cond b (Ok tt) (Err Length)) (Err Samples)) e r (entry (cond a (cond b (Ok tt) (Err Length)) (Err Samples)))
      go true true = judged_ways
      go true false = inl (record { refusal = Length; whole = λ s. refl; known = inl two })
      go false b = inl (record { refusal = Samples; whole = λ s. refl; known = inl one })

-- ---- what is promised of any entry

-- v is the entry, by whether shrinking is asked for; w the rule's beside it with shrinking off, by what is lent there
record Entry (n : ℕ) (inputs : Bool) (m : List ℕ) (own : ℕ → Bool) (x : Float) (w : Lent → Whole) (e : StillLent) (v : Bool → StillWhole) : Type 0 where
  reply : Reply
  replies : Replies n e.result reply
  ways : Away own x e v ⊎ Replied n (still_sizes n inputs m e) e reply v
  same : (d : Lent) → sizes_of n inputs m d ≡ Ok tt → still_sizes n inputs m e ≡ Ok tt → Same n d e (w d) (v false)

-- lists as long as the rule's entry wants them
long_lists : (n : ℕ) (inputs : Bool) (m : List ℕ) (e : StillLent) → still_sizes n inputs m e ≡ Ok tt → (d : Lent) × (sizes_of n inputs m d ≡ Ok tt)
unfolding sizes
long_lists n inputs m e h =
    let q = room_still n inputs (length m) (length e.result) (length e.floats) (length e.bytes) h in
    let places = replicate n Weight.zero in (
      lent places places (replicate (7 * n) Weight.zero) (replicate (2 * n) 0) (replicate n 0),
      rw (
        length-replicate n Weight.zero,
        length-replicate (7 * n) Weight.zero,
        length-replicate {A = ℕ} (2 * n) 0,
        length-replicate {A = ℕ} n 0,
        lt-ltb 0 n q.some,
        le-leb n 512 q.most,
        inputs_still n inputs (length m) (length e.result) (length e.floats) (length e.bytes) h,
        eq-eqb (length m) (8 * (n * n)) q.matrix,
        le-leb n n (omega arith),
        le-leb (7 * n) (7 * n) (omega arith),
        le-leb (2 * n) (2 * n) (omega arith),
      ),
    )

unfoldable number_in : Result Answer Refusal → ℕ
number_in (Ok a) = 0
number_in (Err refusal) = number_of refusal

word_in : (o : Result Answer Refusal) → get_or (words_of o) 0 0 ≡ number_in o
unfolding number_in words_of
word_in (Ok a) = refl
word_in (Err refusal) = refl

same_refusal : (q r : Refusal) → ◌≡◌ {A = Result Answer Refusal} (Err q) (Err r) → q ≡ r
same_refusal q r h = cc

out_in : {v w : StillWhole} → v ≡ w → v.out ≡ w.out
out_in h = ap (λ (q : StillWhole). q.out) h

module _ {n : ℕ} {inputs : Bool} {m : List ℕ} {own : ℕ → Bool} {x : Float} {w : Lent → Whole} {e : StillLent} {v : Bool → StillWhole} (c : Entry n inputs m own x w e v) where
  accepts_off : Replied n (still_sizes n inputs m e) e c.reply v → (v false).out ≡ Ok c.replies.answer
  accepts_off q = out_in q.off ∙ c.replies.out

  any_number : own 0 ≡ false → own 13 ≡ false → StillNumbers own x (λ s. (v s).out)
  unfolding number_in
  any_number no-nought no-thirteen = elim c.ways [
    | inl q ↦ away q
    | inr q ↦ replied q
  ]
    where
      apart : (k : ℕ) → own k ≡ false → (k ≡ 14 → ⊥) → (own k ≡ true) ⊎ FloorBad x k → ⊥
      apart k h l (inl g) = true≢false (sym g ∙ h)
      apart k h l (inr g) = l g.0

      away : Away own x e v → StillNumbers own x (λ s. (v s).out)
      away q =
          let is : (s : Bool) (r : Refusal) → (v s).out ≡ Err r → (own (number_of r) ≡ true) ⊎ FloorBad x (number_of r) =
          λ s r h. let z = same_refusal q.refusal r (sym (out_in (q.whole s)) ∙ h) in rw z at q.known
          in
          record {
            number = λ s r h. elim (is s r h) [
              | inl g ↦ inl g
              | inr g ↦ inr (inl g)
            ];
            thirteen = λ a h. absurd (refused_apart q.refusal a (sym (out_in (q.whole false)) ∙ h));
            only = λ s h. absurd (apart 13 no-thirteen (λ z. omega arith) (is s RetiredShrinking h));
            last = λ r h. out_in (q.whole true) ∙ sym (out_in (q.whole false)) ∙ h;
            nought = λ s h.
                let z : number_of q.refusal ≡ 0 = sym (ap number_in (out_in (q.whole s))) ∙ sym (word_in (v s).out) ∙ h in
                absurd (apart 0 no-nought (λ z. omega arith) (rw z at q.known));
          }

      replied : Replied n (still_sizes n inputs m e) e c.reply v → StillNumbers own x (λ s. (v s).out)
      replied q = record {
        number = number;
        thirteen = λ a h. out_in q.on;
        only = only;
        last = λ r h. absurd (off r h);
        nought = nought;
      }
        where
          off : (r : Refusal) → (v false).out ≡ Err r → ⊥
          off r h = refused_apart r c.replies.answer (sym h ∙ accepts_off q)

          number : (s : Bool) (r : Refusal) → (v s).out ≡ Err r → StillNumbered own x s (number_of r)
          number true r h = inr (inr (sym (ap number_of (same_refusal RetiredShrinking r (sym (out_in q.on) ∙ h))), refl))
          number false r h = absurd (off r h)

          only : (s : Bool) → (v s).out ≡ Err RetiredShrinking → (s ≡ true) × (a : Answer) × ((v false).out ≡ Ok a)
          only true h = (refl, c.replies.answer, accepts_off q)
          only false h = absurd (off RetiredShrinking h)

          nought : (s : Bool) → get_or (words_of (v s).out) 0 0 ≡ 0 → (a : Answer) × ((v s).out ≡ Ok a)
          nought true h = let z : ◌≡◌ {A = ℕ} 13 0 = sym (ap number_in (out_in q.on)) ∙ sym (word_in (v true).out) ∙ h in absurd (omega arith)
          nought false h = (c.replies.answer, accepts_off q)

  any_accepts : (shrinking : Bool) (a : Answer) → (v shrinking).out ≡ Ok a → StillAccepts n inputs m shrinking w e a
  any_accepts shrinking a h = elim c.ways [
    | inl q ↦ absurd (refused_apart q.refusal a (sym (out_in (q.whole shrinking)) ∙ h))
    | inr q ↦ go shrinking h q
  ]
    where
      go : (s : Bool) → (v s).out ≡ Ok a → Replied n (still_sizes n inputs m e) e c.reply v → StillAccepts n inputs m s w e a
      go true h q = absurd (refused_apart RetiredShrinking a (sym (out_in q.on) ∙ h))
      go false h q = record { off = refl; room = q.room; beside = λ d f. (c.same d f q.room).out ∙ h; enough = long_lists n inputs m e q.room }

  -- each coefficient is the one that the rule's entry has at home
  any_places : (shrinking : Bool) (a : Answer) → (v shrinking).out ≡ Ok a → (d : Lent) → sizes_of n inputs m d ≡ Ok tt → (k : ℕ) → k < n
      → get_or (v shrinking).left.result k nan ≡ get_or (w d).left.home k nan
  any_places shrinking a h d f k K =
      let q = any_accepts shrinking a h in
      rw q.off (sym ((c.same d f q.room).places a (q.beside d f) k K))

  any_leaves : (shrinking : Bool) → StillLeaves n inputs m w e (v shrinking)
  any_leaves shrinking = elim c.ways [
    | inl q ↦ rw (q.whole shrinking) (kept q.refusal)
    | inr q ↦ go shrinking q
  ]
    where
      kept : (r : Refusal) → StillLeaves n inputs m w e (still_untouched (Err r) e)
      kept r = record {
        untouched = λ q h. refl;
        coefficients = λ a h. absurd (refused_apart r a h);
        cleared = λ a h. absurd (refused_apart r a h);
        result = beyond_refl _ _ _;
        floats = beyond_refl _ _ _;
        bytes = beyond_refl _ _ _;
      }

      cleared : (z : still_sizes n inputs m e ≡ Ok tt) → StillClear n (still_left n c.reply e).left
      cleared z =
          let q = room_still n inputs (length m) (length e.result) (length e.floats) (length e.bytes) z in
          record {
            floats = λ k K. filled_at nan Weight.zero e.floats (5 * n) k q.floats K;
            bytes = λ k K. filled_at {A = ℕ} 1 0 e.bytes n k q.bytes K;
          }

      go : (s : Bool) → Replied n (still_sizes n inputs m e) e c.reply v → StillLeaves n inputs m w e (v s)
      go true q = rw q.on (kept RetiredShrinking)
      go false q = record {
        untouched = λ r h. absurd (refused_apart r c.replies.answer (sym h ∙ accepts_off q));
        coefficients = any_places false;
        cleared = λ a h. rw q.off (cleared q.room);
        result = rw q.off c.replies.result;
        floats = rw q.off (filled_beyond nan (5 * n) Weight.zero e.floats);
        bytes = rw q.off (filled_beyond 0 n 0 e.bytes);
      }

-- ---- C

module _ (tune : Tuning) (n : ℕ) (m l : List ℕ) (cpos cneg eps : Float) (budget : ℕ) (e : StillLent) where
  c_entry : Entry n (eqb (length l) n) m c_number tune.floor (fit_c_tuned tune n m l cpos cneg eps false budget) e (λ s. still_c_tuned tune n m l cpos cneg eps s budget e)
  unfolding still_c_tuned still_c_tuned_sized
  c_entry = record {
    reply = still_c (given_by tune n TwoClass eps false false) m l cpos cneg budget e.floats e.result;
    replies = still_replies _ _ _ _ _ _ _ budget e.floats e.result;
    ways = entry_ways n c_number tune.floor e _ (c_judged n m l cpos cneg eps budget) (c_judged_number n m l cpos cneg eps budget) refl refl (eqb (length l) n) m;
    same = λ d f q. c_same tune n m l eps budget d e f q cpos cneg;
  }

  -- which number a refusal has, by whether shrinking is asked for
  pub still_c_number : StillNumbers c_number tune.floor (λ s. (still_c_tuned tune n m l cpos cneg eps s budget e).out)
  still_c_number = any_number c_entry refl refl

  -- what the lent lists hold in every outcome
  pub still_c_leaves : (shrinking : Bool) → StillLeaves n (eqb (length l) n) m (fit_c_tuned tune n m l cpos cneg eps false budget) e (still_c_tuned tune n m l cpos cneg eps shrinking budget e)
  still_c_leaves = any_leaves c_entry

  -- the rule's entry accepts with the same answer
  pub still_c_accepts : (shrinking : Bool) (x : Answer) → (still_c_tuned tune n m l cpos cneg eps shrinking budget e).out ≡ Ok x → StillAccepts n (eqb (length l) n) m shrinking (fit_c_tuned tune n m l cpos cneg eps false budget) e x
  still_c_accepts = any_accepts c_entry

-- d is lent to the rule's entry, and suffices
module _ (tune : Tuning) (n : ℕ) (m l : List ℕ) (cpos cneg eps : Float) (shrinking : Bool) (budget : ℕ) (e : StillLent) (x : Answer) (h : (still_c_tuned tune n m l cpos cneg eps shrinking budget e).out ≡ Ok x)
    (d : Lent) (suffices : sizes_of n (eqb (length l) n) m d ≡ Ok tt) where
  c_beside : (fit_c_tuned tune n m l cpos cneg eps false budget d).out ≡ Ok x
  c_beside = (still_c_accepts tune n m l cpos cneg eps budget e shrinking x h).beside d suffices

  -- what the result holds for sample s
  pub still_c_home : (s : ℕ) → s < n → get_or (still_c_tuned tune n m l cpos cneg eps shrinking budget e).left.result s nan ≡ own_weight (c_fit tune n l cpos cneg eps false) m d budget s
  still_c_home s b = (still_c_leaves tune n m l cpos cneg eps budget e shrinking).coefficients x h d suffices s b ∙ c_home tune n m l cpos cneg eps false budget d x c_beside s b

  pub still_c_iterations : Counts (c_fit tune n l cpos cneg eps false) m d budget x.iterations
  still_c_iterations = c_iterations tune n m l cpos cneg eps false budget d x c_beside

  pub still_c_threshold : x.exit_reason ≡ ReachedThreshold → Threshold (c_fit tune n l cpos cneg eps false) m d budget
  still_c_threshold = c_threshold tune n m l cpos cneg eps false budget d x c_beside

-- one cost for both labels
module _ (tune : Tuning) (n : ℕ) (m l : List ℕ) (cost eps : Float) (shrinking : Bool) (budget : ℕ) (e : StillLent) (x : Answer) (h : (still_c_tuned tune n m l cost cost eps shrinking budget e).out ≡ Ok x)
    (d : Lent) (suffices : sizes_of n (eqb (length l) n) m d ≡ Ok tt) (fit : T (fits binary64 cost)) where
  pub still_c_box : (t i : ℕ) → i < n → In cost (weight_after (c_fit tune n l cost cost eps false) m d t i)
  still_c_box = c_box tune n m l cost eps false budget d x (c_beside tune n m l cost cost eps shrinking budget e x h d suffices) fit

  pub still_c_no_nan : (t i j : ℕ) → pair_after (c_fit tune n l cost cost eps false) m d t ≡ Some (i, j) → NotNan (delta_after (c_fit tune n l cost cost eps false) m d t i j)
  still_c_no_nan = c_no_nan tune n m l cost eps false budget d x (c_beside tune n m l cost cost eps shrinking budget e x h d suffices) fit

  -- the weight behind what the result holds for sample s
  pub still_c_home_box : (s : ℕ) → s < n → In cost (last_left (steps_taken (c_fit tune n l cost cost eps false) m d budget) s (get_or nothing s nan))
  still_c_home_box = c_home_box tune n m l cost eps false budget d x (c_beside tune n m l cost cost eps shrinking budget e x h d suffices) fit

-- ---- nu

module _ (tune : Tuning) (n : ℕ) (m l : List ℕ) (nu eps : Float) (budget : ℕ) (e : StillLent) where
  nu_entry : Entry n (eqb (length l) n) m nu_number tune.floor (fit_nu_tuned tune n m l nu eps false budget) e (λ s. still_nu_tuned tune n m l nu eps s budget e)
  unfolding still_nu_tuned still_nu_tuned_sized
  nu_entry = record {
    reply = still_nu (given_by tune n TwoClass eps false true) m l nu budget e.floats e.result;
    replies = still_replies _ _ _ _ _ _ _ budget e.floats e.result;
    ways = entry_ways n nu_number tune.floor e _ (nu_judged n m l nu eps budget) (nu_judged_number n m l nu eps budget) refl refl (eqb (length l) n) m;
    same = λ d f q. nu_same tune n m l eps budget d e f q nu;
  }

  -- which number a refusal has, by whether shrinking is asked for
  pub still_nu_number : StillNumbers nu_number tune.floor (λ s. (still_nu_tuned tune n m l nu eps s budget e).out)
  still_nu_number = any_number nu_entry refl refl

  -- what the lent lists hold in every outcome
  pub still_nu_leaves : (shrinking : Bool) → StillLeaves n (eqb (length l) n) m (fit_nu_tuned tune n m l nu eps false budget) e (still_nu_tuned tune n m l nu eps shrinking budget e)
  still_nu_leaves = any_leaves nu_entry

  -- the rule's entry accepts with the same answer
  pub still_nu_accepts : (shrinking : Bool) (x : Answer) → (still_nu_tuned tune n m l nu eps shrinking budget e).out ≡ Ok x → StillAccepts n (eqb (length l) n) m shrinking (fit_nu_tuned tune n m l nu eps false budget) e x
  still_nu_accepts = any_accepts nu_entry

-- d is lent to the rule's entry, and suffices
module _ (tune : Tuning) (n : ℕ) (m l : List ℕ) (nu eps : Float) (shrinking : Bool) (budget : ℕ) (e : StillLent) (x : Answer) (h : (still_nu_tuned tune n m l nu eps shrinking budget e).out ≡ Ok x)
    (d : Lent) (suffices : sizes_of n (eqb (length l) n) m d ≡ Ok tt) where
  nu_beside : (fit_nu_tuned tune n m l nu eps false budget d).out ≡ Ok x
  nu_beside = (still_nu_accepts tune n m l nu eps budget e shrinking x h).beside d suffices

  -- what the result holds for sample s
  pub still_nu_home : (s : ℕ) → s < n → get_or (still_nu_tuned tune n m l nu eps shrinking budget e).left.result s nan ≡ own_weight (nu_fit tune n l nu eps false) m d budget s
  still_nu_home s b = (still_nu_leaves tune n m l nu eps budget e shrinking).coefficients x h d suffices s b ∙ nu_home tune n m l nu eps false budget d x nu_beside s b

  pub still_nu_iterations : Counts (nu_fit tune n l nu eps false) m d budget x.iterations
  still_nu_iterations = nu_iterations tune n m l nu eps false budget d x nu_beside

  pub still_nu_threshold : x.exit_reason ≡ ReachedThreshold → Threshold (nu_fit tune n l nu eps false) m d budget
  still_nu_threshold = nu_threshold tune n m l nu eps false budget d x nu_beside

  module _ (fit : T (fits binary64 nu)) where
    pub still_nu_box : (t i : ℕ) → i < n → In one (weight_after (nu_fit tune n l nu eps false) m d t i)
    still_nu_box = nu_box tune n m l nu eps false budget d x nu_beside fit

    pub still_nu_no_nan : (t i j : ℕ) → pair_after (nu_fit tune n l nu eps false) m d t ≡ Some (i, j) → NotNan (delta_after (nu_fit tune n l nu eps false) m d t i j)
    still_nu_no_nan = nu_no_nan tune n m l nu eps false budget d x nu_beside fit

    -- the weight behind what the result holds for sample s
    pub still_nu_home_box : (s : ℕ) → s < n → In one (last_left (steps_taken (nu_fit tune n l nu eps false) m d budget) s (get_or (shared_to (half nu n) l nothing n) s nan))
    still_nu_home_box = nu_home_box tune n m l nu eps false budget d x nu_beside fit

-- ---- one-class

module _ (tune : Tuning) (n : ℕ) (m : List ℕ) (nu eps : Float) (budget : ℕ) (e : StillLent) where
  one_class_entry : Entry n true m one_class_number tune.floor (fit_one_class_tuned tune n m nu eps false budget) e (λ s. still_one_class_tuned tune n m nu eps s budget e)
  unfolding still_one_class_tuned still_one_class_tuned_sized
  one_class_entry = record {
    reply = still_one_class (given_by tune n OneClass eps false false) m nu budget e.floats e.result;
    replies = still_replies _ _ _ _ _ _ _ budget e.floats e.result;
    ways = entry_ways n one_class_number tune.floor e _ (one_class_judged n m nu eps budget) (one_class_judged_number n m nu eps budget) refl refl true m;
    same = λ d f q. one_class_same tune n m eps budget d e f q nu;
  }

  -- which number a refusal has, by whether shrinking is asked for
  pub still_one_class_number : StillNumbers one_class_number tune.floor (λ s. (still_one_class_tuned tune n m nu eps s budget e).out)
  still_one_class_number = any_number one_class_entry refl refl

  -- what the lent lists hold in every outcome
  pub still_one_class_leaves : (shrinking : Bool) → StillLeaves n true m (fit_one_class_tuned tune n m nu eps false budget) e (still_one_class_tuned tune n m nu eps shrinking budget e)
  still_one_class_leaves = any_leaves one_class_entry

  -- the rule's entry accepts with the same answer
  pub still_one_class_accepts : (shrinking : Bool) (x : Answer) → (still_one_class_tuned tune n m nu eps shrinking budget e).out ≡ Ok x → StillAccepts n true m shrinking (fit_one_class_tuned tune n m nu eps false budget) e x
  still_one_class_accepts = any_accepts one_class_entry

-- d is lent to the rule's entry, and suffices
module _ (tune : Tuning) (n : ℕ) (m : List ℕ) (nu eps : Float) (shrinking : Bool) (budget : ℕ) (e : StillLent) (x : Answer) (h : (still_one_class_tuned tune n m nu eps shrinking budget e).out ≡ Ok x)
    (d : Lent) (suffices : sizes_of n true m d ≡ Ok tt) where
  one_class_beside : (fit_one_class_tuned tune n m nu eps false budget d).out ≡ Ok x
  one_class_beside = (still_one_class_accepts tune n m nu eps budget e shrinking x h).beside d suffices

  -- what the result holds for sample s
  pub still_one_class_home : (s : ℕ) → s < n → get_or (still_one_class_tuned tune n m nu eps shrinking budget e).left.result s nan ≡ own_weight (one_class_fit tune n nu eps false) m d budget s
  still_one_class_home s b = (still_one_class_leaves tune n m nu eps budget e shrinking).coefficients x h d suffices s b ∙ one_class_home tune n m nu eps false budget d x one_class_beside s b

  pub still_one_class_iterations : Counts (one_class_fit tune n nu eps false) m d budget x.iterations
  still_one_class_iterations = one_class_iterations tune n m nu eps false budget d x one_class_beside

  pub still_one_class_threshold : x.exit_reason ≡ ReachedThreshold → Threshold (one_class_fit tune n nu eps false) m d budget
  still_one_class_threshold = one_class_threshold tune n m nu eps false budget d x one_class_beside

  module _ (fit : T (fits binary64 nu)) where
    pub still_one_class_box : (t i : ℕ) → i < n → In one (weight_after (one_class_fit tune n nu eps false) m d t i)
    still_one_class_box = one_class_box tune n m nu eps false budget d x one_class_beside fit

    pub still_one_class_no_nan : (t i j : ℕ) → pair_after (one_class_fit tune n nu eps false) m d t ≡ Some (i, j) → NotNan (delta_after (one_class_fit tune n nu eps false) m d t i j)
    still_one_class_no_nan = one_class_no_nan tune n m nu eps false budget d x one_class_beside fit

    -- the weight behind what the result holds for sample s
    pub still_one_class_home_box : (s : ℕ) → s < n → In one (last_left (steps_taken (one_class_fit tune n nu eps false) m d budget) s (get_or (one_class_to nu n nothing n) s nan))
    still_one_class_home_box = one_class_home_box tune n m nu eps false budget d x one_class_beside fit
