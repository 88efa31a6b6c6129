-- Where a C function answers 0, its fit was accepted, the bytes at place s are those of what the promises say of sample s, and the promises hold
-- of its run. Assumes nothing.
use Prim.Native.Nat.{ℕ, ◌*◌, ◌%◌, ◌^◌, ◌≤◌, ◌<◌}
use mathlib.Core.Bool.{Bool, true}
use mathlib.Core.List.{List}
use mathlib.Core.Path.{◌≡◌, refl, sym, ap, ◌∙◌}
use native.Mathlib.Nat.{mod-eq_of_lt}
use native.Mathlib.Omega.{arith}
use borrow.Author.Tests.{eq-eqb, lt-ltb, le-leb}
use lib.Dec.{T, eqb}
use lib.Ieee.{Float, nan, binary64, to_bits, fits}
use lib.Ieee.Bits.{of_bits-fits, to_bits-lt}
use lib.Ieee.Fits.{cond-fits}
use lib.ListN.{length, get_or, length-replicate, get_or-replicate}
use Rattle.std.specs.Prelude.{Some}
use Rattle.alpha.specs.Weight as Weight
use Rattle.altuliscia.specs.Functions.{general_host_by, c_host_by, nu_host_by, one_class_host_by}
use Rattle.answer.specs.Lent.{Lent, Whole}
use Rattle.answer.specs.declared.Answer.{Answer}
use Rattle.boxed.specs.Range.{In}
use Rattle.classification.specs.Entries.{fitted, decided, general_tuned_sized, fit_c_tuned_sized, fit_c_tuned, fit_nu_tuned_sized, fit_nu_tuned, fit_one_class_tuned_sized, fit_one_class_tuned}
use Rattle.classification.proofs.Laws.{Usable, usable_general, usable_c, usable_nu, usable_one_class}
use Rattle.hosted.specs.Hosted.{is_on, as_float, byte_sizes, general_inputs, decoded_to, floats_of, stored_to, room, Handed, delivered_with, delivered_by, delivered, hosted_by, fresh_places, fresh_floats, fresh_numbers, fresh_bytes, answered_by}
use Rattle.hosted.proofs.Serves.{Serves, inputs_right, serves}
use Rattle.fits.proofs.Starts.{cost_at}
use Rattle.judge.specs.Judge.{general_judged, c_judged, nu_judged, one_class_judged, floor_judged}
use Rattle.judge.specs.Sizes.{sizes, Room}
use Rattle.judge.specs.Refusals.{number}
use Rattle.judge.proofs.Accepted.{floor_fine}
use Rattle.lists.proofs.Prefix.{prefix_at}
use Rattle.promises.specs.Fit.{Fit, own_weight, r_of, after, weight_after, pair_after, delta_after, steps_taken}
use Rattle.classification.proofs.Accepts.{decided_in}
use Rattle.promises.proofs.Alike.{served_alike}
use Rattle.promises.proofs.Box.{Common, served_box, served_no_nan, served_home_box}
use Rattle.promises.proofs.Boxes.{general_common, nu_home_box, one_class_home_box}
use Rattle.finder.proofs.Doubles.{Double}
use Rattle.promises.proofs.Doubles.{coefficient_doubled, served_own_double}
use Rattle.promises.proofs.Home.{served_home}
use Rattle.promises.proofs.Travel.{Served, served_travels, travelling_travels, served_ceilings}
use Rattle.rounding.specs.Units.{NotNan}
use Rattle.travel.specs.Home.{last_left}
use Rattle.modes.specs.Modes.{travels}
use Rattle.modes.specs.declared.Mode.TheVariants.{Travelling}
use Rattle.travel.specs.Travel.{Travelled, OwnCeilings}
use Rattle.wire.specs.Wire.{digits, float_at}
use Rattle.tuning.specs.declared.Tuning.{Tuning}
use Rattle.handed.specs.Gives.{Gives}
use Rattle.handed.specs.Trains.{general_trains, c_trains, nu_trains, one_class_trains}
use Rattle.handed.proofs.Stored.{stored_at}
use Rattle.std.specs.Prelude.{⊤, Result, Ok, Err}
use Rattle.judge.specs.declared.Refusal.{Refusal}
use Rattle.judge.specs.declared.Refusal.TheVariants.{Samples, Length, Kernel, Label, Ceiling, Alpha, Linear, Eps, Nu, Budget, ShrunkAway, Retired, RetiredShrinking, Floor}

-- ---- 0 says: not turned away

some_refusal : (refusal : Refusal) → 1 ≤ number refusal
some_refusal Samples = omega arith
some_refusal Length = omega arith
some_refusal (Kernel i) = omega arith
some_refusal (Label i) = omega arith
some_refusal (Ceiling i) = omega arith
some_refusal (Alpha i) = omega arith
some_refusal (Linear i) = omega arith
some_refusal Eps = omega arith
some_refusal Nu = omega arith
some_refusal Budget = omega arith
some_refusal ShrunkAway = omega arith
some_refusal Retired = omega arith
some_refusal RetiredShrinking = omega arith
some_refusal Floor = omega arith

pub turned_not : (j : Result ⊤ Refusal) (w : Handed) (cr h an : List ℕ) → (hosted_by j w cr h an).code ≡ 0 → (j ≡ Ok tt) × (hosted_by j w cr h an ≡ w)
unfolding hosted_by
turned_not (Ok x) w cr h an z = (refl, refl)
turned_not (Err refusal) w cr h an z = let s = some_refusal refusal in absurd (omega arith)

-- ---- and not refused

pub record Out (n : ℕ) (w : Whole) (cr h an : List ℕ) (o : Handed) : Type 0 where
  pub answer : Answer
  pub accepted : w.out ≡ Ok answer
  pub told : o.answer ≡ answered_by (Ok answer) an
  pub crate : o.crate ≡ stored_to w.left.crate cr n
  pub home : o.home ≡ stored_to w.left.home h n

pub delivered_out : (n : ℕ) (w : Whole) (cr h an : List ℕ) → (delivered n w cr h an).code ≡ 0 → Out n w cr h an (delivered n w cr h an)
unfolding delivered delivered_with
delivered_out n w cr h an = go w.out refl
  where
    go : (o : Result Answer Refusal) → w.out ≡ o → (delivered_by n o w.left.crate w.left.home cr h an).code ≡ 0
        → Out n w cr h an (delivered_by n o w.left.crate w.left.home cr h an)
    go (Ok x) e z = record { answer = x; accepted = e; told = refl; crate = refl; home = refl }
    go (Err refusal) e z = let s = some_refusal refusal in absurd (omega arith)

-- ---- a fit over the call's own room

pub room_fits : (n m : ℕ) → Room n m 512 512 3584 1024 512 → Room n m (length room.crate) (length room.home) (length room.floats) (length room.numbers) (length room.bytes)
unfolding fresh_places fresh_floats fresh_numbers fresh_bytes
room_fits n m r = rw (length-replicate 512 Weight.zero, length-replicate 3584 Weight.zero, length-replicate {A = ℕ} 1024 0, length-replicate {A = ℕ} 512 0) r

abbrev fit_over : Fit → List ℕ → ℕ → Whole
fit_over k m budget = fitted k.given k.how m k.labels k.ceilings k.weights k.terms budget room

pub record Ran (k : Fit) (m cr h an : List ℕ) (budget : ℕ) (w : Whole) (o : Handed) : Type 0 where
  pub served : Served k m budget room w
  pub out : Out k.given.n w cr h an o
  pub crate_long : 8 * k.given.n ≤ length cr
  pub home_long : 8 * k.given.n ≤ length h
  pub answer_long : 72 ≤ length an

gives : {k : Fit} {m cr h an : List ℕ} {budget : ℕ} {w : Whole} {o : Handed} → Ran k m cr h an budget w o
    → ((s : ℕ) → s < k.given.n → Double (own_weight k m room budget s)) → Gives k m budget o
gives {k = k} {m = m} {cr = cr} {h = h} {w = w} r double = record {
  home = λ s g.
      ap (λ (b : List ℕ). digits b (8 * s) 8) r.out.home
      ∙ stored_at w.left.home h k.given.n s r.home_long g
      ∙ ap (λ (x : Float). to_bits binary64 x % 256 ^ 8) (served_home r.served r.out.answer r.out.accepted s g)
      ∙ mod-eq_of_lt (to_bits-lt binary64 _ (double s g));
  alike = λ off s g.
      ap (λ (b : List ℕ). digits b (8 * s) 8) r.out.crate
      ∙ stored_at w.left.crate cr k.given.n s r.crate_long g
      ∙ ap (λ (x : Float). to_bits binary64 x % 256 ^ 8) (served_alike r.served r.out.answer r.out.accepted off s g)
      ∙ sym (stored_at w.left.home h k.given.n s r.home_long g)
      ∙ sym (ap (λ (b : List ℕ). digits b (8 * s) 8) r.out.home);
}

-- a function that answers 0: its sizes are right, nothing was refused, and the fit ran
ran : (k : Fit) (m cr h an : List ℕ) (budget : ℕ) (turned j : Result ⊤ Refusal) → k.given.side ≡ k.given.n
    → (turned ≡ Ok tt → Serves k.given.n (length m) (length cr) (length h) (length an))
    → (k.given.n ≤ 512 → length m ≡ 8 * (k.given.n * k.given.n) → j ≡ Ok tt → Usable k.given.n m budget)
    → (hosted_by turned (delivered k.given.n (decided j (fit_over k m budget) room) cr h an) cr h an).code ≡ 0
    → (turned ≡ Ok tt) × (j ≡ Ok tt)
    × Ran k m cr h an budget (decided j (fit_over k m budget) room) (hosted_by turned (delivered k.given.n (decided j (fit_over k m budget) room) cr h an) cr h an)
ran k m cr h an budget turned j square sized usable z =
    let w = decided j (fit_over k m budget) room in
    let t = turned_not turned (delivered k.given.n w cr h an) cr h an z in
    let v = sized t.0 in
    let o = delivered_out k.given.n w cr h an (sym (ap (λ (q : Handed). q.code) t.1) ∙ z) in
    let f = decided_in (fit_over k m budget) room o.answer j o.accepted in (
      t.0,
      f.0,
      record {
        served = record { square = square; room = room_fits k.given.n (length m) v.room; usable = usable v.room.most v.room.matrix f.0; same = f.1 };
        out = rw t.1 o;
        crate_long = v.crate;
        home_long = v.home;
        answer_long = v.answer;
      },
    )

-- lists of the right sizes are let in
let_in : (n : ℕ) (inputs : Bool) (m rc rh f u y : ℕ) (w : Whole) (d : Lent) → inputs ≡ true → Room n m rc rh f u y → decided (sizes n inputs m rc rh f u y) w d ≡ w
unfolding decided sizes
let_in n inputs m rc rh f u y w d i r =
    rw (lt-ltb 0 n r.some, le-leb n 512 r.most, i, eq-eqb m (8 * (n * n)) r.matrix, le-leb n rc r.crate, le-leb n rh r.home, le-leb (7 * n) f r.floats, le-leb (2 * n) u r.numbers, le-leb n y r.bytes)

floats_at : (b : List ℕ) (n i : ℕ) → n ≤ 512 → i < n → get_or (floats_of b n) i nan ≡ float_at b (8 * i)
unfolding decoded_to fresh_places
floats_at b n i few h = prefix_at nan (decoded_to b fresh_places) (λ k. float_at b (8 * k)) (λ k. refl) n i (rw (length-replicate 512 Weight.zero) few) h

pub decoded_double : (b : List ℕ) (n i : ℕ) → n ≤ 512 → i < n → Double (get_or (floats_of b n) i nan)
decoded_double b n i few h = rw (floats_at b n i few h) (of_bits-fits binary64 _)

-- ---- the four functions

module _ (tune : Tuning) (n : ℕ) (m l c a p : List ℕ) (nurule eps shrinking budget : ℕ) (cr h an : List ℕ) (z : (general_host_by tune n m l c a p nurule eps shrinking budget cr h an).code ≡ 0) where
  abbrev general_k : Fit
  general_k = general_trains tune n l c a p nurule eps shrinking

  abbrev general_w : Whole
  general_w = general_tuned_sized tune n m l (floats_of c n) (floats_of a n) (floats_of p n) (is_on nurule) (as_float eps) (is_on shrinking) budget room

  pub general_ran : (byte_sizes n (general_inputs n l c a p) m cr h an ≡ Ok tt) × (floor_judged tune.floor (general_judged n m l (floats_of c n) (floats_of a n) (floats_of p n) (as_float eps) budget) ≡ Ok tt) × Ran (general_trains tune n l c a p nurule eps shrinking) m cr h an budget general_w (general_host_by tune n m l c a p nurule eps shrinking budget cr h an)
  unfolding general_host_by general_tuned_sized
  general_ran =
      ran general_k m cr h an budget (byte_sizes n (general_inputs n l c a p) m cr h an) (floor_judged tune.floor (general_judged n m l (floats_of c n) (floats_of a n) (floats_of p n) (as_float eps) budget)) refl
      (serves n (general_inputs n l c a p) (length m) (length cr) (length h) (length an))
      (λ most long f. usable_general n m budget most long l (floats_of c n) (floats_of a n) (floats_of p n) (as_float eps) (floor_fine tune.floor _ f).0)
      z

  pub general_gives : Gives (general_trains tune n l c a p nurule eps shrinking) m budget (general_host_by tune n m l c a p nurule eps shrinking budget cr h an)
  general_gives =
      let r = general_ran.2 in
      gives r (served_own_double r.served (λ i g. decoded_double c n i r.served.room.most g) (λ i g. decoded_double a n i r.served.room.most g) r.out.answer r.out.accepted)

  -- the training was accepted, and its answer is what is written: said of `general_tuned_sized`, since the entry `general_of` asks for lists of n places, and what
  -- is read from the bytes has 512
  pub general_called : (x : Answer) × ((general_tuned_sized tune n m l (floats_of c n) (floats_of a n) (floats_of p n) (is_on nurule) (as_float eps) (is_on shrinking) budget room).out ≡ Ok x)
      × ((general_host_by tune n m l c a p nurule eps shrinking budget cr h an).answer ≡ answered_by (Ok x) an)
  general_called = let r = general_ran.2 in (r.out.answer, r.out.accepted, r.out.told)

  pub general_called_travels : (t : ℕ) → Travelled n (λ s. get_or l s 0) (λ s. get_or (floats_of p n) s nan) (after (general_trains tune n l c a p nurule eps shrinking) m room t).state
  general_called_travels = served_travels general_ran.2.served

  -- where ceilings travel
  pub general_called_ceilings : tune.mode ≡ Travelling → (t : ℕ) → OwnCeilings n (λ s. get_or (floats_of c n) s nan) (after (general_trains tune n l c a p nurule eps shrinking) m room t).state
  general_called_ceilings h = served_ceilings general_ran.2.served (ap travels h ∙ travelling_travels)

  -- the box, where every lent ceiling is b
  module _ (b : Float) (fit : T (fits binary64 b)) (same : (i : ℕ) → i < n → get_or (floats_of c n) i nan ≡ b) where
    one_b : Common general_k m b
    one_b =
        let r = general_ran in
        general_common tune n m l (floats_of c n) (floats_of a n) (floats_of p n) (is_on nurule) (as_float eps) (is_on shrinking) budget r.2.served.room.some (floor_fine tune.floor _ r.1).0 (floor_fine tune.floor _ r.1).1 b fit same
        (λ i g. decoded_double a n i r.2.served.room.most g)

    pub general_called_box : (t i : ℕ) → i < n → In b (weight_after (general_trains tune n l c a p nurule eps shrinking) m room t i)
    general_called_box = served_box general_ran.2.served one_b

    pub general_called_no_nan : (t i j : ℕ) → pair_after (general_trains tune n l c a p nurule eps shrinking) m room t ≡ Some (i, j) → NotNan (delta_after (general_trains tune n l c a p nurule eps shrinking) m room t i j)
    general_called_no_nan = served_no_nan general_ran.2.served one_b

    pub general_called_home_box : (s : ℕ) → s < n → In b (last_left (steps_taken (general_trains tune n l c a p nurule eps shrinking) m room budget) s (get_or (floats_of a n) s nan))
    general_called_home_box = served_home_box general_ran.2.served one_b

module _ (tune : Tuning) (n : ℕ) (m l : List ℕ) (cpos cneg eps shrinking budget : ℕ) (cr h an : List ℕ) (z : (c_host_by tune n m l cpos cneg eps shrinking budget cr h an).code ≡ 0) where
  abbrev c_k : Fit
  c_k = c_trains tune n l cpos cneg eps shrinking

  abbrev c_w : Whole
  c_w = fit_c_tuned_sized tune n m l (as_float cpos) (as_float cneg) (as_float eps) (is_on shrinking) budget room

  pub c_ran : (byte_sizes n (eqb (length l) n) m cr h an ≡ Ok tt) × (floor_judged tune.floor (c_judged n m l (as_float cpos) (as_float cneg) (as_float eps) budget) ≡ Ok tt) × Ran (c_trains tune n l cpos cneg eps shrinking) m cr h an budget c_w (c_host_by tune n m l cpos cneg eps shrinking budget cr h an)
  unfolding c_host_by fit_c_tuned_sized
  c_ran =
      ran c_k m cr h an budget (byte_sizes n (eqb (length l) n) m cr h an) (floor_judged tune.floor (c_judged n m l (as_float cpos) (as_float cneg) (as_float eps) budget)) refl
      (serves n (eqb (length l) n) (length m) (length cr) (length h) (length an))
      (λ most long f. usable_c n m budget most long l (as_float cpos) (as_float cneg) (as_float eps) (floor_fine tune.floor _ f).0)
      z

  pub c_gives : Gives (c_trains tune n l cpos cneg eps shrinking) m budget (c_host_by tune n m l cpos cneg eps shrinking budget cr h an)
  c_gives =
      let r = c_ran.2 in
      let most = r.served.room.most in
      gives r (served_own_double r.served
      (λ i g. rw (cost_at n i most g (as_float cpos) (as_float cneg) l) (cond-fits binary64 (eqb (get_or l i 0) 1) _ _ (of_bits-fits binary64 cpos) (of_bits-fits binary64 cneg)))
      (λ i g. rw (get_or-replicate 512 i Weight.zero nan (omega (arith, most))) (of_bits-fits binary64 0))
      r.out.answer r.out.accepted)

  -- the entry accepts, so all that is promised of it holds; and its answer is what is written
  pub c_called : (x : Answer) × ((fit_c_tuned tune n m l (as_float cpos) (as_float cneg) (as_float eps) (is_on shrinking) budget room).out ≡ Ok x)
      × ((c_host_by tune n m l cpos cneg eps shrinking budget cr h an).answer ≡ answered_by (Ok x) an)
  unfolding fit_c_tuned
  c_called =
      let r = c_ran in
      let i = inputs_right n (eqb (length l) n) (length m) (length cr) (length h) (length an) r.0 in
      (r.2.out.answer, ap (λ (q : Whole). q.out) (let_in n (eqb (length l) n) _ _ _ _ _ _ c_w room i r.2.served.room) ∙ r.2.out.accepted, r.2.out.told)

module _ (tune : Tuning) (n : ℕ) (m l : List ℕ) (nu eps shrinking budget : ℕ) (cr h an : List ℕ) (z : (nu_host_by tune n m l nu eps shrinking budget cr h an).code ≡ 0) where
  abbrev nu_k : Fit
  nu_k = nu_trains tune n l nu eps shrinking

  abbrev nu_w : Whole
  nu_w = fit_nu_tuned_sized tune n m l (as_float nu) (as_float eps) (is_on shrinking) budget room

  pub nu_ran : (byte_sizes n (eqb (length l) n) m cr h an ≡ Ok tt) × (floor_judged tune.floor (nu_judged n m l (as_float nu) (as_float eps) budget) ≡ Ok tt) × Ran (nu_trains tune n l nu eps shrinking) m cr h an budget nu_w (nu_host_by tune n m l nu eps shrinking budget cr h an)
  unfolding nu_host_by fit_nu_tuned_sized
  nu_ran =
      ran nu_k m cr h an budget (byte_sizes n (eqb (length l) n) m cr h an) (floor_judged tune.floor (nu_judged n m l (as_float nu) (as_float eps) budget)) refl
      (serves n (eqb (length l) n) (length m) (length cr) (length h) (length an))
      (λ most long f. usable_nu n m budget most long l (as_float nu) (as_float eps) (floor_fine tune.floor _ f).0)
      z

  -- the entry accepts, so all that is promised of it holds; and its answer is what is written
  pub nu_called : (x : Answer) × ((fit_nu_tuned tune n m l (as_float nu) (as_float eps) (is_on shrinking) budget room).out ≡ Ok x)
      × ((nu_host_by tune n m l nu eps shrinking budget cr h an).answer ≡ answered_by (Ok x) an)
  unfolding fit_nu_tuned
  nu_called =
      let r = nu_ran in
      let i = inputs_right n (eqb (length l) n) (length m) (length cr) (length h) (length an) r.0 in
      (r.2.out.answer, ap (λ (q : Whole). q.out) (let_in n (eqb (length l) n) _ _ _ _ _ _ nu_w room i r.2.served.room) ∙ r.2.out.accepted, r.2.out.told)

  pub nu_gives : Gives (nu_trains tune n l nu eps shrinking) m budget (nu_host_by tune n m l nu eps shrinking budget cr h an)
  nu_gives =
      gives nu_ran.2 (λ s g. coefficient_doubled nu_k.how _ (r_of nu_k m room budget) _
      (nu_home_box tune n m l (as_float nu) (as_float eps) (is_on shrinking) budget room nu_called.0 nu_called.1 (of_bits-fits binary64 nu) s g).number.fit)

module _ (tune : Tuning) (n : ℕ) (m : List ℕ) (nu eps shrinking budget : ℕ) (cr h an : List ℕ) (z : (one_class_host_by tune n m nu eps shrinking budget cr h an).code ≡ 0) where
  abbrev one_class_k : Fit
  one_class_k = one_class_trains tune n nu eps shrinking

  abbrev one_class_w : Whole
  one_class_w = fit_one_class_tuned_sized tune n m (as_float nu) (as_float eps) (is_on shrinking) budget room

  pub one_class_ran : (byte_sizes n true m cr h an ≡ Ok tt) × (floor_judged tune.floor (one_class_judged n m (as_float nu) (as_float eps) budget) ≡ Ok tt) × Ran (one_class_trains tune n nu eps shrinking) m cr h an budget one_class_w (one_class_host_by tune n m nu eps shrinking budget cr h an)
  unfolding one_class_host_by fit_one_class_tuned_sized
  one_class_ran =
      ran one_class_k m cr h an budget (byte_sizes n true m cr h an) (floor_judged tune.floor (one_class_judged n m (as_float nu) (as_float eps) budget)) refl
      (serves n true (length m) (length cr) (length h) (length an))
      (λ most long f. usable_one_class n m budget most long (as_float nu) (as_float eps) (floor_fine tune.floor _ f).0)
      z

  -- the entry accepts, so all that is promised of it holds; and its answer is what is written
  pub one_class_called : (x : Answer) × ((fit_one_class_tuned tune n m (as_float nu) (as_float eps) (is_on shrinking) budget room).out ≡ Ok x)
      × ((one_class_host_by tune n m nu eps shrinking budget cr h an).answer ≡ answered_by (Ok x) an)
  unfolding fit_one_class_tuned
  one_class_called =
      let r = one_class_ran in
      let i = inputs_right n true (length m) (length cr) (length h) (length an) r.0 in
      (r.2.out.answer, ap (λ (q : Whole). q.out) (let_in n true _ _ _ _ _ _ one_class_w room i r.2.served.room) ∙ r.2.out.accepted, r.2.out.told)

  pub one_class_gives : Gives (one_class_trains tune n nu eps shrinking) m budget (one_class_host_by tune n m nu eps shrinking budget cr h an)
  one_class_gives =
      gives one_class_ran.2 (λ s g. coefficient_doubled one_class_k.how _ (r_of one_class_k m room budget) _
      (one_class_home_box tune n m (as_float nu) (as_float eps) (is_on shrinking) budget room one_class_called.0 one_class_called.1 (of_bits-fits binary64 nu) s g).number.fit)
