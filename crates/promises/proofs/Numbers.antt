-- The number that the rule gives an entry's outcome: from 1 to 11 where it refuses, with shrinking off to 10, with retired samples 12 and 13 but never 11,
-- and 14 where the floor isn't good; 0 only where it accepts. Assumes nothing.
use Prim.Native.Nat.{ℕ, zero, suc, ◌*◌, ◌≤◌}
use mathlib.Core.Bool.{Bool, true, false, not, ◌&&◌, ◌||◌, cond, true≢false}
use mathlib.Core.List.{List}
use mathlib.Core.Logic.{◌⊎◌, inl, inr}
use mathlib.Core.Path.{◌≡◌, refl, sym, ap, ◌∙◌}
use native.Mathlib.Omega.{arith}
use borrow.Author.Tests.{leb-true, le-leb, eqb-true, eq-eqb, ne_eqb}
use lib.Dec.{eqb, leb}
use lib.Ieee.{Float}
use lib.ListN.{length, get_or}
use Rattle.alpha.specs.Weight as Weight
use Rattle.alpha.specs.Weight.{one, minus_one}
use Rattle.answer.specs.Answer.{words_of}
use Rattle.answer.specs.Lent.{Lent, Whole}
use Rattle.answer.specs.Solved.{solved, settled_by, stuck}
use Rattle.answer.specs.declared.Answer.{Answer}
use Rattle.answer.specs.declared.Finish.{Finish}
use Rattle.answer.specs.declared.Finish.TheVariants.{Plain, Signed, Scaled}
use Rattle.classification.specs.Entries.{given_by, fitted, decided, sizes_of, general_tuned_sized, general_tuned, fit_c_tuned_sized, fit_c_tuned, fit_nu_tuned_sized, fit_nu_tuned, fit_one_class_tuned_sized, fit_one_class_tuned}
use Rattle.fits.specs.Starts.{nothing, evenly, all_positive, costs_to, half, shared_to, one_class_to}
use Rattle.judge.specs.Judge.{first, need, and_then, entry_good, label_good, ceiling_good, cost_good, alpha_good, linear_good, eps_good, nu_good, budget_good, floor_good, bytes_good, floor_judged, samples_judged, general_judged, retired_judged, c_judged, nu_judged, one_class_judged}
use Rattle.judge.specs.Refusals.{number}
use Rattle.judge.specs.Sizes.{count_good, room_good, sizes}
use Rattle.kernel.specs.declared.Kind.TheVariants.{TwoClass, OneClass}
use Rattle.retired.specs.Entry.{stands_in, kept, answered_over, fitted_over, retired_tuned_sized, retired_tuned}
use Rattle.rounding.proofs.Order.{both}
use Rattle.solver.specs.Run.{Full}
use Rattle.solver.specs.declared.Given.{Given}
use Rattle.classification.proofs.Plain.{plain_good}
use Rattle.classification.proofs.Still.{trained_still}
use Rattle.tuning.specs.declared.Tuning.{Tuning}
use Rattle.promises.specs.Numbers.{Numbered, RetiredNumbered}
use Rattle.promises.specs.Still.{c_number, nu_number, one_class_number}
use Rattle.std.specs.Prelude.{⊤, Result, Ok, Err}
use Rattle.judge.specs.declared.Refusal.{Refusal}
use Rattle.judge.specs.declared.Refusal.TheVariants.{Samples, Length, Kernel, Label, Ceiling, Alpha, Linear, Eps, Nu, Budget, Retired, RetiredShrinking, Floor}

abbrev most : Bool → ℕ
most shrinking = cond shrinking 11 10

abbrev some : ℕ → Bool
some k = leb 1 k

abbrev listed : Bool → ℕ → Bool
listed shrinking k = some k && leb k (most shrinking)

unfoldable numbered : (ℕ → Bool) → Result Answer Refusal → Bool
numbered ok (Ok a) = true
numbered ok (Err refusal) = ok (number refusal)

unfoldable judged_so : (ℕ → Bool) → Result ⊤ Refusal → Bool
judged_so ok (Ok x) = true
judged_so ok (Err refusal) = ok (number refusal)

at_most_ten : (q : Bool) (k : ℕ) → listed false k ≡ true → listed q k ≡ true
at_most_ten true k h = let p = both (some k) (leb k (most false)) h in let t = leb-true k (most false) p.1 in rw (p.0, le-leb k (most true) (omega arith))
at_most_ten false k h = h

-- those of f, and 14 where the floor x isn't good
unfoldable or_floor : Float → (ℕ → Bool) → ℕ → Bool
or_floor x f k = f k || (eqb k 14 && not (floor_good x))

with_floor : (x : Float) (f : ℕ → Bool) → ((k : ℕ) → listed false k ≡ true → f k ≡ true) → (k : ℕ) → listed false k ≡ true → or_floor x f k ≡ true
unfolding or_floor
with_floor x f ten k h = rw (ten k h)

fourteen : (x : Float) (f : ℕ → Bool) → floor_good x ≡ false → or_floor x f 14 ≡ true
unfolding or_floor
fourteen x f h = rw h (or_true (f 14))
  where
    or_true : (b : Bool) → (b || true) ≡ true
    or_true true = refl
    or_true false = refl

-- which of the two it is
floor_or : (x : Float) (f : ℕ → Bool) (k : ℕ) → or_floor x f k ≡ true → (f k ≡ true) ⊎ ((k ≡ 14) × (floor_good x ≡ false))
unfolding or_floor
floor_or x f k = go (f k) (eqb k 14) refl (floor_good x)
  where
    go : (a b : Bool) → eqb k 14 ≡ b → (c : Bool) → (a || (b && not c)) ≡ true → (a ≡ true) ⊎ ((k ≡ 14) × (c ≡ false))
    go true b e c h = inl refl
    go false true e false h = inr (eqb-true k 14 e, refl)
    go false true e true h = absurd (true≢false (sym h))
    go false false e c h = absurd (true≢false (sym h))

-- ---- what is judged; ok are the numbers that may be given

module _ (ok : ℕ → Bool) where
  one_test : (r : Refusal) → ok (number r) ≡ true → (b : Bool) (x : Result ⊤ Refusal) → judged_so ok x ≡ true → judged_so ok (cond b x (Err r)) ≡ true
  unfolding judged_so
  one_test r h true x g = g
  one_test r h false x g = h

  first_so : (refusal : ℕ → Refusal) → ((i : ℕ) → ok (number (refusal i)) ≡ true) → (good : ℕ → Bool) (m i : ℕ) → judged_so ok (first refusal good m i) ≡ true
  unfolding first judged_so
  first_so refusal h good zero i = refl
  first_so refusal h good (suc m) i = one_test (refusal i) (h i) (good i) (first refusal good m (suc i)) (first_so refusal h good m (suc i))

  need_so : (r : Refusal) → ok (number r) ≡ true → (b : Bool) → judged_so ok (need r b) ≡ true
  need_so r h b = one_test r h b (Ok tt) (unfold judged_so in refl)

  and_then_so : (a b : Result ⊤ Refusal) → judged_so ok a ≡ true → judged_so ok b ≡ true → judged_so ok (and_then a b) ≡ true
  unfolding and_then judged_so
  and_then_so (Ok x) b g h = h
  and_then_so (Err r) b g h = g

  samples_so : ok 3 ≡ true → ok 4 ≡ true → (n : ℕ) (m l : List ℕ) → judged_so ok (samples_judged n m l) ≡ true
  samples_so three four n m l = and_then_so _ _ (first_so Kernel (λ i. three) (entry_good m) (n * n) 0) (first_so Label (λ i. four) (label_good l) n 0)

  c_so : ok 3 ≡ true → ok 4 ≡ true → ok 5 ≡ true → ok 8 ≡ true → ok 10 ≡ true → (n : ℕ) (m l : List ℕ) (cpos cneg eps : Float) (budget : ℕ)
      → judged_so ok (c_judged n m l cpos cneg eps budget) ≡ true
  unfolding c_judged
  c_so three four five eight ten n m l cpos cneg eps budget =
      let j5 = and_then_so _ _ (samples_so three four n m l) (first_so Ceiling (λ i. five) (cost_good cpos cneg) 2 0) in
      and_then_so _ _ (and_then_so _ _ j5 (need_so Eps eight (eps_good eps))) (need_so Budget ten (budget_good budget))

  nu_so : ok 3 ≡ true → ok 4 ≡ true → ok 8 ≡ true → ok 9 ≡ true → ok 10 ≡ true → (n : ℕ) (m l : List ℕ) (nu eps : Float) (budget : ℕ)
      → judged_so ok (nu_judged n m l nu eps budget) ≡ true
  unfolding nu_judged
  nu_so three four eight nine ten n m l nu eps budget =
      let j8 = and_then_so _ _ (samples_so three four n m l) (need_so Eps eight (eps_good eps)) in
      and_then_so _ _ (and_then_so _ _ j8 (need_so Nu nine (nu_good nu))) (need_so Budget ten (budget_good budget))

  one_class_so : ok 3 ≡ true → ok 8 ≡ true → ok 9 ≡ true → ok 10 ≡ true → (n : ℕ) (m : List ℕ) (nu eps : Float) (budget : ℕ)
      → judged_so ok (one_class_judged n m nu eps budget) ≡ true
  unfolding one_class_judged
  one_class_so three eight nine ten n m nu eps budget =
      let j8 = and_then_so _ _ (first_so Kernel (λ i. three) (entry_good m) (n * n) 0) (need_so Eps eight (eps_good eps)) in
      and_then_so _ _ (and_then_so _ _ j8 (need_so Nu nine (nu_good nu))) (need_so Budget ten (budget_good budget))

  judged_so_law : (j : Result ⊤ Refusal) → judged_so ok j ≡ true → (r : Refusal) → j ≡ Err r → ok (number r) ≡ true
  unfolding judged_so
  judged_so_law j h r e = rw e at h

-- what C, nu and one-class judge has these numbers and no other
pub c_judged_number : (n : ℕ) (m l : List ℕ) (cpos cneg eps : Float) (budget : ℕ) (refusal : Refusal) → c_judged n m l cpos cneg eps budget ≡ Err refusal → c_number (number refusal) ≡ true
c_judged_number n m l cpos cneg eps budget = judged_so_law c_number _ (c_so c_number refl refl refl refl refl n m l cpos cneg eps budget)

pub nu_judged_number : (n : ℕ) (m l : List ℕ) (nu eps : Float) (budget : ℕ) (refusal : Refusal) → nu_judged n m l nu eps budget ≡ Err refusal → nu_number (number refusal) ≡ true
nu_judged_number n m l nu eps budget = judged_so_law nu_number _ (nu_so nu_number refl refl refl refl refl n m l nu eps budget)

pub one_class_judged_number : (n : ℕ) (m : List ℕ) (nu eps : Float) (budget : ℕ) (refusal : Refusal) → one_class_judged n m nu eps budget ≡ Err refusal → one_class_number (number refusal) ≡ true
one_class_judged_number n m nu eps budget = judged_so_law one_class_number _ (one_class_so one_class_number refl refl refl refl n m nu eps budget)

-- 1 to 10 among them
module _ (ok : ℕ → Bool) (ten : (k : ℕ) → listed false k ≡ true → ok k ≡ true) where
  general_so : (n : ℕ) (m l : List ℕ) (c a p : List Float) (eps : Float) (budget : ℕ) → judged_so ok (general_judged n m l c a p eps budget) ≡ true
  unfolding general_judged
  general_so n m l c a p eps budget =
      let j5 = and_then_so ok _ _ (samples_so ok (ten 3 refl) (ten 4 refl) n m l) (first_so ok Ceiling (λ i. ten 5 refl) (ceiling_good c) n 0) in
      let j7 = and_then_so ok _ _ (and_then_so ok _ _ j5 (first_so ok Alpha (λ i. ten 6 refl) (alpha_good a c) n 0)) (first_so ok Linear (λ i. ten 7 refl) (linear_good p) n 0) in
      and_then_so ok _ _ (and_then_so ok _ _ j7 (need_so ok Eps (ten 8 refl) (eps_good eps))) (need_so ok Budget (ten 10 refl) (budget_good budget))

  floor_so : (x : Float) → (floor_good x ≡ false → ok 14 ≡ true) → (j : Result ⊤ Refusal) → judged_so ok j ≡ true → judged_so ok (floor_judged x j) ≡ true
  floor_so x h j g = and_then_so ok j (need Floor (floor_good x)) g (go (floor_good x) refl)
    where
      go : (b : Bool) → floor_good x ≡ b → judged_so ok (need Floor b) ≡ true
      go true e = unfold judged_so in refl
      go false e = unfold judged_so in h e

  -- ---- from what is judged to the outcome

  -- refusals from 3 on
  decided_so : (j : Result ⊤ Refusal) (w : Whole) (d : Lent) → judged_so ok j ≡ true → numbered ok w.out ≡ true → numbered ok (decided j w d).out ≡ true
  unfolding decided judged_so numbered
  decided_so (Ok x) w d g h = h
  decided_so (Err r) w d g h = g

  -- refusals 1 and 2
  entered_so : (n : ℕ) (inputs : Bool) (m : List ℕ) (w : Whole) (d : Lent) → numbered ok w.out ≡ true → numbered ok (decided (sizes_of n inputs m d) w d).out ≡ true
  unfolding decided sizes numbered
  entered_so n inputs m w d h =
      go (count_good n) (inputs && room_good n (length m) (length d.crate) (length d.home) (length d.floats) (length d.numbers) (length d.bytes))
    where
      go : (a b : Bool) → numbered ok (decided (cond a (cond b (Ok tt) (Err Length)) (Err Samples)) w d).out ≡ true
      go true true = h
      go true false = ten 2 refl
      go false b = ten 1 refl

settled_so : (x : Float) (q b : Bool) (g : Given) (how : Finish) (l : List ℕ) (budget : ℕ) (w : Full) (c h : List Float) → (q ≡ false → b ≡ false)
    → numbered (or_floor x (listed q)) (settled_by b g how l budget w c h).out ≡ true
unfolding settled_by numbered or_floor
settled_so x true true g how l budget w c h s = refl
settled_so x false true g how l budget w c h s = absurd (true≢false (s refl))
settled_so x q false g how l budget w c h s = refl

fitted_so : (x : Float) (g : Given) (how : Finish) (m l : List ℕ) (c a p : List Float) (budget : ℕ) (d : Lent) → numbered (or_floor x (listed g.shrinking)) (fitted g how m l c a p budget d).out ≡ true
unfolding fitted solved
fitted_so x g how m l c a p budget d =
    settled_so x g.shrinking (stuck _) g how l budget _ d.crate d.home (λ off. (trained_still g m c off _ budget _ refl).free)

-- ---- what that says

refused_so : (ok : ℕ → Bool) (o : Result Answer Refusal) → numbered ok o ≡ true → (refusal : Refusal) → o ≡ Err refusal → ok (number refusal) ≡ true
unfolding numbered
refused_so ok o h r e = rw e at h

number_of : (x : Float) (q : Bool) (o : Result Answer Refusal) → numbered (or_floor x (listed q)) o ≡ true → (refusal : Refusal) → o ≡ Err refusal → Numbered x q (number refusal)
number_of x q o h r e =
    let k = number r in
    elim (floor_or x (listed q) k (refused_so (or_floor x (listed q)) o h r e)) [
      | inl g ↦ let p = both (some k) (leb k (most q)) g in inl (leb-true 1 k p.0, leb-true k (most q) p.1)
      | inr g ↦ inr g
    ]

pub some_number : (x : Float) (q : Bool) (k : ℕ) → Numbered x q k → 1 ≤ k
some_number x q k (inl h) = h.0
some_number x q k (inr h) = let e = h.0 in omega arith

pub some_retired : (x : Float) (k : ℕ) → RetiredNumbered x k → 1 ≤ k
some_retired x k (inl h) = h.0
some_retired x k (inr h) = let e = h.0 in omega arith

-- the published Rust's floor is good
pub plain_number : (q : Bool) (k : ℕ) → Numbered Weight.floor q k → (1 ≤ k) × (k ≤ cond q 11 10)
plain_number q k (inl h) = h
plain_number q k (inr h) = absurd (true≢false (sym plain_good ∙ h.1))

pub plain_retired : (k : ℕ) → RetiredNumbered Weight.floor k → (1 ≤ k) × (k ≤ 13) × (k ≡ 11 → ⊥)
plain_retired k (inl h) = h
plain_retired k (inr h) = absurd (true≢false (sym plain_good ∙ h.1))

accepted_by : (ok : ℕ → Bool) (o : Result Answer Refusal) → (ok 0 ≡ true → ⊥) → numbered ok o ≡ true → get_or (words_of o) 0 0 ≡ 0 → (x : Answer) × (o ≡ Ok x)
unfolding words_of numbered
accepted_by ok (Ok x) none h z = (x, refl)
accepted_by ok (Err r) none h z = let e : number r ≡ 0 = z in absurd (none (rw e at h))

none_listed : (x : Float) (q : Bool) → or_floor x (listed q) 0 ≡ true → ⊥
unfolding or_floor
none_listed x q h = true≢false (sym h)

-- ---- the entries

abbrev allowed : Float → Bool → ℕ → Bool
allowed x shrinking = or_floor x (listed shrinking)

ten_allowed : (x : Float) (shrinking : Bool) (k : ℕ) → listed false k ≡ true → allowed x shrinking k ≡ true
ten_allowed x shrinking = with_floor x (listed shrinking) (at_most_ten shrinking)

module _ (tune : Tuning) (n : ℕ) (m l : List ℕ) (c a p : List Float) (nurule : Bool) (eps : Float) (shrinking : Bool) (budget : ℕ) (d : Lent) where
  general_sized_so : numbered (allowed tune.floor shrinking) (general_tuned_sized tune n m l c a p nurule eps shrinking budget d).out ≡ true
  unfolding general_tuned_sized
  general_sized_so = decided_so (allowed tune.floor shrinking) (ten_allowed tune.floor shrinking) _ (fitted (given_by tune n TwoClass eps shrinking nurule) Plain m l c a p budget d) d (floor_so (allowed tune.floor shrinking) (ten_allowed tune.floor shrinking) tune.floor (fourteen tune.floor (listed shrinking)) _ (general_so (allowed tune.floor shrinking) (ten_allowed tune.floor shrinking) n m l c a p eps budget)) (fitted_so tune.floor (given_by tune n TwoClass eps shrinking nurule) Plain m l c a p budget d)

  general_entry_so : numbered (allowed tune.floor shrinking) (general_tuned tune n m l c a p nurule eps shrinking budget d).out ≡ true
  unfolding general_tuned
  general_entry_so = entered_so (allowed tune.floor shrinking) (ten_allowed tune.floor shrinking) n (eqb (length l) n && eqb (length c) n && eqb (length a) n && eqb (length p) n) m (general_tuned_sized tune n m l c a p nurule eps shrinking budget d) d general_sized_so

  -- without the sizes
  pub general_sized_number : (refusal : Refusal) → (general_tuned_sized tune n m l c a p nurule eps shrinking budget d).out ≡ Err refusal → Numbered tune.floor shrinking (number refusal)
  general_sized_number = number_of tune.floor shrinking _ general_sized_so

  pub general_number : (refusal : Refusal) → (general_tuned tune n m l c a p nurule eps shrinking budget d).out ≡ Err refusal → Numbered tune.floor shrinking (number refusal)
  general_number = number_of tune.floor shrinking _ general_entry_so

  pub general_accepts : get_or (words_of (general_tuned tune n m l c a p nurule eps shrinking budget d).out) 0 0 ≡ 0 → (x : Answer) × ((general_tuned tune n m l c a p nurule eps shrinking budget d).out ≡ Ok x)
  general_accepts = accepted_by (allowed tune.floor shrinking) _ (none_listed tune.floor shrinking) general_entry_so

-- with retired samples: 1 to 10, 12 and 13
abbrev is_retired_number : ℕ → Bool
is_retired_number k = some k && leb k 13 && not (eqb k 11)

ten_of_them : (k : ℕ) → listed false k ≡ true → is_retired_number k ≡ true
ten_of_them k h =
    let p = both (some k) (leb k (most false)) h in
    let t = leb-true k (most false) p.1 in
    rw (p.0, le-leb k 13 (omega arith), ne_eqb k 11 (λ (e : k ≡ 11). omega arith))

abbrev retired_allowed : Float → ℕ → Bool
retired_allowed x = or_floor x is_retired_number

ten_retired : (x : Float) (k : ℕ) → listed false k ≡ true → retired_allowed x k ≡ true
ten_retired x = with_floor x is_retired_number ten_of_them

module _ (tune : Tuning) (n : ℕ) (m l : List ℕ) (c a p : List Float) (r : List ℕ) (nurule : Bool) (eps : Float) (shrinking : Bool) (budget : ℕ) (d : Lent) where
  retired_so : judged_so (retired_allowed tune.floor) (retired_judged tune.floor n m l c a p r eps shrinking budget) ≡ true
  unfolding retired_judged or_floor
  retired_so =
      let j14 = floor_so (retired_allowed tune.floor) (ten_retired tune.floor) tune.floor (fourteen tune.floor is_retired_number) _ (general_so (retired_allowed tune.floor) (ten_retired tune.floor) n m l c a p eps budget) in
      and_then_so (retired_allowed tune.floor) _ _ (and_then_so (retired_allowed tune.floor) _ _ j14 (need_so (retired_allowed tune.floor) Retired refl (bytes_good r n))) (need_so (retired_allowed tune.floor) RetiredShrinking refl (not shrinking))

  retired_fit_so : numbered (retired_allowed tune.floor) (fitted_over (stands_in r) (given_by tune n TwoClass eps false nurule) m l c (kept r a n) (kept r p n) budget d).out ≡ true
  unfolding fitted_over answered_over numbered
  retired_fit_so = refl

  retired_sized_so : numbered (retired_allowed tune.floor) (retired_tuned_sized tune n m l c a p r nurule eps shrinking budget d).out ≡ true
  unfolding retired_tuned_sized
  retired_sized_so = decided_so (retired_allowed tune.floor) (ten_retired tune.floor) _ (fitted_over (stands_in r) (given_by tune n TwoClass eps false nurule) m l c (kept r a n) (kept r p n) budget d) d retired_so retired_fit_so

  retired_entry_so : numbered (retired_allowed tune.floor) (retired_tuned tune n m l c a p r nurule eps shrinking budget d).out ≡ true
  unfolding retired_tuned
  retired_entry_so = entered_so (retired_allowed tune.floor) (ten_retired tune.floor) n (eqb (length l) n && eqb (length c) n && eqb (length a) n && eqb (length p) n && eqb (length r) n) m (retired_tuned_sized tune n m l c a p r nurule eps shrinking budget d) d retired_sized_so

  number_told : (o : Result Answer Refusal) → numbered (retired_allowed tune.floor) o ≡ true → (refusal : Refusal) → o ≡ Err refusal → RetiredNumbered tune.floor (number refusal)
  number_told o h refusal e =
      let k = number refusal in
      elim (floor_or tune.floor is_retired_number k (refused_so (retired_allowed tune.floor) o h refusal e)) [
        | inl g ↦
            let p = both (some k && leb k 13) (not (eqb k 11)) g in
            let q = both (some k) (leb k 13) p.0 in
            inl (leb-true 1 k q.0, leb-true k 13 q.1, λ z. true≢false (sym p.1 ∙ ap not (eq-eqb k 11 z)))
        | inr g ↦ inr g
      ]

  -- without the sizes
  pub retired_sized_number : (refusal : Refusal) → (retired_tuned_sized tune n m l c a p r nurule eps shrinking budget d).out ≡ Err refusal → RetiredNumbered tune.floor (number refusal)
  retired_sized_number = number_told _ retired_sized_so

  pub retired_number : (refusal : Refusal) → (retired_tuned tune n m l c a p r nurule eps shrinking budget d).out ≡ Err refusal → RetiredNumbered tune.floor (number refusal)
  retired_number = number_told _ retired_entry_so

  pub retired_accepts : get_or (words_of (retired_tuned tune n m l c a p r nurule eps shrinking budget d).out) 0 0 ≡ 0 → (x : Answer) × ((retired_tuned tune n m l c a p r nurule eps shrinking budget d).out ≡ Ok x)
  retired_accepts = accepted_by (retired_allowed tune.floor) _ (λ z. unfold or_floor in true≢false (sym z)) retired_entry_so

module _ (tune : Tuning) (n : ℕ) (m l : List ℕ) (cpos cneg eps : Float) (shrinking : Bool) (budget : ℕ) (d : Lent) where
  c_sized_so : numbered (allowed tune.floor shrinking) (fit_c_tuned_sized tune n m l cpos cneg eps shrinking budget d).out ≡ true
  unfolding fit_c_tuned_sized
  c_sized_so = decided_so (allowed tune.floor shrinking) (ten_allowed tune.floor shrinking) _ (fitted (given_by tune n TwoClass eps shrinking false) Signed m l (costs_to cpos cneg l nothing n) nothing (evenly minus_one n) budget d) d (floor_so (allowed tune.floor shrinking) (ten_allowed tune.floor shrinking) tune.floor (fourteen tune.floor (listed shrinking)) _ (c_so (allowed tune.floor shrinking) (ten_allowed tune.floor shrinking 3 refl) (ten_allowed tune.floor shrinking 4 refl) (ten_allowed tune.floor shrinking 5 refl) (ten_allowed tune.floor shrinking 8 refl) (ten_allowed tune.floor shrinking 10 refl) n m l cpos cneg eps budget)) (fitted_so tune.floor (given_by tune n TwoClass eps shrinking false) Signed m l (costs_to cpos cneg l nothing n) nothing (evenly minus_one n) budget d)

  c_entry_so : numbered (allowed tune.floor shrinking) (fit_c_tuned tune n m l cpos cneg eps shrinking budget d).out ≡ true
  unfolding fit_c_tuned
  c_entry_so = entered_so (allowed tune.floor shrinking) (ten_allowed tune.floor shrinking) n (eqb (length l) n) m (fit_c_tuned_sized tune n m l cpos cneg eps shrinking budget d) d c_sized_so

  -- without the sizes
  pub c_sized_number : (refusal : Refusal) → (fit_c_tuned_sized tune n m l cpos cneg eps shrinking budget d).out ≡ Err refusal → Numbered tune.floor shrinking (number refusal)
  c_sized_number = number_of tune.floor shrinking _ c_sized_so

  pub c_number_law : (refusal : Refusal) → (fit_c_tuned tune n m l cpos cneg eps shrinking budget d).out ≡ Err refusal → Numbered tune.floor shrinking (number refusal)
  c_number_law = number_of tune.floor shrinking _ c_entry_so

  pub c_accepts : get_or (words_of (fit_c_tuned tune n m l cpos cneg eps shrinking budget d).out) 0 0 ≡ 0 → (x : Answer) × ((fit_c_tuned tune n m l cpos cneg eps shrinking budget d).out ≡ Ok x)
  c_accepts = accepted_by (allowed tune.floor shrinking) _ (none_listed tune.floor shrinking) c_entry_so

module _ (tune : Tuning) (n : ℕ) (m l : List ℕ) (nu eps : Float) (shrinking : Bool) (budget : ℕ) (d : Lent) where
  nu_sized_so : numbered (allowed tune.floor shrinking) (fit_nu_tuned_sized tune n m l nu eps shrinking budget d).out ≡ true
  unfolding fit_nu_tuned_sized
  nu_sized_so = decided_so (allowed tune.floor shrinking) (ten_allowed tune.floor shrinking) _ (fitted (given_by tune n TwoClass eps shrinking true) Scaled m l (evenly one n) (shared_to (half nu n) l nothing n) nothing budget d) d (floor_so (allowed tune.floor shrinking) (ten_allowed tune.floor shrinking) tune.floor (fourteen tune.floor (listed shrinking)) _ (nu_so (allowed tune.floor shrinking) (ten_allowed tune.floor shrinking 3 refl) (ten_allowed tune.floor shrinking 4 refl) (ten_allowed tune.floor shrinking 8 refl) (ten_allowed tune.floor shrinking 9 refl) (ten_allowed tune.floor shrinking 10 refl) n m l nu eps budget)) (fitted_so tune.floor (given_by tune n TwoClass eps shrinking true) Scaled m l (evenly one n) (shared_to (half nu n) l nothing n) nothing budget d)

  nu_entry_so : numbered (allowed tune.floor shrinking) (fit_nu_tuned tune n m l nu eps shrinking budget d).out ≡ true
  unfolding fit_nu_tuned
  nu_entry_so = entered_so (allowed tune.floor shrinking) (ten_allowed tune.floor shrinking) n (eqb (length l) n) m (fit_nu_tuned_sized tune n m l nu eps shrinking budget d) d nu_sized_so

  -- without the sizes
  pub nu_sized_number : (refusal : Refusal) → (fit_nu_tuned_sized tune n m l nu eps shrinking budget d).out ≡ Err refusal → Numbered tune.floor shrinking (number refusal)
  nu_sized_number = number_of tune.floor shrinking _ nu_sized_so

  pub nu_number_law : (refusal : Refusal) → (fit_nu_tuned tune n m l nu eps shrinking budget d).out ≡ Err refusal → Numbered tune.floor shrinking (number refusal)
  nu_number_law = number_of tune.floor shrinking _ nu_entry_so

  pub nu_accepts : get_or (words_of (fit_nu_tuned tune n m l nu eps shrinking budget d).out) 0 0 ≡ 0 → (x : Answer) × ((fit_nu_tuned tune n m l nu eps shrinking budget d).out ≡ Ok x)
  nu_accepts = accepted_by (allowed tune.floor shrinking) _ (none_listed tune.floor shrinking) nu_entry_so

module _ (tune : Tuning) (n : ℕ) (m : List ℕ) (nu eps : Float) (shrinking : Bool) (budget : ℕ) (d : Lent) where
  one_class_sized_so : numbered (allowed tune.floor shrinking) (fit_one_class_tuned_sized tune n m nu eps shrinking budget d).out ≡ true
  unfolding fit_one_class_tuned_sized
  one_class_sized_so = decided_so (allowed tune.floor shrinking) (ten_allowed tune.floor shrinking) _ (fitted (given_by tune n OneClass eps shrinking false) Plain m (all_positive n) (evenly one n) (one_class_to nu n nothing n) nothing budget d) d (floor_so (allowed tune.floor shrinking) (ten_allowed tune.floor shrinking) tune.floor (fourteen tune.floor (listed shrinking)) _ (one_class_so (allowed tune.floor shrinking) (ten_allowed tune.floor shrinking 3 refl) (ten_allowed tune.floor shrinking 8 refl) (ten_allowed tune.floor shrinking 9 refl) (ten_allowed tune.floor shrinking 10 refl) n m nu eps budget)) (fitted_so tune.floor (given_by tune n OneClass eps shrinking false) Plain m (all_positive n) (evenly one n) (one_class_to nu n nothing n) nothing budget d)

  one_class_entry_so : numbered (allowed tune.floor shrinking) (fit_one_class_tuned tune n m nu eps shrinking budget d).out ≡ true
  unfolding fit_one_class_tuned
  one_class_entry_so = entered_so (allowed tune.floor shrinking) (ten_allowed tune.floor shrinking) n true m (fit_one_class_tuned_sized tune n m nu eps shrinking budget d) d one_class_sized_so

  -- without the sizes
  pub one_class_sized_number : (refusal : Refusal) → (fit_one_class_tuned_sized tune n m nu eps shrinking budget d).out ≡ Err refusal → Numbered tune.floor shrinking (number refusal)
  one_class_sized_number = number_of tune.floor shrinking _ one_class_sized_so

  pub one_class_number_law : (refusal : Refusal) → (fit_one_class_tuned tune n m nu eps shrinking budget d).out ≡ Err refusal → Numbered tune.floor shrinking (number refusal)
  one_class_number_law = number_of tune.floor shrinking _ one_class_entry_so

  pub one_class_accepts : get_or (words_of (fit_one_class_tuned tune n m nu eps shrinking budget d).out) 0 0 ≡ 0 → (x : Answer) × ((fit_one_class_tuned tune n m nu eps shrinking budget d).out ≡ Ok x)
  one_class_accepts = accepted_by (allowed tune.floor shrinking) _ (none_listed tune.floor shrinking) one_class_entry_so
