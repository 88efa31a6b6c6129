-- The tuned C functions: where the tuning is known and the answer has 128 bytes, what is handed back is the plain function's by that tuning, with seven
-- words of 0 behind its answer; so each promise of that holds. Assumes nothing.
use Prim.Native.Nat.{ℕ, ◌≤◌}
use mathlib.Core.Bool.{Bool, true, false, ◌&&◌, cond, true≢false}
use mathlib.Core.List.{List}
use mathlib.Core.Logic.{◌⊎◌, inl, inr}
use mathlib.Core.Path.{◌≡◌, refl, sym, ap, ◌∙◌}
use native.Mathlib.Omega.{arith}
use borrow.Author.Tests.{leb-true, le-leb}
use lib.Dec.{eqb, leb}
use lib.ListN.{length}
use Rattle.altuliscia.specs.Functions.{general_host_by, c_host_by, nu_host_by, one_class_host_by, general_host, c_host, nu_host, one_class_host}
use Rattle.judge.specs.Refusals.{number, index_of}
use Rattle.hosted.specs.Hosted.{host_sizes, byte_sizes, general_inputs, tuning_known, tuning_of, Handed, handed, refused_by, padded, turned_away_by, turned_away, hosted_by, widened, turned_wide_by, turned_wide, hosted_wide}
use Rattle.hosted.proofs.Worked.{tuning_none}
use Rattle.judge.specs.Sizes.{count_good, sizes}
use Rattle.promises.specs.Fit.{Fit}
use Rattle.promises.proofs.Beyond.{beyond_refl}
use Rattle.rounding.proofs.Order.{both}
use Rattle.tuning.specs.Tuning.{plain_tuning}
use Rattle.tuning.specs.declared.Tuning.{Tuning}
use Rattle.wide.specs.Wide.{wide_sizes, general_tuned_host, c_tuned_host, nu_tuned_host, one_class_tuned_host}
use Rattle.handed.specs.Gives.{Gives}
use Rattle.handed.specs.HandsBack.{HandsBack, HandsWide}
use Rattle.handed.specs.Trains.{general_trains, c_trains, nu_trains, one_class_trains, MayAnswer}
use Rattle.handed.proofs.Handed.{general_gives, c_gives, nu_gives, one_class_gives}
use Rattle.handed.proofs.Leaves.{refused_leaves, general_called_leaves, c_called_leaves, nu_called_leaves, one_class_called_leaves}
use Rattle.handed.proofs.Numbers.{general_called_number, c_called_number, nu_called_number, one_class_called_number, small_number}
use Rattle.handed.proofs.Retired.{and_true}
use Rattle.handed.proofs.Stored.{padded_word, padded_first, padded_beyond}
use Rattle.std.specs.Prelude.{⊤, Result, Ok, Err}
use Rattle.judge.specs.declared.Refusal.{Refusal}
use Rattle.judge.specs.declared.Refusal.TheVariants.{Samples, Length}

-- ---- an answer of 128 bytes

module _ (n : ℕ) (cr h an : List ℕ) where
  wide_back : {o : Handed} → HandsBack n 72 cr h an o → 128 ≤ length an → HandsWide n cr h an (widened o)
  wide_back {o = o} b long =
      let e = b.answer.long in
      record {
        back = record {
          results = b.results;
          crate = b.crate;
          home = b.home;
          answer = record { long = (padded_beyond o.answer).long ∙ e; at = λ j l. (padded_beyond o.answer).at j l ∙ b.answer.at j (omega arith) };
          short = λ s. absurd (omega arith);
          told = λ l. padded_first o.answer 0 8 (omega arith) ∙ b.told (omega arith);
        };
        later = λ l s g. padded_word o.answer s (omega arith) g;
      }

  away_wide : (q : Refusal) → number q ≤ 14 → HandsWide n cr h an (handed (number q) cr h (turned_wide q an))
  unfolding turned_wide_by
  away_wide q few = go (leb 128 (length an)) refl
    where
      go : (b : Bool) → leb 128 (length an) ≡ b → HandsWide n cr h an (handed (number q) cr h (cond b (padded (refused_by (number q) (index_of q) an)) an))
      go true e = let l = leb-true 128 (length an) e in wide_back (refused_leaves n cr h an (number q) (index_of q) few (omega arith)) l
      go false e = record {
        back = record {
          results = λ z. (refl, refl);
          crate = beyond_refl _ _ _;
          home = beyond_refl _ _ _;
          answer = beyond_refl _ _ _;
          short = λ s. refl;
          told = λ l. absurd (true≢false (sym (le-leb 128 (length an) l) ∙ e));
        };
        later = λ l. absurd (true≢false (sym (le-leb 128 (length an) l) ∙ e));
      }

turned_some : (q : Refusal) → (number q ≡ 1) ⊎ (number q ≡ 2) → (1 ≤ number q) × (number q ≤ 14)
turned_some q (inl e) = (omega arith, omega arith)
turned_some q (inr e) = (omega arith, omega arith)

-- ---- a tuned function beside the plain one, w being what the training hands out

module _ (n : ℕ) (inputs : Bool) (m t cr h an : List ℕ) (w : Handed) where
  abbrev tuned_back : Handed
  tuned_back = hosted_wide (wide_sizes n inputs m t cr h an) w cr h an

  abbrev plain_back : Handed
  plain_back = hosted_by (byte_sizes n inputs m cr h an) w cr h an

  wide_is : tuning_known t ≡ true → 128 ≤ length an → tuned_back ≡ widened plain_back
  wide_is known long =
      let e : (inputs && tuning_known t && leb 128 (length an)) ≡ inputs = rw (known, le-leb 128 (length an) long) (and_true (inputs && true) ∙ and_true inputs) in
      rw e (go (byte_sizes n inputs m cr h an))
    where
      turned : (q : Refusal) → handed (number q) cr h (turned_wide q an) ≡ widened (handed (number q) cr h (turned_away q an))
      turned q = unfold turned_wide_by turned_away_by in rw (le-leb 128 (length an) long, le-leb 72 (length an) (omega arith))

      go : (j : Result ⊤ Refusal) → hosted_wide j w cr h an ≡ widened (hosted_by j w cr h an)
      go (Ok x) = unfold hosted_wide hosted_by in refl
      go (Err q) = unfold hosted_wide hosted_by in turned q

  -- else it is turned away
  wide_away : (tuning_known t && leb 128 (length an)) ≡ false → (q : Refusal) × ((number q ≡ 1) ⊎ (number q ≡ 2)) × (tuned_back ≡ handed (number q) cr h (turned_wide q an))
  wide_away away = unfold host_sizes sizes in rw (third inputs (tuning_known t) (leb 128 (length an)) away) (go (count_good n))
    where
      third : (a b c : Bool) → (b && c) ≡ false → (a && b && c) ≡ false
      third true b c e = e
      third false b c e = refl

      go : (b : Bool) → (q : Refusal) × ((number q ≡ 1) ⊎ (number q ≡ 2)) × (hosted_wide (cond b (Err Length) (Err Samples)) w cr h an ≡ handed (number q) cr h (turned_wide q an))
      go true = (Length, inr refl, unfold hosted_wide in refl)
      go false = (Samples, inl refl, unfold hosted_wide in refl)

  wide_called : tuned_back.code ≡ 0 → (tuning_known t ≡ true) × (128 ≤ length an) × (plain_back.code ≡ 0)
  wide_called z = go (tuning_known t && leb 128 (length an)) refl
    where
      go : (b : Bool) → (tuning_known t && leb 128 (length an)) ≡ b → (tuning_known t ≡ true) × (128 ≤ length an) × (plain_back.code ≡ 0)
      go true e =
          let p = both (tuning_known t) (leb 128 (length an)) e in
          let l = leb-true 128 (length an) p.1 in
          (p.0, l, sym (ap (λ (o : Handed). o.code) (wide_is p.0 l)) ∙ z)
      go false e = let v = wide_away e in let q = sym (ap (λ (o : Handed). o.code) v.2) ∙ z in absurd (omega (arith, q, (turned_some v.0 v.1).0))

  -- what holds of 1, of 2 and of the plain result holds of the result
  wide_code : (P : ℕ → Type 0) → P 1 → P 2 → P plain_back.code → P tuned_back.code
  wide_code P one two plain = go (tuning_known t && leb 128 (length an)) refl
    where
      small : (q : Refusal) → (number q ≡ 1) ⊎ (number q ≡ 2) → P (number q)
      small q (inl e) = rw e one
      small q (inr e) = rw e two

      go : (b : Bool) → (tuning_known t && leb 128 (length an)) ≡ b → P tuned_back.code
      go true e = let p = both (tuning_known t) (leb 128 (length an)) e in rw (wide_is p.0 (leb-true 128 (length an) p.1)) plain
      go false e = let v = wide_away e in rw v.2 (small v.0 v.1)

  wide_leaves : HandsBack n 72 cr h an plain_back → HandsWide n cr h an tuned_back
  wide_leaves b = go (tuning_known t && leb 128 (length an)) refl
    where
      go : (c : Bool) → (tuning_known t && leb 128 (length an)) ≡ c → HandsWide n cr h an tuned_back
      go true e = let p = both (tuning_known t) (leb 128 (length an)) e in let l = leb-true 128 (length an) p.1 in rw (wide_is p.0 l) (wide_back n cr h an b l)
      go false e = let v = wide_away e in rw v.2 (away_wide n cr h an v.0 (turned_some v.0 v.1).1)

widened_gives : {k : Fit} {m : List ℕ} {budget : ℕ} {o : Handed} → Gives k m budget o → Gives k m budget (widened o)
widened_gives g = record { home = g.home; alike = g.alike }

untuned : (t : List ℕ) → length t ≡ 0 → (tuning_known t ≡ true) × (tuning_of t ≡ plain_tuning)
untuned t none = (rw none, tuning_none t none)

-- ---- the four functions

module _ (n : ℕ) (m l c a p : List ℕ) (nurule eps shrinking : ℕ) (budget : ℕ) (t cr h an : List ℕ) where
  pub general_tuned_is : tuning_known t ≡ true → 128 ≤ length an → general_tuned_host n m l c a p nurule eps shrinking budget t cr h an ≡ widened (general_host_by (tuning_of t) n m l c a p nurule eps shrinking budget cr h an)
  unfolding general_tuned_host general_host_by
  general_tuned_is = wide_is n (general_inputs n l c a p) m t cr h an _

  -- a tuning of no bytes is the plain one
  pub general_untuned : length t ≡ 0 → 128 ≤ length an → general_tuned_host n m l c a p nurule eps shrinking budget t cr h an ≡ widened (general_host n m l c a p nurule eps shrinking budget cr h an)
  general_untuned none long = general_tuned_is (untuned t none).0 long ∙ ap (λ (q : Tuning). widened (general_host_by q n m l c a p nurule eps shrinking budget cr h an)) (untuned t none).1

  pub general_tuned_away : (tuning_known t && leb 128 (length an)) ≡ false → (q : Refusal) × ((number q ≡ 1) ⊎ (number q ≡ 2)) × (general_tuned_host n m l c a p nurule eps shrinking budget t cr h an ≡ handed (number q) cr h (turned_wide q an))
  unfolding general_tuned_host
  general_tuned_away = wide_away n (general_inputs n l c a p) m t cr h an _

  -- so each promise that is named `general_called_..`, but the trail, holds by the tuning
  pub general_tuned_called : (general_tuned_host n m l c a p nurule eps shrinking budget t cr h an).code ≡ 0 → (tuning_known t ≡ true) × (128 ≤ length an) × ((general_host_by (tuning_of t) n m l c a p nurule eps shrinking budget cr h an).code ≡ 0)
  unfolding general_tuned_host general_host_by
  general_tuned_called = wide_called n (general_inputs n l c a p) m t cr h an _

  pub general_tuned_gives : (general_tuned_host n m l c a p nurule eps shrinking budget t cr h an).code ≡ 0 → Gives (general_trains (tuning_of t) n l c a p nurule eps shrinking) m budget (general_tuned_host n m l c a p nurule eps shrinking budget t cr h an)
  general_tuned_gives z =
      let v = general_tuned_called z in
      rw (general_tuned_is v.0 v.1) (widened_gives (general_gives (tuning_of t) n m l c a p nurule eps shrinking budget cr h an v.2))

  pub general_tuned_number : MayAnswer (tuning_of t).floor shrinking (general_tuned_host n m l c a p nurule eps shrinking budget t cr h an).code
  unfolding general_tuned_host general_host_by
  general_tuned_number =
      wide_code n (general_inputs n l c a p) m t cr h an _ (MayAnswer (tuning_of t).floor shrinking) (small_number (tuning_of t).floor shrinking 1 (omega arith)) (small_number (tuning_of t).floor shrinking 2 (omega arith))
      (general_called_number (tuning_of t) n m l c a p nurule eps shrinking budget cr h an)

  pub general_tuned_leaves : HandsWide n cr h an (general_tuned_host n m l c a p nurule eps shrinking budget t cr h an)
  unfolding general_tuned_host general_host_by
  general_tuned_leaves = wide_leaves n (general_inputs n l c a p) m t cr h an _ (general_called_leaves (tuning_of t) n m l c a p nurule eps shrinking budget cr h an)

module _ (n : ℕ) (m l : List ℕ) (cpos cneg eps shrinking : ℕ) (budget : ℕ) (t cr h an : List ℕ) where
  pub c_tuned_is : tuning_known t ≡ true → 128 ≤ length an → c_tuned_host n m l cpos cneg eps shrinking budget t cr h an ≡ widened (c_host_by (tuning_of t) n m l cpos cneg eps shrinking budget cr h an)
  unfolding c_tuned_host c_host_by
  c_tuned_is = wide_is n (eqb (length l) n) m t cr h an _

  -- a tuning of no bytes is the plain one
  pub c_untuned : length t ≡ 0 → 128 ≤ length an → c_tuned_host n m l cpos cneg eps shrinking budget t cr h an ≡ widened (c_host n m l cpos cneg eps shrinking budget cr h an)
  c_untuned none long = c_tuned_is (untuned t none).0 long ∙ ap (λ (q : Tuning). widened (c_host_by q n m l cpos cneg eps shrinking budget cr h an)) (untuned t none).1

  pub c_tuned_away : (tuning_known t && leb 128 (length an)) ≡ false → (q : Refusal) × ((number q ≡ 1) ⊎ (number q ≡ 2)) × (c_tuned_host n m l cpos cneg eps shrinking budget t cr h an ≡ handed (number q) cr h (turned_wide q an))
  unfolding c_tuned_host
  c_tuned_away = wide_away n (eqb (length l) n) m t cr h an _

  -- so each promise that is named `c_called_..`, but the trail, holds by the tuning
  pub c_tuned_called : (c_tuned_host n m l cpos cneg eps shrinking budget t cr h an).code ≡ 0 → (tuning_known t ≡ true) × (128 ≤ length an) × ((c_host_by (tuning_of t) n m l cpos cneg eps shrinking budget cr h an).code ≡ 0)
  unfolding c_tuned_host c_host_by
  c_tuned_called = wide_called n (eqb (length l) n) m t cr h an _

  pub c_tuned_gives : (c_tuned_host n m l cpos cneg eps shrinking budget t cr h an).code ≡ 0 → Gives (c_trains (tuning_of t) n l cpos cneg eps shrinking) m budget (c_tuned_host n m l cpos cneg eps shrinking budget t cr h an)
  c_tuned_gives z =
      let v = c_tuned_called z in
      rw (c_tuned_is v.0 v.1) (widened_gives (c_gives (tuning_of t) n m l cpos cneg eps shrinking budget cr h an v.2))

  pub c_tuned_number : MayAnswer (tuning_of t).floor shrinking (c_tuned_host n m l cpos cneg eps shrinking budget t cr h an).code
  unfolding c_tuned_host c_host_by
  c_tuned_number =
      wide_code n (eqb (length l) n) m t cr h an _ (MayAnswer (tuning_of t).floor shrinking) (small_number (tuning_of t).floor shrinking 1 (omega arith)) (small_number (tuning_of t).floor shrinking 2 (omega arith))
      (c_called_number (tuning_of t) n m l cpos cneg eps shrinking budget cr h an)

  pub c_tuned_leaves : HandsWide n cr h an (c_tuned_host n m l cpos cneg eps shrinking budget t cr h an)
  unfolding c_tuned_host c_host_by
  c_tuned_leaves = wide_leaves n (eqb (length l) n) m t cr h an _ (c_called_leaves (tuning_of t) n m l cpos cneg eps shrinking budget cr h an)

module _ (n : ℕ) (m l : List ℕ) (nu eps shrinking : ℕ) (budget : ℕ) (t cr h an : List ℕ) where
  pub nu_tuned_is : tuning_known t ≡ true → 128 ≤ length an → nu_tuned_host n m l nu eps shrinking budget t cr h an ≡ widened (nu_host_by (tuning_of t) n m l nu eps shrinking budget cr h an)
  unfolding nu_tuned_host nu_host_by
  nu_tuned_is = wide_is n (eqb (length l) n) m t cr h an _

  -- a tuning of no bytes is the plain one
  pub nu_untuned : length t ≡ 0 → 128 ≤ length an → nu_tuned_host n m l nu eps shrinking budget t cr h an ≡ widened (nu_host n m l nu eps shrinking budget cr h an)
  nu_untuned none long = nu_tuned_is (untuned t none).0 long ∙ ap (λ (q : Tuning). widened (nu_host_by q n m l nu eps shrinking budget cr h an)) (untuned t none).1

  pub nu_tuned_away : (tuning_known t && leb 128 (length an)) ≡ false → (q : Refusal) × ((number q ≡ 1) ⊎ (number q ≡ 2)) × (nu_tuned_host n m l nu eps shrinking budget t cr h an ≡ handed (number q) cr h (turned_wide q an))
  unfolding nu_tuned_host
  nu_tuned_away = wide_away n (eqb (length l) n) m t cr h an _

  -- so each promise that is named `nu_called_..`, but the trail, holds by the tuning
  pub nu_tuned_called : (nu_tuned_host n m l nu eps shrinking budget t cr h an).code ≡ 0 → (tuning_known t ≡ true) × (128 ≤ length an) × ((nu_host_by (tuning_of t) n m l nu eps shrinking budget cr h an).code ≡ 0)
  unfolding nu_tuned_host nu_host_by
  nu_tuned_called = wide_called n (eqb (length l) n) m t cr h an _

  pub nu_tuned_gives : (nu_tuned_host n m l nu eps shrinking budget t cr h an).code ≡ 0 → Gives (nu_trains (tuning_of t) n l nu eps shrinking) m budget (nu_tuned_host n m l nu eps shrinking budget t cr h an)
  nu_tuned_gives z =
      let v = nu_tuned_called z in
      rw (nu_tuned_is v.0 v.1) (widened_gives (nu_gives (tuning_of t) n m l nu eps shrinking budget cr h an v.2))

  pub nu_tuned_number : MayAnswer (tuning_of t).floor shrinking (nu_tuned_host n m l nu eps shrinking budget t cr h an).code
  unfolding nu_tuned_host nu_host_by
  nu_tuned_number =
      wide_code n (eqb (length l) n) m t cr h an _ (MayAnswer (tuning_of t).floor shrinking) (small_number (tuning_of t).floor shrinking 1 (omega arith)) (small_number (tuning_of t).floor shrinking 2 (omega arith))
      (nu_called_number (tuning_of t) n m l nu eps shrinking budget cr h an)

  pub nu_tuned_leaves : HandsWide n cr h an (nu_tuned_host n m l nu eps shrinking budget t cr h an)
  unfolding nu_tuned_host nu_host_by
  nu_tuned_leaves = wide_leaves n (eqb (length l) n) m t cr h an _ (nu_called_leaves (tuning_of t) n m l nu eps shrinking budget cr h an)

module _ (n : ℕ) (m : List ℕ) (nu eps shrinking : ℕ) (budget : ℕ) (t cr h an : List ℕ) where
  pub one_class_tuned_is : tuning_known t ≡ true → 128 ≤ length an → one_class_tuned_host n m nu eps shrinking budget t cr h an ≡ widened (one_class_host_by (tuning_of t) n m nu eps shrinking budget cr h an)
  unfolding one_class_tuned_host one_class_host_by
  one_class_tuned_is = wide_is n true m t cr h an _

  -- a tuning of no bytes is the plain one
  pub one_class_untuned : length t ≡ 0 → 128 ≤ length an → one_class_tuned_host n m nu eps shrinking budget t cr h an ≡ widened (one_class_host n m nu eps shrinking budget cr h an)
  one_class_untuned none long = one_class_tuned_is (untuned t none).0 long ∙ ap (λ (q : Tuning). widened (one_class_host_by q n m nu eps shrinking budget cr h an)) (untuned t none).1

  pub one_class_tuned_away : (tuning_known t && leb 128 (length an)) ≡ false → (q : Refusal) × ((number q ≡ 1) ⊎ (number q ≡ 2)) × (one_class_tuned_host n m nu eps shrinking budget t cr h an ≡ handed (number q) cr h (turned_wide q an))
  unfolding one_class_tuned_host
  one_class_tuned_away = wide_away n true m t cr h an _

  -- so each promise that is named `one_class_called_..`, but the trail, holds by the tuning
  pub one_class_tuned_called : (one_class_tuned_host n m nu eps shrinking budget t cr h an).code ≡ 0 → (tuning_known t ≡ true) × (128 ≤ length an) × ((one_class_host_by (tuning_of t) n m nu eps shrinking budget cr h an).code ≡ 0)
  unfolding one_class_tuned_host one_class_host_by
  one_class_tuned_called = wide_called n true m t cr h an _

  pub one_class_tuned_gives : (one_class_tuned_host n m nu eps shrinking budget t cr h an).code ≡ 0 → Gives (one_class_trains (tuning_of t) n nu eps shrinking) m budget (one_class_tuned_host n m nu eps shrinking budget t cr h an)
  one_class_tuned_gives z =
      let v = one_class_tuned_called z in
      rw (one_class_tuned_is v.0 v.1) (widened_gives (one_class_gives (tuning_of t) n m nu eps shrinking budget cr h an v.2))

  pub one_class_tuned_number : MayAnswer (tuning_of t).floor shrinking (one_class_tuned_host n m nu eps shrinking budget t cr h an).code
  unfolding one_class_tuned_host one_class_host_by
  one_class_tuned_number =
      wide_code n true m t cr h an _ (MayAnswer (tuning_of t).floor shrinking) (small_number (tuning_of t).floor shrinking 1 (omega arith)) (small_number (tuning_of t).floor shrinking 2 (omega arith))
      (one_class_called_number (tuning_of t) n m nu eps shrinking budget cr h an)

  pub one_class_tuned_leaves : HandsWide n cr h an (one_class_tuned_host n m nu eps shrinking budget t cr h an)
  unfolding one_class_tuned_host one_class_host_by
  one_class_tuned_leaves = wide_leaves n true m t cr h an _ (one_class_called_leaves (tuning_of t) n m nu eps shrinking budget cr h an)
