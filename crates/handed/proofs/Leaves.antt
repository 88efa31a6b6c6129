-- What a C function leaves in the lists that it is lent, whatever it is given and whatever it answers. Assumes nothing.
use Prim.Native.Nat.{ℕ, ◌≤◌}
use mathlib.Core.Bool.{Bool, true, false, ◌&&◌, cond, true≢false}
use mathlib.Core.List.{List}
use mathlib.Core.Logic.{inl, inr}
use mathlib.Core.Path.{◌≡◌, refl, sym, ◌∙◌}
use native.Mathlib.Nat.{mod-eq_of_lt}
use native.Mathlib.Omega.{arith}
use borrow.Author.Tests.{leb-true, le-leb}
use lib.Dec.{eqb, leb}
use lib.Ieee.{Float}
use lib.ListN.{length, get_or}
use Rattle.altuliscia.specs.Functions.{general_host_by, retired_host, c_host_by, nu_host_by, one_class_host_by}
use Rattle.answer.specs.Answer.{words_of}
use Rattle.answer.specs.Lent.{Whole}
use Rattle.judge.specs.Refusals.{number, index_of}
use Rattle.hosted.specs.Hosted.{is_on, byte_sizes, general_inputs, floor_known, tuning_of, handed, words_to, refused_words, refused_by, delivered_with, delivered_by, delivered, turned_away_by, turned_away, hosted_by}
use Rattle.hosted.proofs.Serves.{serves}
use Rattle.promises.proofs.Beyond.{beyond_refl}
use Rattle.wire.specs.Wire.{digits}
use Rattle.tuning.specs.declared.Tuning.{Tuning}
use Rattle.handed.specs.HandsBack.{HandsBack}
use Rattle.handed.specs.Trains.{MayAnswer, RetiredMayAnswer}
use Rattle.handed.proofs.Numbers.{general_called_number, c_called_number, nu_called_number, one_class_called_number}
use Rattle.handed.proofs.Retired.{retired_called_number}
use Rattle.handed.proofs.Stored.{stored_beyond, word_at, words_beyond}
use Rattle.std.specs.Prelude.{⊤, Result, Ok, Err}
use Rattle.answer.specs.declared.Answer.{Answer}
use Rattle.judge.specs.declared.Refusal.{Refusal}

-- the answer's first word
first_word : (w an : List ℕ) (q : ℕ) → get_or w 0 0 ≡ q → q ≤ 14 → 72 ≤ length an → digits (words_to w an 9) 0 8 ≡ q
first_word w an q e few long = word_at w an 9 0 long (omega arith) ∙ rw e (mod-eq_of_lt (omega arith))

module _ (n : ℕ) (cr h an : List ℕ) where
  -- handed back with a refusal's number: an answer that was written, and lists that were not
  pub refused_leaves : (q i : ℕ) → q ≤ 14 → 72 ≤ length an → HandsBack n 72 cr h an (handed q cr h (refused_by q i an))
  refused_leaves q i few long = record {
    results = λ z. (refl, refl);
    crate = beyond_refl _ _ _;
    home = beyond_refl _ _ _;
    answer = words_beyond (refused_words q i) an 9;
    short = λ s. absurd (omega arith);
    told = first_word (refused_words q i) an q refl few;
  }

  delivered_leaves : (w : Whole) → (delivered n w cr h an).code ≤ 14 → 72 ≤ length an → HandsBack n 72 cr h an (delivered n w cr h an)
  unfolding delivered delivered_with words_of
  delivered_leaves w = go w.out
    where
      go : (o : Result Answer Refusal) → (delivered_by n o w.left.crate w.left.home cr h an).code ≤ 14 → 72 ≤ length an
          → HandsBack n 72 cr h an (delivered_by n o w.left.crate w.left.home cr h an)
      go (Err r) few long = refused_leaves (number r) (index_of r) few long
      go (Ok x) few long = record {
        results = λ z. absurd (z refl);
        crate = stored_beyond w.left.crate cr n;
        home = stored_beyond w.left.home h n;
        answer = words_beyond (words_of (Ok x)) an 9;
        short = λ s. absurd (omega arith);
        told = first_word (words_of (Ok x)) an 0 refl (omega arith);
      }

  away_leaves : (q : Refusal) → number q ≤ 14 → HandsBack n 72 cr h an (handed (number q) cr h (turned_away q an))
  unfolding turned_away_by
  away_leaves q few = go (leb 72 (length an)) refl
    where
      go : (b : Bool) → leb 72 (length an) ≡ b → HandsBack n 72 cr h an (handed (number q) cr h (cond b (refused_by (number q) (index_of q) an) an))
      go true e = refused_leaves (number q) (index_of q) few (leb-true 72 (length an) e)
      go false e = record {
        results = λ z. (refl, refl);
        crate = beyond_refl _ _ _;
        home = beyond_refl _ _ _;
        answer = beyond_refl _ _ _;
        short = λ s. refl;
        told = λ l. absurd (true≢false (sym (le-leb 72 (length an) l) ∙ e));
      }

  -- by its sizes, or by its training
  hosted_leaves : (j : Result ⊤ Refusal) (w : Whole) → (j ≡ Ok tt → 72 ≤ length an) → (hosted_by j (delivered n w cr h an) cr h an).code ≤ 14
      → HandsBack n 72 cr h an (hosted_by j (delivered n w cr h an) cr h an)
  unfolding hosted_by
  hosted_leaves (Ok x) w long few = delivered_leaves w few (long refl)
  hosted_leaves (Err r) w long few = away_leaves r few

-- ---- the five functions

few : (x : Float) (shrinking : ℕ) {q : ℕ} → MayAnswer x shrinking q → q ≤ 14
few x shrinking {q} (inl l) = go (is_on shrinking) refl
  where
    go : (b : Bool) → is_on shrinking ≡ b → q ≤ 14
    go true e = let h : q ≤ 11 = rw e at l in omega arith
    go false e = let h : q ≤ 10 = rw e at l in omega arith
few x shrinking (inr h) = let e = h.0 in omega arith

few_retired : (x : Float) {q : ℕ} → RetiredMayAnswer x q → q ≤ 14
few_retired x (inl h) = omega (arith, h.0)
few_retired x (inr h) = let e = h.0 in omega arith

-- right sizes have an answer of 72 bytes
answer_long : (n : ℕ) (inputs : Bool) (m cr h an : List ℕ) → byte_sizes n inputs m cr h an ≡ Ok tt → 72 ≤ length an
answer_long n inputs m cr h an e = (serves n inputs (length m) (length cr) (length h) (length an) e).answer

pub general_called_leaves : (tune : Tuning) (n : ℕ) (m l c a p : List ℕ) (nurule eps shrinking budget : ℕ) (cr h an : List ℕ)
    → HandsBack n 72 cr h an (general_host_by tune n m l c a p nurule eps shrinking budget cr h an)
unfolding general_host_by
general_called_leaves tune n m l c a p nurule eps shrinking budget cr h an =
    hosted_leaves n cr h an _ _ (answer_long n (general_inputs n l c a p) m cr h an) (few tune.floor shrinking (general_called_number tune n m l c a p nurule eps shrinking budget cr h an))

pub c_called_leaves : (tune : Tuning) (n : ℕ) (m l : List ℕ) (cpos cneg eps shrinking budget : ℕ) (cr h an : List ℕ) → HandsBack n 72 cr h an (c_host_by tune n m l cpos cneg eps shrinking budget cr h an)
unfolding c_host_by
c_called_leaves tune n m l cpos cneg eps shrinking budget cr h an =
    hosted_leaves n cr h an _ _ (answer_long n (eqb (length l) n) m cr h an) (few tune.floor shrinking (c_called_number tune n m l cpos cneg eps shrinking budget cr h an))

pub nu_called_leaves : (tune : Tuning) (n : ℕ) (m l : List ℕ) (nu eps shrinking budget : ℕ) (cr h an : List ℕ) → HandsBack n 72 cr h an (nu_host_by tune n m l nu eps shrinking budget cr h an)
unfolding nu_host_by
nu_called_leaves tune n m l nu eps shrinking budget cr h an =
    hosted_leaves n cr h an _ _ (answer_long n (eqb (length l) n) m cr h an) (few tune.floor shrinking (nu_called_number tune n m l nu eps shrinking budget cr h an))

pub one_class_called_leaves : (tune : Tuning) (n : ℕ) (m : List ℕ) (nu eps shrinking budget : ℕ) (cr h an : List ℕ) → HandsBack n 72 cr h an (one_class_host_by tune n m nu eps shrinking budget cr h an)
unfolding one_class_host_by
one_class_called_leaves tune n m nu eps shrinking budget cr h an =
    hosted_leaves n cr h an _ _ (answer_long n true m cr h an) (few tune.floor shrinking (one_class_called_number tune n m nu eps shrinking budget cr h an))

pub retired_called_leaves : (n : ℕ) (m l c a p r : List ℕ) (nurule eps shrinking budget : ℕ) (t cr h an : List ℕ)
    → HandsBack n 72 cr h an (retired_host n m l c a p r nurule eps shrinking budget t cr h an)
unfolding retired_host
retired_called_leaves n m l c a p r nurule eps shrinking budget t cr h an =
    hosted_leaves n cr h an _ _ (answer_long n (general_inputs n l c a p && eqb (length r) n && floor_known t) m cr h an)
    (few_retired (tuning_of t).floor (retired_called_number n m l c a p r nurule eps shrinking budget t cr h an))
