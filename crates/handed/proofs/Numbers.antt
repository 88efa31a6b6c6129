-- The result of a C function, whatever is lent: 0 to 11, with shrinking off 0 to 10, and 14 only where the floor isn't good. Assumes nothing.
use Prim.Native.Nat.{ℕ, ◌≤◌}
use mathlib.Core.Bool.{Bool, true, false, ◌&&◌, cond, true≢false}
use mathlib.Core.List.{List}
use mathlib.Core.Logic.{inl, inr}
use mathlib.Core.Path.{◌≡◌, refl, sym, ◌∙◌}
use native.Mathlib.Omega.{arith}
use lib.Dec.{eqb, leb}
use lib.Ieee.{Float}
use lib.ListN.{length}
use Rattle.altuliscia.specs.Functions.{general_host_by, c_host_by, nu_host_by, one_class_host_by}
use Rattle.alpha.specs.Weight as Weight
use Rattle.answer.specs.Lent.{Whole}
use Rattle.hosted.specs.Hosted.{is_on, as_float, byte_sizes, general_inputs, floats_of, host_sizes, room, delivered_with, delivered_by, delivered, hosted_by}
use Rattle.judge.specs.Refusals.{number}
use Rattle.judge.specs.Sizes.{count_good, room_good, sizes}
use Rattle.classification.proofs.Plain.{plain_good}
use Rattle.promises.specs.Numbers.{Numbered}
use Rattle.promises.proofs.Numbers.{general_sized_number, c_sized_number, nu_sized_number, one_class_sized_number}
use Rattle.tuning.specs.declared.Tuning.{Tuning}
use Rattle.handed.specs.Trains.{largest, MayAnswer}
use Rattle.std.specs.Prelude.{Result, Ok, Err}
use Rattle.answer.specs.declared.Answer.{Answer}
use Rattle.judge.specs.declared.Refusal.{Refusal}
use Rattle.judge.specs.declared.Refusal.TheVariants.{Samples, Length}

-- what holds of 0, 1 and 2, and of every number that the training is refused with, holds of the result
module _ (P : ℕ → Type 0) (none : P 0) (one : P 1) (two : P 2) (n : ℕ) (w : Whole) (cr h an : List ℕ) (told : (q : Refusal) → w.out ≡ Err q → P (number q)) where
  delivered_code : P (delivered n w cr h an).code
  unfolding delivered delivered_with
  delivered_code = go w.out refl
    where
      go : (o : Result Answer Refusal) → w.out ≡ o → P (delivered_by n o w.left.crate w.left.home cr h an).code
      go (Ok x) e = none
      go (Err q) e = told q e

  pub hosted_code : (inputs : Bool) (m : List ℕ) → P (hosted_by (byte_sizes n inputs m cr h an) (delivered n w cr h an) cr h an).code
  unfolding hosted_by host_sizes sizes
  hosted_code inputs m = go (count_good n) ((inputs && leb 72 (length an)) && room_good n (length m) _ _ 3584 1024 512)
    where
      go : (a b : Bool) → P (hosted_by (cond a (cond b (Ok tt) (Err Length)) (Err Samples)) (delivered n w cr h an) cr h an).code
      go true true = delivered_code
      go true false = two
      go false b = one

-- ---- the four functions

pub small_number : (x : Float) (shrinking q : ℕ) → q ≤ 2 → MayAnswer x shrinking q
small_number x shrinking q l = go (is_on shrinking) refl
  where
    go : (b : Bool) → is_on shrinking ≡ b → MayAnswer x shrinking q
    go true e = inl (rw e (omega arith))
    go false e = inl (rw e (omega arith))

module _ (tune : Tuning) (shrinking n : ℕ) (w : Whole) (cr h an : List ℕ) (told : (q : Refusal) → w.out ≡ Err q → Numbered tune.floor (is_on shrinking) (number q)) where
  large : (q : ℕ) → Numbered tune.floor (is_on shrinking) q → MayAnswer tune.floor shrinking q
  large q (inl x) = inl x.1
  large q (inr x) = inr x

  numbered : (inputs : Bool) (m : List ℕ) → MayAnswer tune.floor shrinking (hosted_by (byte_sizes n inputs m cr h an) (delivered n w cr h an) cr h an).code
  numbered = hosted_code (MayAnswer tune.floor shrinking) (small_number tune.floor shrinking 0 (omega arith)) (small_number tune.floor shrinking 1 (omega arith)) (small_number tune.floor shrinking 2 (omega arith)) n w cr h an (λ q e. large (number q) (told q e))

-- with the published Rust's floor
pub plain_answers : (shrinking q : ℕ) → MayAnswer Weight.floor shrinking q → q ≤ largest shrinking
plain_answers shrinking q (inl h) = h
plain_answers shrinking q (inr h) = absurd (true≢false (sym plain_good ∙ h.1))

pub general_called_number : (tune : Tuning) (n : ℕ) (m l c a p : List ℕ) (nurule eps shrinking budget : ℕ) (cr h an : List ℕ)
    → MayAnswer tune.floor shrinking (general_host_by tune n m l c a p nurule eps shrinking budget cr h an).code
unfolding general_host_by
general_called_number tune n m l c a p nurule eps shrinking budget cr h an =
    numbered tune shrinking n _ cr h an (general_sized_number tune n m l (floats_of c n) (floats_of a n) (floats_of p n) (is_on nurule) (as_float eps) (is_on shrinking) budget room) (general_inputs n l c a p) m

pub c_called_number : (tune : Tuning) (n : ℕ) (m l : List ℕ) (cpos cneg eps shrinking budget : ℕ) (cr h an : List ℕ)
    → MayAnswer tune.floor shrinking (c_host_by tune n m l cpos cneg eps shrinking budget cr h an).code
unfolding c_host_by
c_called_number tune n m l cpos cneg eps shrinking budget cr h an =
    numbered tune shrinking n _ cr h an (c_sized_number tune n m l (as_float cpos) (as_float cneg) (as_float eps) (is_on shrinking) budget room) (eqb (length l) n) m

pub nu_called_number : (tune : Tuning) (n : ℕ) (m l : List ℕ) (nu eps shrinking budget : ℕ) (cr h an : List ℕ) → MayAnswer tune.floor shrinking (nu_host_by tune n m l nu eps shrinking budget cr h an).code
unfolding nu_host_by
nu_called_number tune n m l nu eps shrinking budget cr h an =
    numbered tune shrinking n _ cr h an (nu_sized_number tune n m l (as_float nu) (as_float eps) (is_on shrinking) budget room) (eqb (length l) n) m

pub one_class_called_number : (tune : Tuning) (n : ℕ) (m : List ℕ) (nu eps shrinking budget : ℕ) (cr h an : List ℕ) → MayAnswer tune.floor shrinking (one_class_host_by tune n m nu eps shrinking budget cr h an).code
unfolding one_class_host_by
one_class_called_number tune n m nu eps shrinking budget cr h an =
    numbered tune shrinking n _ cr h an (one_class_sized_number tune n m (as_float nu) (as_float eps) (is_on shrinking) budget room) true m
