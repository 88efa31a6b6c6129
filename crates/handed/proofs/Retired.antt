-- Where `altuliscia_retired` answers 0, its training was accepted and every promise of it holds of the call, down to the bytes; what is lent for who is
-- retired changes no byte; and with nobody retired it is `altuliscia_general` with shrinking off, refusals too. Assumes nothing.
use Prim.Native.Nat.{ℕ, ◌*◌, ◌%◌, ◌^◌, ◌≤◌, ◌<◌}
use mathlib.Core.Bool.{Bool, true, false, ◌&&◌}
use mathlib.Core.List.{List}
use mathlib.Core.Logic.{inl, inr}
use mathlib.Core.Path.{◌≡◌, refl, sym, ap, ◌∙◌}
use native.Mathlib.Nat.{mod-eq_of_lt}
use native.Mathlib.Omega.{arith}
use borrow.Author.Tests.{eq-eqb}
use lib.Dec.{T, eqb}
use lib.Ieee.{Float, nan, binary64, to_bits, of_bits, fits}
use lib.Ieee.Bits.{to_bits-lt}
use lib.ListN.{length, get_or}
use Rattle.std.specs.Prelude.{Some}
use Rattle.alpha.specs.Weight as Weight
use Rattle.altuliscia.specs.Functions.{general_host, general_host_by, retired_host}
use Rattle.answer.specs.Lent.{Whole}
use Rattle.answer.specs.declared.Answer.{Answer}
use Rattle.judge.specs.Refusals.{number}
use Rattle.boxed.specs.Range.{In}
use Rattle.hosted.specs.Hosted.{is_on, as_float, byte_sizes, general_inputs, floor_known, tuning_of, floats_of, room, Handed, delivered, hosted_by, answered_by}
use Rattle.hosted.proofs.Serves.{Serves, inputs_right, serves}
use Rattle.hosted.proofs.Worked.{tuning_none}
use Rattle.promises.specs.Fit.{Fit, weight_after}
use Rattle.promises.specs.Numbers.{RetiredNumbered}
use Rattle.promises.specs.Retired.{retired_fit, silent_fit, after_over, weight_over, pair_over, delta_over, own_over}
use Rattle.finder.proofs.Doubles.{Double}
use Rattle.promises.proofs.Doubles.{taken_own_double}
use Rattle.promises.proofs.Numbers.{retired_sized_number}
use Rattle.promises.proofs.Retired.{taken_alike, taken_home, taken_reads, taken_travels, taken_pairs, taken_coded}
use Rattle.promises.proofs.RetiredBox.{taken_box, taken_no_nan, taken_home_box}
use Rattle.retired.specs.Differ.{Input, DifferRetired}
use Rattle.retired.specs.Entry.{stands_in, kept, retired_tuned_sized}
use Rattle.retired.proofs.Independent.{Taken, sized_taken, taken_independent}
use Rattle.retired.proofs.Nobody.{sized_nobody}
use Rattle.rounding.specs.Units.{NotNan}
use Rattle.rounding.proofs.Order.{both}
use Rattle.travel.specs.Travel.{Travelled}
use Rattle.tuning.specs.declared.Tuning.{Tuning}
use Rattle.wire.specs.Wire.{digits}
use Rattle.handed.specs.Gives.{decoded, GivesOver}
use Rattle.handed.specs.Trains.{RetiredMayAnswer}
use Rattle.handed.proofs.Handed.{turned_not, Out, delivered_out, room_fits, decoded_double}
use Rattle.handed.proofs.Numbers.{hosted_code}
use Rattle.handed.proofs.Stored.{stored_at}
use Rattle.std.specs.Prelude.{Ok, ⊤, Result, Err}
use Rattle.judge.specs.declared.Refusal.{Refusal}

module _ (n : ℕ) (m l c a p r : List ℕ) (nurule eps shrinking budget : ℕ) (t cr h an : List ℕ) (z : (retired_host n m l c a p r nurule eps shrinking budget t cr h an).code ≡ 0) where
  abbrev x : Input
  x = decoded n m l c a p

  abbrev k : Fit
  k = retired_fit (tuning_of t) n x r (is_on nurule) (as_float eps)

  abbrev w : Whole
  w = retired_tuned_sized (tuning_of t) n m l (floats_of c n) (floats_of a n) (floats_of p n) r (is_on nurule) (as_float eps) (is_on shrinking) budget room

  abbrev o : Handed
  o = retired_host n m l c a p r nurule eps shrinking budget t cr h an

  abbrev inputs : Bool
  inputs = general_inputs n l c a p && eqb (length r) n && floor_known t

  in_time : (byte_sizes n inputs m cr h an ≡ Ok tt) × (o ≡ delivered n w cr h an)
  unfolding retired_host
  in_time = turned_not (byte_sizes n inputs m cr h an) (delivered n w cr h an) cr h an z

  served : Serves n (length m) (length cr) (length h) (length an)
  served = serves n inputs (length m) (length cr) (length h) (length an) in_time.0

  pub answer_long : 72 ≤ length an
  answer_long = served.answer

  pub out : Out n w cr h an o
  out =
      rw in_time.1 (delivered_out n w cr h an (sym (ap (λ (q : Handed). q.code) in_time.1) ∙ z))

  -- the tuning's length is known
  pub retired_called_tuned : floor_known t ≡ true
  retired_called_tuned = (both (general_inputs n l c a p && eqb (length r) n) (floor_known t) (inputs_right n inputs (length m) (length cr) (length h) (length an) in_time.0)).1

  -- the training was accepted, and its answer is what is written
  pub retired_called : (z : Answer) × (w.out ≡ Ok z) × (o.answer ≡ answered_by (Ok z) an)
  retired_called = (out.answer, out.accepted, out.told)

  -- so all that is promised of one holds
  pub called_taken : Taken (tuning_of t) n r (is_on nurule) (as_float eps) (is_on shrinking) budget room x w
  called_taken = sized_taken (tuning_of t) n r (is_on nurule) (as_float eps) (is_on shrinking) budget room x (room_fits n (length m) served.room) out.answer out.accepted

  home_at : (s : ℕ) → s < n → digits o.home (8 * s) 8 ≡ to_bits binary64 (get_or w.left.home s nan) % 256 ^ 8
  home_at s g = ap (λ (b : List ℕ). digits b (8 * s) 8) out.home ∙ stored_at w.left.home h n s served.home g

  own_double : (s : ℕ) → s < n → Double (own_over (stands_in r) k m room budget s)
  own_double = taken_own_double called_taken (λ i g. decoded_double c n i served.room.most g) (λ i g. decoded_double a n i served.room.most g)

  no_bits : to_bits binary64 Weight.zero % 256 ^ 8 ≡ 0
  unfolding to_bits of_bits
  no_bits = refl

  pub retired_gives : GivesOver r k m budget o
  retired_gives = record {
    home = λ s g. home_at s g ∙ ap (λ (y : Float). to_bits binary64 y % 256 ^ 8) (taken_home called_taken s g) ∙ mod-eq_of_lt (to_bits-lt binary64 _ (own_double s g));
    reads = λ s g q. home_at s g ∙ ap (λ (y : Float). to_bits binary64 y % 256 ^ 8) (taken_reads called_taken s g q) ∙ no_bits;
    alike = λ s g.
        ap (λ (b : List ℕ). digits b (8 * s) 8) out.crate
        ∙ stored_at w.left.crate cr n s served.crate g
        ∙ ap (λ (y : Float). to_bits binary64 y % 256 ^ 8) (taken_alike called_taken s g)
        ∙ sym (home_at s g);
  }

  -- both samples of a pair stand, and the code's run has the same weights after each pass
  pub retired_called_pairs : (q i j : ℕ) → pair_over (stands_in r) k m room q ≡ Some (i, j) → ((i < n) × (stands_in r i ≡ true)) × ((j < n) × (stands_in r j ≡ true))
  retired_called_pairs = taken_pairs called_taken

  pub retired_called_coded : (q i : ℕ) → i < n → weight_after (silent_fit (tuning_of t) n x r (is_on nurule) (as_float eps)) m room q i ≡ weight_over (stands_in r) k m room q i
  retired_called_coded = taken_coded called_taken

  pub retired_called_travels : (q : ℕ) → Travelled n (λ s. get_or l s 0) (λ s. get_or (kept r (floats_of p n) n) s nan) (after_over (stands_in r) k m room q).state
  retired_called_travels = taken_travels called_taken

  -- the box, where every ceiling that is lent for one that stands is b
  module _ (b : Float) (fit : T (fits binary64 b)) (same : (i : ℕ) → i < n → stands_in r i ≡ true → get_or (floats_of c n) i nan ≡ b) where
    fit_a : (i : ℕ) → i < n → stands_in r i ≡ true → T (fits binary64 (get_or (floats_of a n) i nan))
    fit_a i g q = decoded_double a n i served.room.most g

    pub retired_called_box : (q i : ℕ) → i < n → stands_in r i ≡ true → In b (weight_over (stands_in r) k m room q i)
    retired_called_box = taken_box called_taken b fit same fit_a

    pub retired_called_no_nan : (q i j : ℕ) → pair_over (stands_in r) k m room q ≡ Some (i, j) → NotNan (delta_over (stands_in r) k m room q i j)
    retired_called_no_nan = taken_no_nan called_taken b fit same fit_a

    pub retired_called_home_box : (s : ℕ) → s < n → stands_in r s ≡ true → In b (own_over (stands_in r) k m room budget s)
    retired_called_home_box = taken_home_box called_taken b fit same fit_a

-- ---- what it answers, accepted or not: 0 to 10, 12, 13, or 14 where the floor isn't good

pub retired_called_number : (n : ℕ) (m l c a p r : List ℕ) (nurule eps shrinking budget : ℕ) (t cr h an : List ℕ)
    → RetiredMayAnswer (tuning_of t).floor (retired_host n m l c a p r nurule eps shrinking budget t cr h an).code
unfolding retired_host
retired_called_number n m l c a p r nurule eps shrinking budget t cr h an =
    hosted_code (RetiredMayAnswer (tuning_of t).floor) (inl (omega arith, λ z. omega arith)) (inl (omega arith, λ z. omega arith)) (inl (omega arith, λ z. omega arith)) n _ cr h an
    (λ q e. large (number q) (retired_sized_number (tuning_of t) n m l (floats_of c n) (floats_of a n) (floats_of p n) r (is_on nurule) (as_float eps) (is_on shrinking) budget room q e))
    (general_inputs n l c a p && eqb (length r) n && floor_known t) m
  where
    large : (q : ℕ) → RetiredNumbered (tuning_of t).floor q → RetiredMayAnswer (tuning_of t).floor q
    large q (inl x) = inl (x.1, x.2)
    large q (inr x) = inr x

-- ---- two calls that differ in what is lent for who is retired: where both answer 0, they write the same bytes

pub retired_called_independent : (n : ℕ) (m l c a p m' l' c' a' p' r : List ℕ) (nurule eps shrinking budget : ℕ) (t cr h an : List ℕ)
    → DifferRetired n r (decoded n m l c a p) (decoded n m' l' c' a' p')
    → (retired_host n m l c a p r nurule eps shrinking budget t cr h an).code ≡ 0
    → (retired_host n m' l' c' a' p' r nurule eps shrinking budget t cr h an).code ≡ 0
    → retired_host n m l c a p r nurule eps shrinking budget t cr h an ≡ retired_host n m' l' c' a' p' r nurule eps shrinking budget t cr h an
retired_called_independent n m l c a p m' l' c' a' p' r nurule eps shrinking budget t cr h an D z z' =
    (in_time n m l c a p r nurule eps shrinking budget t cr h an z).1
    ∙ ap (λ (q : Whole). delivered n q cr h an)
    (taken_independent D (called_taken n m l c a p r nurule eps shrinking budget t cr h an z) (called_taken n m' l' c' a' p' r nurule eps shrinking budget t cr h an z'))
    ∙ sym (in_time n m' l' c' a' p' r nurule eps shrinking budget t cr h an z').1

-- ---- nobody retired, shrinking off

pub and_true : (b : Bool) → (b && true) ≡ b
and_true true = refl
and_true false = refl

pub hosted_same : (j : Result ⊤ Refusal) (w v : Handed) (cr h an : List ℕ) → (j ≡ Ok tt → w ≡ v) → hosted_by j w cr h an ≡ hosted_by j v cr h an
unfolding hosted_by
hosted_same (Ok p) w v cr h an same = same refl
hosted_same (Err refusal) w v cr h an same = refl

pub retired_called_nobody : (n : ℕ) (m l c a p r : List ℕ) (nurule eps budget : ℕ) (t cr h an : List ℕ) → length r ≡ n → ((i : ℕ) → i < n → get_or r i 0 ≡ 0) → floor_known t ≡ true
    → retired_host n m l c a p r nurule eps 0 budget t cr h an ≡ general_host_by (tuning_of t) n m l c a p nurule eps 0 budget cr h an
unfolding retired_host general_host_by
retired_called_nobody n m l c a p r nurule eps budget t cr h an long all known =
    let given = general_inputs n l c a p in
    let same : (given && eqb (length r) n && floor_known t) ≡ given = rw (eq-eqb (length r) n long, known) (and_true (given && true) ∙ and_true given) in
    rw same (hosted_same (byte_sizes n given m cr h an) _ _ cr h an
    (λ e. ap (λ (q : Whole). delivered n q cr h an)
    (sized_nobody (tuning_of t) n r long all m l (floats_of c n) (floats_of a n) (floats_of p n) (is_on nurule) (as_float eps) budget room
    (room_fits n (length m) (serves n given (length m) (length cr) (length h) (length an) e).room))))

-- an empty tuning is none
pub retired_called_untuned : (n : ℕ) (m l c a p r : List ℕ) (nurule eps budget : ℕ) (t cr h an : List ℕ) → length r ≡ n → ((i : ℕ) → i < n → get_or r i 0 ≡ 0) → length t ≡ 0
    → retired_host n m l c a p r nurule eps 0 budget t cr h an ≡ general_host n m l c a p nurule eps 0 budget cr h an
retired_called_untuned n m l c a p r nurule eps budget t cr h an long all none =
    let e = retired_called_nobody n m l c a p r nurule eps budget t cr h an long all (rw none) in
    e ∙ ap (λ (q : Tuning). general_host_by q n m l c a p nurule eps 0 budget cr h an) (tuning_none t none)
