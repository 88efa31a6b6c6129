-- What an entry's list of judgements says where it is fine. Assumes nothing.
use Prim.Native.Nat.{ℕ, zero as none, suc, ◌*◌, ◌≤◌, ◌<◌}
use mathlib.Core.Bool.{Bool, true, not, ◌&&◌}
use mathlib.Core.List.{List}
use mathlib.Core.Logic.{inl, inr}
use Rattle.std.specs.Prelude.{⊤, Result, Ok, Err}
use mathlib.Core.Path.{◌≡◌, refl, sym, subst}
use native.Mathlib.Nat.{eq-or-lt_of_le}
use native.Mathlib.Omega.{arith}
use borrow.Author.Tests.{ltb-true, leb-true, le-leb}
use lib.Dec.{T, ltb, leb}
use lib.ListN.{length, get_or}
use lib.Ieee.{Float, nan, binary64, nan_bits, neg, lt, le}
use lib.Ieee.Bits.{nan_bits_is}
use Rattle.alpha.specs.Weight.{zero, limit, one}
use Rattle.kernel.specs.Matrix.{Matrix}
use Rattle.rounding.proofs.Order.{holds, le_real, both}
use Rattle.wire.specs.Wire.{digits, float_at}
use Rattle.judge.specs.declared.Refusal.{Refusal}
use Rattle.judge.specs.declared.Refusal.TheVariants.{Kernel, Label, Ceiling, Alpha, Linear, Eps, Nu, Budget, Floor}
use Rattle.judge.specs.Judge.{first, need, and_then, is_ceiling, entry_good, label_good, ceiling_good, cost_good, alpha_good, linear_good, eps_good, nu_good, budget_good, floor_good, bytes_good, floor_judged, samples_judged, general_judged, c_judged, nu_judged, one_class_judged}
use Rattle.judge.proofs.First.{first_fine, need_fine, and_then_fine}

-- ---- what a good place says

two : (a b : Bool) → (a && b) ≡ true → T a × T b
two a b h = let p = both a b h in ((holds a).1 p.0, (holds b).1 p.1)

pub entry_within : (m : List ℕ) (k : ℕ) → entry_good m k ≡ true → T (le (neg limit) (float_at m (8 * k))) × T (le (float_at m (8 * k)) limit)
unfolding entry_good
entry_within m k h = two (le (neg limit) (float_at m (8 * k))) (le (float_at m (8 * k)) limit) h

pub label_within : (l : List ℕ) (k : ℕ) → label_good l k ≡ true → get_or l k 0 ≤ 1
unfolding label_good
label_within l k h = leb-true (get_or l k 0) 1 h

pub ceiling_within : (c : List Float) (k : ℕ) → ceiling_good c k ≡ true → T (lt zero (get_or c k nan)) × T (le (get_or c k nan) limit)
unfolding ceiling_good
ceiling_within c k h = two (lt zero (get_or c k nan)) (le (get_or c k nan) limit) h

pub cost_within : (c : Float) → is_ceiling c ≡ true → T (lt zero c) × T (le c limit)
cost_within c h = two (lt zero c) (le c limit) h

pub alpha_within : (a c : List Float) (k : ℕ) → alpha_good a c k ≡ true → T (le zero (get_or a k nan)) × T (le (get_or a k nan) (get_or c k nan))
unfolding alpha_good
alpha_within a c k h = two (le zero (get_or a k nan)) (le (get_or a k nan) (get_or c k nan)) h

pub nu_within : (nu : Float) → nu_good nu ≡ true → T (lt zero nu) × T (le nu one)
unfolding nu_good
nu_within nu h = two (lt zero nu) (le nu one) h

pub floor_within : (x : Float) → floor_good x ≡ true → T (lt zero x) × T (le x one)
unfolding floor_good
floor_within x h = two (lt zero x) (le x one) h

pub budget_within : (budget : ℕ) → budget_good budget ≡ true → (0 < budget) × (budget ≤ 10000000)
unfolding budget_good
budget_within budget h = let p = both (ltb 0 budget) (leb budget 10000000) h in (ltb-true 0 budget p.0, leb-true budget 10000000 p.1)

-- 12, both ways
pub bytes_within : (r : List ℕ) (n : ℕ) → bytes_good r n ≡ true → (k : ℕ) → k < n → get_or r k 0 ≤ 1
unfolding bytes_good
bytes_within r none h k l = let z : ⊥ = omega arith in absurd z
bytes_within r (suc n) h k l =
    let p = both (bytes_good r n) (leb (get_or r n 0) 1) h in
    elim (eq-or-lt_of_le l) [
      | inl e ↦ let q : k ≡ n = omega arith in rw q (leb-true (get_or r n 0) 1 p.1)
      | inr g ↦ bytes_within r n p.0 k (omega arith)
    ]

pub within_bytes : (r : List ℕ) (n : ℕ) → ((k : ℕ) → k < n → get_or r k 0 ≤ 1) → bytes_good r n ≡ true
unfolding bytes_good
within_bytes r none h = refl
within_bytes r (suc n) h = rw (within_bytes r n (λ k l. h k (omega arith)), le-leb (get_or r n 0) 1 (h n (omega arith)))

-- a good entry is no NaN's pattern
entry_number : (m : List ℕ) (k : ℕ) → entry_good m k ≡ true → T (not (nan_bits binary64 (digits m (8 * k) 8)))
entry_number m k h =
    subst (λ (b : Bool). T (not b)) (sym (nan_bits_is binary64 (digits m (8 * k) 8)))
    (le_real (neg limit) (float_at m (8 * k)) (entry_within m k h).0).1

pub matrix_fine : (n : ℕ) (m : List ℕ) → n ≤ 512 → 8 * (n * n) ≤ length m → first Kernel (entry_good m) (n * n) 0 ≡ Ok tt → Matrix n m
matrix_fine n m a b h = record { small = a; long = b; number = λ k l. entry_number m k (first_fine Kernel (entry_good m) (n * n) 0 h k (omega arith) (omega arith)) }

-- ---- the lists and numbers of each entry

-- 14: all before it, and the floor
pub floor_fine : (x : Float) (j : Result ⊤ Refusal) → floor_judged x j ≡ Ok tt → (j ≡ Ok tt) × (floor_good x ≡ true)
floor_fine x j h = let p = and_then_fine j (need Floor (floor_good x)) h in (p.0, need_fine Floor (floor_good x) p.1)

pub floor_passed : (x : Float) (j : Result ⊤ Refusal) → floor_good x ≡ true → floor_judged x j ≡ j
unfolding and_then
floor_passed x (Ok p) h = rw h
floor_passed x (Err r) h = refl

pub record GeneralFine (n : ℕ) (m l : List ℕ) (c a p : List Float) (eps : Float) (budget : ℕ) : Type 0 where
  pub matrix : first Kernel (entry_good m) (n * n) 0 ≡ Ok tt
  pub labels : first Label (label_good l) n 0 ≡ Ok tt
  pub ceilings : first Ceiling (ceiling_good c) n 0 ≡ Ok tt
  pub alphas : first Alpha (alpha_good a c) n 0 ≡ Ok tt
  pub linear : first Linear (linear_good p) n 0 ≡ Ok tt
  pub eps_good_law : eps_good eps ≡ true
  pub budget_good_law : budget_good budget ≡ true

pub general_fine : (n : ℕ) (m l : List ℕ) (c a p : List Float) (eps : Float) (budget : ℕ)
    → general_judged n m l c a p eps budget ≡ Ok tt → GeneralFine n m l c a p eps budget
unfolding general_judged
general_fine n m l c a p eps budget h =
    let j4 = samples_judged n m l in
    let j5 = and_then j4 (first Ceiling (ceiling_good c) n 0) in
    let j6 = and_then j5 (first Alpha (alpha_good a c) n 0) in
    let j7 = and_then j6 (first Linear (linear_good p) n 0) in
    let h10 = and_then_fine (and_then j7 (need Eps (eps_good eps))) (need Budget (budget_good budget)) h in
    let h8 = and_then_fine j7 (need Eps (eps_good eps)) h10.0 in
    let h7 = and_then_fine j6 (first Linear (linear_good p) n 0) h8.0 in
    let h6 = and_then_fine j5 (first Alpha (alpha_good a c) n 0) h7.0 in
    let h5 = and_then_fine j4 (first Ceiling (ceiling_good c) n 0) h6.0 in
    let h4 = and_then_fine (first Kernel (entry_good m) (n * n) 0) (first Label (label_good l) n 0) h5.0 in
    record {
      matrix = h4.0;
      labels = h4.1;
      ceilings = h5.1;
      alphas = h6.1;
      linear = h7.1;
      eps_good_law = need_fine Eps (eps_good eps) h8.1;
      budget_good_law = need_fine Budget (budget_good budget) h10.1;
    }

pub record CFine (n : ℕ) (m l : List ℕ) (cpos cneg eps : Float) (budget : ℕ) : Type 0 where
  pub matrix : first Kernel (entry_good m) (n * n) 0 ≡ Ok tt
  pub labels : first Label (label_good l) n 0 ≡ Ok tt
  pub cpos_good : is_ceiling cpos ≡ true
  pub cneg_good : is_ceiling cneg ≡ true
  pub eps_good_law : eps_good eps ≡ true
  pub budget_good_law : budget_good budget ≡ true

pub c_fine : (n : ℕ) (m l : List ℕ) (cpos cneg eps : Float) (budget : ℕ) → c_judged n m l cpos cneg eps budget ≡ Ok tt → CFine n m l cpos cneg eps budget
unfolding c_judged cost_good
c_fine n m l cpos cneg eps budget h =
    let j4 = samples_judged n m l in
    let j5 = and_then j4 (first Ceiling (cost_good cpos cneg) 2 0) in
    let h10 = and_then_fine (and_then j5 (need Eps (eps_good eps))) (need Budget (budget_good budget)) h in
    let h8 = and_then_fine j5 (need Eps (eps_good eps)) h10.0 in
    let h5 = and_then_fine j4 (first Ceiling (cost_good cpos cneg) 2 0) h8.0 in
    let h4 = and_then_fine (first Kernel (entry_good m) (n * n) 0) (first Label (label_good l) n 0) h5.0 in
    record {
      matrix = h4.0;
      labels = h4.1;
      cpos_good = first_fine Ceiling (cost_good cpos cneg) 2 0 h5.1 0 (omega arith) (omega arith);
      cneg_good = first_fine Ceiling (cost_good cpos cneg) 2 0 h5.1 1 (omega arith) (omega arith);
      eps_good_law = need_fine Eps (eps_good eps) h8.1;
      budget_good_law = need_fine Budget (budget_good budget) h10.1;
    }

pub record NuFine (n : ℕ) (m l : List ℕ) (nu eps : Float) (budget : ℕ) : Type 0 where
  pub matrix : first Kernel (entry_good m) (n * n) 0 ≡ Ok tt
  pub labels : first Label (label_good l) n 0 ≡ Ok tt
  pub eps_good_law : eps_good eps ≡ true
  pub nu_good_law : nu_good nu ≡ true
  pub budget_good_law : budget_good budget ≡ true

pub nu_fine : (n : ℕ) (m l : List ℕ) (nu eps : Float) (budget : ℕ) → nu_judged n m l nu eps budget ≡ Ok tt → NuFine n m l nu eps budget
unfolding nu_judged
nu_fine n m l nu eps budget h =
    let j4 = samples_judged n m l in
    let j8 = and_then j4 (need Eps (eps_good eps)) in
    let h10 = and_then_fine (and_then j8 (need Nu (nu_good nu))) (need Budget (budget_good budget)) h in
    let h9 = and_then_fine j8 (need Nu (nu_good nu)) h10.0 in
    let h8 = and_then_fine j4 (need Eps (eps_good eps)) h9.0 in
    let h4 = and_then_fine (first Kernel (entry_good m) (n * n) 0) (first Label (label_good l) n 0) h8.0 in
    record {
      matrix = h4.0;
      labels = h4.1;
      eps_good_law = need_fine Eps (eps_good eps) h8.1;
      nu_good_law = need_fine Nu (nu_good nu) h9.1;
      budget_good_law = need_fine Budget (budget_good budget) h10.1;
    }

pub record OneClassFine (n : ℕ) (m : List ℕ) (nu eps : Float) (budget : ℕ) : Type 0 where
  pub matrix : first Kernel (entry_good m) (n * n) 0 ≡ Ok tt
  pub eps_good_law : eps_good eps ≡ true
  pub nu_good_law : nu_good nu ≡ true
  pub budget_good_law : budget_good budget ≡ true

pub one_class_fine : (n : ℕ) (m : List ℕ) (nu eps : Float) (budget : ℕ) → one_class_judged n m nu eps budget ≡ Ok tt → OneClassFine n m nu eps budget
unfolding one_class_judged
one_class_fine n m nu eps budget h =
    let j3 = first Kernel (entry_good m) (n * n) 0 in
    let j8 = and_then j3 (need Eps (eps_good eps)) in
    let h10 = and_then_fine (and_then j8 (need Nu (nu_good nu))) (need Budget (budget_good budget)) h in
    let h9 = and_then_fine j8 (need Nu (nu_good nu)) h10.0 in
    let h8 = and_then_fine j3 (need Eps (eps_good eps)) h9.0 in
    record {
      matrix = h8.0;
      eps_good_law = need_fine Eps (eps_good eps) h8.1;
      nu_good_law = need_fine Nu (nu_good nu) h9.1;
      budget_good_law = need_fine Budget (budget_good budget) h10.1;
    }
