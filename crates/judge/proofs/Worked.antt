-- The edges of the table of refusals, computed. Assumes nothing.
use Prim.Native.Nat.{ℕ}
use mathlib.Core.Bool.{Bool, true, false}
use mathlib.Core.List.{List, ◌∷◌, []}
use Rattle.std.specs.Prelude.{Ok, Err}
use mathlib.Core.Path.{◌≡◌, refl}
use lib.Ieee.{Float, binary64, of_bits, neg, lt, le}
use Rattle.alpha.specs.Weight.{limit, zero, one}
use Rattle.judge.specs.declared.Refusal.{Refusal}
use Rattle.judge.specs.declared.Refusal.TheVariants.{Samples, Length, Label, Ceiling, Linear, Eps, Budget, Retired, RetiredShrinking, Floor}
use Rattle.judge.specs.Sizes.{sizes}
use Rattle.judge.specs.Judge.{first, need, and_then, in_limit, is_ceiling, is_start, label_good, linear_good, cost_good, eps_good, nu_good, budget_good, floor_good, bytes_good, floor_judged, general_judged, retired_judged}

-- the least float above 0, those next above 2^1000 and 1, −0, +∞, and a NaN
abbrev least : Float
least = of_bits binary64 1

abbrev over : Float
over = of_bits binary64 0x7e70_0000_0000_0001

abbrev over_one : Float
over_one = of_bits binary64 0x3ff0_0000_0000_0001

abbrev minus_zero : Float
minus_zero = of_bits binary64 0x8000_0000_0000_0000

abbrev infinity : Float
infinity = of_bits binary64 0x7ff0_0000_0000_0000

abbrev no_number : Float
no_number = of_bits binary64 0x7ff8_0000_0000_0001

-- 1 and 2: none, 512 and 513 samples, and one place too few or too many
pub counts : (sizes 0 true 0 0 0 0 0 0 ≡ Err Samples) × (sizes 512 true 2097152 512 512 3584 1024 512 ≡ Ok tt) × (sizes 513 true 2105352 513 513 3591 1026 513 ≡ Err Samples)
unfolding sizes
counts = (refl, refl, refl)

pub rooms : (sizes 2 true 32 2 2 14 4 2 ≡ Ok tt) × (sizes 2 false 32 2 2 14 4 2 ≡ Err Length) × (sizes 2 true 33 2 2 14 4 2 ≡ Err Length) × (sizes 2 true 32 1 2 14 4 2 ≡ Err Length)
    × (sizes 2 true 32 2 1 14 4 2 ≡ Err Length) × (sizes 2 true 32 2 2 13 4 2 ≡ Err Length) × (sizes 2 true 32 2 2 14 3 2 ≡ Err Length) × (sizes 2 true 32 2 2 14 4 1 ≡ Err Length)
unfolding sizes
rooms = (refl, refl, refl, refl, refl, refl, refl, refl)

-- 3
pub entries : (in_limit limit ≡ true) × (in_limit (neg limit) ≡ true) × (in_limit over ≡ false) × (in_limit (neg over) ≡ false) × (in_limit infinity ≡ false) × (in_limit no_number ≡ false)
unfolding of_bits neg le
entries = (refl, refl, refl, refl, refl, refl)

-- 4, with its index
pub labels : (first Label (label_good (0 ∷ 1 ∷ [])) 2 0 ≡ Ok tt) × (first Label (label_good (1 ∷ 2 ∷ 3 ∷ [])) 3 0 ≡ Err (Label 1))
unfolding first label_good
labels = (refl, refl)

-- 5, in the C entry with its index
pub ceilings : (is_ceiling limit ≡ true) × (is_ceiling over ≡ false) × (is_ceiling zero ≡ false) × (is_ceiling minus_zero ≡ false) × (is_ceiling no_number ≡ false)
unfolding of_bits lt le
ceilings = (refl, refl, refl, refl, refl)

pub costs : (first Ceiling (cost_good zero zero) 2 0 ≡ Err (Ceiling 0)) × (first Ceiling (cost_good one zero) 2 0 ≡ Err (Ceiling 1)) × (first Ceiling (cost_good one limit) 2 0 ≡ Ok tt)
unfolding first cost_good of_bits lt le
costs = (refl, refl, refl)

-- 6
pub starts : (is_start minus_zero one ≡ true) × (is_start one one ≡ true) × (is_start over_one one ≡ false) × (is_start (neg one) one ≡ false) × (is_start no_number one ≡ false)
unfolding of_bits neg le
starts = (refl, refl, refl, refl, refl)

-- 7
pub linear : (first Linear (linear_good (over ∷ neg over ∷ [])) 2 0 ≡ Ok tt) × (first Linear (linear_good (zero ∷ neg infinity ∷ [])) 2 0 ≡ Err (Linear 1)) × (first Linear (linear_good (no_number ∷ [])) 1 0 ≡ Err (Linear 0))
unfolding first linear_good of_bits neg
linear = (refl, refl, refl)

-- 8
pub epsilons : (eps_good zero ≡ true) × (eps_good over ≡ true) × (eps_good minus_zero ≡ false) × (eps_good (neg one) ≡ false) × (eps_good infinity ≡ false) × (eps_good no_number ≡ false)
unfolding eps_good of_bits neg
epsilons = (refl, refl, refl, refl, refl, refl)

-- 9
pub nus : (nu_good one ≡ true) × (nu_good over_one ≡ false) × (nu_good zero ≡ false) × (nu_good no_number ≡ false)
unfolding nu_good of_bits lt le
nus = (refl, refl, refl, refl)

-- 10, and the lower of two numbers
pub budgets : (budget_good 0 ≡ false) × (budget_good 1 ≡ true) × (budget_good 10000000 ≡ true) × (budget_good 10000001 ≡ false)
    × (and_then (need Eps false) (need Budget false) ≡ Err Eps) × (and_then (need Eps true) (need Budget false) ≡ Err Budget)
unfolding budget_good and_then
budgets = (refl, refl, refl, refl, refl, refl)

-- 14: 5e-324 and 1 are the ends
pub floors : (floor_good least ≡ true) × (floor_good one ≡ true) × (floor_good over_one ≡ false) × (floor_good zero ≡ false) × (floor_good minus_zero ≡ false) × (floor_good (neg one) ≡ false)
    × (floor_good infinity ≡ false) × (floor_good no_number ≡ false)
unfolding floor_good of_bits neg lt le
floors = (refl, refl, refl, refl, refl, refl, refl, refl)

-- 12: of the first n bytes
pub retireds : (bytes_good (0 ∷ 1 ∷ []) 2 ≡ true) × (bytes_good (0 ∷ 2 ∷ []) 2 ≡ false) × (bytes_good (0 ∷ 2 ∷ []) 1 ≡ true)
unfolding bytes_good
retireds = (refl, refl, refl)

-- the order: what is judged before it, 14; in every entry
pub fourteen_last : (x : Float) (r : Refusal) → floor_judged x (Err r) ≡ Err r
unfolding and_then
fourteen_last x r = refl

pub fourteen_then : (x : Float) → floor_good x ≡ false → floor_judged x (Ok tt) ≡ Err Floor
unfolding and_then
fourteen_then x h = rw h

-- .. then 12, 13
module _ (x : Float) (n : ℕ) (m l : List ℕ) (c a p : List Float) (r : List ℕ) (eps : Float) (budget : ℕ) where
  pub ten_before_fourteen : (e : Refusal) (shrinking : Bool) → general_judged n m l c a p eps budget ≡ Err e → retired_judged x n m l c a p r eps shrinking budget ≡ Err e
  unfolding retired_judged and_then
  ten_before_fourteen e shrinking h = rw h

  pub fourteen_before_twelve : (shrinking : Bool) → general_judged n m l c a p eps budget ≡ Ok tt → floor_good x ≡ false → retired_judged x n m l c a p r eps shrinking budget ≡ Err Floor
  unfolding retired_judged and_then
  fourteen_before_twelve shrinking h g = rw (h, g)

  pub twelve_before_thirteen : (shrinking : Bool) → floor_judged x (general_judged n m l c a p eps budget) ≡ Ok tt → bytes_good r n ≡ false → retired_judged x n m l c a p r eps shrinking budget ≡ Err Retired
  unfolding retired_judged and_then
  twelve_before_thirteen shrinking h g = rw (h, g)

  pub thirteen_last : floor_judged x (general_judged n m l c a p eps budget) ≡ Ok tt → bytes_good r n ≡ true → retired_judged x n m l c a p r eps true budget ≡ Err RetiredShrinking
  unfolding retired_judged and_then
  thirteen_last h g = rw (h, g)
