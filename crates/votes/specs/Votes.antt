-- Several languages from pairs of trainings: who meets whom, a pair's sum, the votes and the winner (the rule, section 'Several languages').
use Rattle.std.specs.Prelude.{ℕ, zero, suc, ◌+◌, ◌-◌, ◌*◌, ◌/◌, ◌≤◌, ◌<◌, cond, List, eqb, ltb, Float}
use Rattle.std.specs.Float.{binary64}
use Rattle.std.specs.Float.Ieee.{add, sub, mul, le}
use Rattle.alpha.specs.Weight as Weight
use Rattle.wire.specs.Wire.{digits, float_at}
use Rattle.votes.specs.declared.Sides.{Sides}

-- ---- who meets whom: languages are counted from 0

-- of k languages, each with each
abbrev pub pairs_of : ℕ → ℕ
pairs_of k = k * (k - 1) / 2

abbrev pub sides : ℕ → ℕ → Sides
sides i j = record { first = i; second = j }

-- the next second language; behind the last one the next first, with the one behind it
unfoldable pub sides_after : ℕ → Sides → Sides
sides_after k s = cond (ltb (s.second + 1) k) (sides s.first (s.second + 1)) (sides (s.first + 1) (s.first + 2))

-- the two of pair p: (0,1), (0,2) and so on
unfoldable pub sides_of : ℕ → ℕ → Sides
sides_of k zero = sides 0 1
sides_of k (suc p) = sides_after k (sides_of k p)

-- ---- what is lent, in bytes

-- all pairs' coefficients, one pair after another, and their kernel values likewise; how many of each a pair has; the pairs' rhos
pub record Panel : Type 0 where
  pub coefficients : List ℕ
  pub values : List ℕ
  pub held : List ℕ
  pub valued : List ℕ
  pub rhos : List ℕ

abbrev pub panel : List ℕ → List ℕ → List ℕ → List ℕ → List ℕ → Panel
panel c v h d r = record { coefficients = c; values = v; held = h; valued = d; rhos = r }

abbrev pub word_in : List ℕ → ℕ → ℕ
word_in b i = digits b (8 * i) 8

abbrev pub float_in : List ℕ → ℕ → Float
float_in b i = float_at b (8 * i)

-- where the coefficients of pair p begin: behind those of the pairs before it
unfoldable pub pair_start : List ℕ → ℕ → ℕ
pair_start held zero = 0
pair_start held (suc p) = pair_start held p + word_in held p

-- ---- a pair's vote

-- from +0, over the first n coefficients from place `from` on: one product and one sum for each, each rounded once
unfoldable pub pair_sum_to : List ℕ → List ℕ → ℕ → ℕ → Float
pair_sum_to c v from zero = Weight.zero
pair_sum_to c v from (suc i) = add binary64 (pair_sum_to c v from i) (mul binary64 (float_in c (from + i)) (float_in v (from + i)))

unfoldable pub pair_sum : Panel → ℕ → Float
pair_sum l p = pair_sum_to l.coefficients l.values (pair_start l.held p) (word_in l.held p)

-- for the first where the sum less rho is 0 or above; a NaN is not
unfoldable pub chosen_by : Sides → Float → Float → ℕ
chosen_by s sum rho = cond (le Weight.zero (sub binary64 sum rho)) s.first s.second

unfoldable pub vote_of : ℕ → Panel → ℕ → ℕ
vote_of k l p = chosen_by (sides_of k p) (pair_sum l p) (float_in l.rhos p)

-- ---- the votes, and who wins

-- how many of the first p pairs vote for language x
unfoldable pub votes_to : ℕ → Panel → ℕ → ℕ → ℕ
votes_to k l zero x = 0
votes_to k l (suc p) x = votes_to k l p x + cond (eqb (vote_of k l p) x) 1 0

abbrev pub votes_for : ℕ → Panel → ℕ → ℕ
votes_for k l = votes_to k l (pairs_of k)

-- the votes v of the first n languages together
unfoldable pub total_to : (ℕ → ℕ) → ℕ → ℕ
total_to v zero = 0
total_to v (suc x) = total_to v x + v x

-- who of the first n has the most: a later one only with more
unfoldable pub winner_to : (ℕ → ℕ) → ℕ → ℕ
winner_to v zero = 0
winner_to v (suc x) = let w = winner_to v x in cond (ltb (v w) (v x)) x w

-- w of k languages has as many of the votes v as each, and more than each before it
pub record Wins (v : ℕ → ℕ) (k w : ℕ) : Type 0 where
  pub below : w < k
  pub most : (x : ℕ) → x < k → v x ≤ v w
  pub first : (x : ℕ) → x < w → v x < v w
