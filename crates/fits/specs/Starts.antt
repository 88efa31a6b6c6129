-- What each fit starts from (the rule, section 'Fits'): lists of 512 places, of which the first n count.
use Rattle.std.specs.Prelude.{ℕ, zero, suc, Bool, true, false, cond, List, eqb, ltb, Float, get_or, set, replicate}
use Rattle.std.specs.Float.{binary64}
use Rattle.std.specs.Float.Ieee.{sub, mul, div}
use Rattle.alpha.specs.Weight as Weight
use Rattle.alpha.specs.Weight.{one, two}
use Rattle.lists.specs.Filled.{filled_to}
use Rattle.floats.specs.Helpers.{min_of, whole_as_float, whole_product}
use Rattle.fits.specs.declared.Rest.{Rest}

abbrev pub nothing : List Float
nothing = replicate 512 Weight.zero

-- n times x
abbrev pub evenly : Float → ℕ → List Float
evenly x n = filled_to x nothing n

-- n positive labels
abbrev pub all_positive : ℕ → List ℕ
all_positive n = filled_to 1 (replicate 512 0) n

-- ---- C: a ceiling for each label

abbrev pub cost_of : Float → Float → ℕ → Float
cost_of cpos cneg label = cond (eqb label 1) cpos cneg

unfoldable pub costs_to : Float → Float → List ℕ → List Float → ℕ → List Float
costs_to cpos cneg l d zero = d
costs_to cpos cneg l d (suc k) = set (costs_to cpos cneg l d k) k (cost_of cpos cneg (get_or l k 0))

-- ---- nu: each label has nu·n/2 to give, to each sample 1 at the most

unfoldable pub given_from : Rest → Bool → Float
given_from r true = min_of one r.pos
given_from r false = min_of one r.neg

unfoldable pub rest_after : Rest → Bool → Rest
rest_after r true = record { pos = sub binary64 r.pos (given_from r true); neg = r.neg }
rest_after r false = record { pos = r.pos; neg = sub binary64 r.neg (given_from r false) }

abbrev pub half : Float → ℕ → Float
half nu n = div binary64 (mul binary64 nu (whole_as_float n)) two

-- what is left after the first samples
unfoldable pub rest_to : Float → List ℕ → ℕ → Rest
rest_to h l zero = record { pos = h; neg = h }
rest_to h l (suc k) = rest_after (rest_to h l k) (eqb (get_or l k 0) 1)

unfoldable pub shared_to : Float → List ℕ → List Float → ℕ → List Float
shared_to h l d zero = d
shared_to h l d (suc k) = set (shared_to h l d k) k (given_from (rest_to h l k) (eqb (get_or l k 0) 1))

-- ---- one-class: 1 below the whole part of nu·n, there what is left of it, 0 after

unfoldable pub one_class_at : Float → ℕ → ℕ → Float
one_class_at nu n k =
    cond (ltb k (whole_product nu n))
    one
    (cond (eqb k (whole_product nu n)) (sub binary64 (mul binary64 nu (whole_as_float n)) (whole_as_float k)) Weight.zero)

unfoldable pub one_class_to : Float → ℕ → List Float → ℕ → List Float
one_class_to nu n d zero = d
one_class_to nu n d (suc k) = set (one_class_to nu n d k) k (one_class_at nu n k)
