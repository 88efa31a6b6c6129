-- The threshold rho, and with the nu rule its companion r (the rule, section 'rho').
use Rattle.std.specs.Prelude.{ℕ, zero, suc, ◌+◌, Bool, true, false, cond, List, eqb, ltb, Float, get_or}
use Rattle.std.specs.Float.{nan, inf, binary64}
use Rattle.std.specs.Float.Ieee.{of_bits, add, sub, mul, div}
use Rattle.alpha.specs.Weight.{one, minus_one, two, at_upper, at_lower}
use Rattle.alpha.specs.declared.Alpha.{Alpha}
use Rattle.floats.specs.Helpers.{max_of, min_of, whole_as_float}
use Rattle.state.specs.Fields.{alpha_in}
use Rattle.rho.specs.declared.Share.{Share}
use Rattle.rho.specs.declared.Level.{Level}

-- before the first position
abbrev pub no_share : Share
no_share = record { free = 0; sum = of_bits binary64 0; ub = inf false; lb = inf true }

abbrev pub freed : Share → Float → Share
freed s g = record { free = s.free + 1; sum = add binary64 s.sum g; ub = s.ub; lb = s.lb }

abbrev pub lb_raised : Share → Float → Share
lb_raised s g = record { free = s.free; sum = s.sum; ub = s.ub; lb = max_of s.lb g }

abbrev pub ub_lowered : Share → Float → Share
ub_lowered s g = record { free = s.free; sum = s.sum; ub = min_of s.ub g; lb = s.lb }

-- raised, though it starts at infinity: so it stays there
abbrev pub ub_raised : Share → Float → Share
ub_raised s g = record { free = s.free; sum = s.sum; ub = max_of s.ub g; lb = s.lb }

-- C rule: y times the gradient
abbrev pub signed : Bool → Float → Float
signed positive g = mul binary64 (cond positive one minus_one) g

-- C rule: one position
unfoldable pub share_with_c : Bool → Alpha → Float → Share → Share
share_with_c positive w yg s =
    cond (at_upper w)
    (cond positive (lb_raised s yg) (ub_lowered s yg))
    (cond (at_lower w) (cond positive (ub_lowered s yg) (lb_raised s yg)) (freed s yg))

-- repaired it is lowered
unfoldable pub ub_moved : Bool → Share → Float → Share
ub_moved repaired s g = cond repaired (ub_lowered s g) (ub_raised s g)

-- nu rule: one position of the label
unfoldable pub share_with_nu : Bool → Alpha → Float → Share → Share
share_with_nu repaired w g s = cond (at_upper w) (lb_raised s g) (cond (at_lower w) (ub_moved repaired s g) (freed s g))

abbrev pub positive_in : List ℕ → ℕ → Bool
positive_in y k = eqb (get_or y k 0) 1

unfoldable pub share_c : ℕ → List Float → List ℕ → ℕ → Share
share_c n f y zero = no_share
share_c n f y (suc k) = share_with_c (positive_in y k) (alpha_in n f k) (signed (positive_in y k) (get_or f k nan)) (share_c n f y k)

-- of the positions of one label, 1 or 0
unfoldable pub joined_nu : Bool → Bool → Alpha → Float → Share → Share
joined_nu repaired counts w g s = cond counts (share_with_nu repaired w g s) s

unfoldable pub share_nu : Bool → ℕ → List Float → List ℕ → ℕ → ℕ → Share
share_nu repaired n f y label zero = no_share
share_nu repaired n f y label (suc k) = joined_nu repaired (eqb (get_or y k 0) label) (alpha_in n f k) (get_or f k nan) (share_nu repaired n f y label k)

-- the mean of the free ones, or the middle of the bounds
unfoldable pub middle : Share → Float
middle s = cond (ltb 0 s.free) (div binary64 s.sum (whole_as_float s.free)) (div binary64 (add binary64 s.ub s.lb) two)

abbrev pub rho_c : ℕ → List Float → List ℕ → ℕ → Float
rho_c n f y a = middle (share_c n f y a)

abbrev pub level_of : Float → Float → Level
level_of a b = record { rho = div binary64 (sub binary64 a b) two; r = div binary64 (add binary64 a b) two }

abbrev pub rho_nu : Bool → ℕ → List Float → List ℕ → ℕ → Level
rho_nu repaired n f y a = level_of (middle (share_nu repaired n f y 1 a)) (middle (share_nu repaired n f y 0 a))

-- by the rule that holds; r is +0 without the nu rule
unfoldable pub level_by : Bool → Bool → ℕ → List Float → List ℕ → ℕ → Level
level_by nu repaired n f y a = cond nu (rho_nu repaired n f y a) (record { rho = rho_c n f y a; r = of_bits binary64 0 })
