-- The gradients of inactive positions, computed anew (the rule, section 'Reconstruction').
use Rattle.std.specs.Prelude.{ℕ, zero, suc, ◌+◌, ◌-◌, ◌*◌, Bool, true, not, ◌&&◌, cond, List, eqb, ltb, Float, get_or, set}
use Rattle.std.specs.Float.{nan, binary64}
use Rattle.std.specs.Float.Ieee.{add, mul}
use Rattle.alpha.specs.Weight.{is_free}
use Rattle.alpha.specs.declared.Alpha.{Alpha}
use Rattle.rows.specs.Added.{row_added}
use Rattle.state.specs.Lists.{Problem, State, over}
use Rattle.state.specs.Fields.{alpha_in, alpha, row}

-- the first of the positions from a on get fixed gradient + linear term
unfoldable pub fresh_to : ℕ → ℕ → List Float → ℕ → List Float
fresh_to n a f zero = f
fresh_to n a f (suc k) =
    let g = fresh_to n a f k in
    set g (a + k) (add binary64 (get_or g (n + (a + k)) nan) (get_or g (4 * n + (a + k)) nan))

-- how many of the first m positions are free
unfoldable pub counted : Alpha → ℕ → ℕ
counted w c = cond (is_free w) (c + 1) c

unfoldable pub free_to : ℕ → List Float → ℕ → ℕ
free_to n f zero = 0
free_to n f (suc k) = counted (alpha_in n f k) (free_to n f k)

-- g with the weight w times r; where the inner one is asked, only if w is free
unfoldable pub brought : Bool → Alpha → Float → Float → Float
brought inner w g r = cond (inner && not (is_free w)) g (add binary64 g (mul binary64 w.value r))

-- g with the first m weights, each times row i at its position, added in order
unfoldable pub weighted_to : Problem → Bool → State → ℕ → Float → ℕ → Float
weighted_to p inner s i g zero = g
weighted_to p inner s i g (suc j) = brought inner (alpha p s j) (weighted_to p inner s i g j) (row p s i j)

-- first branch: an inactive position i gets the a active weights; where the inner one isn't asked, only if its own weight w is free
unfoldable pub gets : Bool → Alpha → Bool
gets inner w = cond inner true (is_free w)

unfoldable pub outer_by : Problem → Bool → State → ℕ → ℕ → Alpha → List Float
outer_by p inner s a i w = cond (gets inner w) (set s.floats i (weighted_to p inner s i (get_or s.floats i nan) a)) s.floats

abbrev pub outer_at : Problem → Bool → State → ℕ → ℕ → List Float
outer_at p inner s a i = outer_by p inner s a i (alpha p s i)

unfoldable pub outer_to : Problem → Bool → ℕ → State → ℕ → List Float
outer_to p inner a s zero = s.floats
outer_to p inner a s (suc k) = outer_at p inner (over s (outer_to p inner a s k)) a (a + k)

-- second branch: an active position i whose weight w is free goes to all inactive ones
unfoldable pub inner_by : Problem → State → ℕ → ℕ → Alpha → List Float
inner_by p s a i w = cond (is_free w) (row_added p s 0 w.value i a (p.n - a)) s.floats

abbrev pub inner_at : Problem → State → ℕ → ℕ → List Float
inner_at p s a i = inner_by p s a i (alpha p s i)

unfoldable pub inner_to : Problem → ℕ → State → ℕ → List Float
inner_to p a s zero = s.floats
inner_to p a s (suc i) = inner_at p (over s (inner_to p a s i)) a i

-- which branch, over whole numbers
unfoldable pub branched : Problem → Bool → ℕ → State → List Float
branched p inner a s =
    cond (ltb (2 * a * (p.n - a)) (free_to p.n s.floats a * p.n))
    (outer_to p inner a s (p.n - a))
    (inner_to p a s a)

-- inner says whether the first branch asks the inner sample
unfoldable pub reconstructed : Problem → Bool → ℕ → State → List Float
reconstructed p inner a s =
    cond (eqb a p.n) s.floats (branched p inner a (over s (fresh_to p.n a s.floats (p.n - a))))
