-- What a run answers (the rule, sections 'rho' and 'Run').
use Rattle.std.specs.Prelude.{ℕ, zero, suc, ◌+◌, ◌*◌, ◌&&◌, cond, List, eqb, ltb, Float, get_or}
use Rattle.std.specs.Float.{nan, binary64}
use Rattle.std.specs.Float.Ieee.{of_bits, add, mul, div}
use Rattle.alpha.specs.Weight.{two}
use Rattle.start.specs.Start.{started}
use Rattle.state.specs.Lists.{State}
use Rattle.solver.specs.Pass.{rebuilt, runs}
use Rattle.solver.specs.Run.{ready_of, problem_of, Full, full, with_run, active_at}
use Rattle.solver.specs.declared.Given.{Given}

-- the budget ran out with inactive positions left: all gradients anew, and all positions active
unfoldable pub closed : Given → List ℕ → ℕ → Full → Full
closed g m budget w =
    cond (eqb w.run.iterations budget && ltb w.run.active g.n)
    (with_run (rebuilt g m w) (active_at w.run g.n))
    w

-- the sum of weight·(gradient + linear term) over the first positions, in order
unfoldable pub sum_to : ℕ → List Float → ℕ → Float
sum_to n f zero = of_bits binary64 0
sum_to n f (suc k) =
    add binary64 (sum_to n f k) (mul binary64 (get_or f (2 * n + k) nan) (add binary64 (get_or f k nan) (get_or f (4 * n + k) nan)))

abbrev pub objective_of : ℕ → List Float → Float
objective_of n f = div binary64 (sum_to n f n) two

-- start, at most budget passes, end: s holds weights, ceilings, linear terms, kernel indices and labels
unfoldable pub trained : Given → List ℕ → List Float → ℕ → State → Full
trained g m b budget s =
    closed g m budget (runs g m b (full (ready_of g.n) (started (problem_of g m) b s) s.numbers s.labels) budget)
