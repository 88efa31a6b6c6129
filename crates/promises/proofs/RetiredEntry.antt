-- The entry with retired samples, where it accepts the input x: each promise of it by name. Assumes nothing.
use Prim.Native.Nat.{ℕ, ◌≤◌, ◌<◌}
use mathlib.Core.Bool.{Bool, true, false}
use mathlib.Core.List.{List}
use mathlib.Core.Path.{◌≡◌}
use lib.Dec.{T}
use lib.Ieee.{Float, nan, binary64, fits}
use lib.ListN.{length, get_or}
use Rattle.std.specs.Prelude.{Some}
use Rattle.alpha.specs.Weight as Weight
use Rattle.answer.specs.Lent.{Lent, Whole}
use Rattle.answer.specs.declared.Answer.{Answer}
use Rattle.boxed.specs.Range.{In}
use Rattle.retired.specs.Differ.{Input, retired_for}
use Rattle.retired.specs.Entry.{stands_in, kept}
use Rattle.retired.proofs.Independent.{Taken, retired_taken}
use Rattle.rounding.specs.Units.{NotNan}
use Rattle.travel.specs.Travel.{Travelled}
use Rattle.tuning.specs.declared.Tuning.{Tuning}
use Rattle.promises.specs.Fit.{Fit, weight_after}
use Rattle.promises.specs.Retired.{retired_fit, silent_fit, after_over, weight_over, pair_over, delta_over, steps_over, own_over}
use Rattle.promises.proofs.Retired.{taken_alike, taken_home, taken_reads, taken_travels, taken_pairs, taken_iterations, taken_coded}
use Rattle.promises.proofs.RetiredBox.{taken_box, taken_no_nan, taken_home_box}
use Rattle.std.specs.Prelude.{Ok}

module _ (tune : Tuning) (x : Input) (n : ℕ) (r : List ℕ) (nurule : Bool) (eps : Float) (shrinking : Bool) (budget : ℕ) (d : Lent) (z : Answer)
    (e : (retired_for tune x n r nurule eps shrinking budget d).out ≡ Ok z) where
  abbrev o : Whole
  o = retired_for tune x n r nurule eps shrinking budget d

  abbrev k : Fit
  k = retired_fit tune n x r nurule eps

  v : Taken tune n r nurule eps shrinking budget d x o
  v = retired_taken tune n r nurule eps shrinking budget d x z e

  -- what home answers for sample s
  pub retired_home : (s : ℕ) → s < n → get_or o.left.home s nan ≡ own_over (stands_in r) k x.matrix d budget s
  retired_home = taken_home v

  -- +0 for one that is retired
  pub retired_reads : (s : ℕ) → s < n → stands_in r s ≡ false → get_or o.left.home s nan ≡ Weight.zero
  retired_reads = taken_reads v

  -- the crate's list is the same
  pub retired_alike : (s : ℕ) → s < n → get_or o.left.crate s nan ≡ get_or o.left.home s nan
  retired_alike = taken_alike v

  -- after each number of passes
  pub retired_travels : (t : ℕ) → Travelled n (λ s. get_or x.labels s 0) (λ s. get_or (kept r x.terms n) s nan) (after_over (stands_in r) k x.matrix d t).state
  retired_travels = taken_travels v

  -- both samples of a pair stand
  pub retired_pairs : (t i j : ℕ) → pair_over (stands_in r) k x.matrix d t ≡ Some (i, j) → ((i < n) × (stands_in r i ≡ true)) × ((j < n) × (stands_in r j ≡ true))
  retired_pairs = taken_pairs v

  -- the iterations answered are the steps, at most the budget
  pub retired_iterations : (z.iterations ≡ length (steps_over (stands_in r) k x.matrix d budget)) × (z.iterations ≤ budget)
  retired_iterations = taken_iterations v z e

  -- the code's run has the same weights after each pass
  pub retired_coded : (t i : ℕ) → i < n → weight_after (silent_fit tune n x r nurule eps) x.matrix d t i ≡ weight_over (stands_in r) k x.matrix d t i
  retired_coded = taken_coded v

  -- where all that stand have the ceiling b
  module _ (b : Float) (fit : T (fits binary64 b)) (same : (i : ℕ) → i < n → stands_in r i ≡ true → get_or x.ceilings i nan ≡ b)
      (fit_a : (i : ℕ) → i < n → stands_in r i ≡ true → T (fits binary64 (get_or x.weights i nan))) where
    pub retired_box : (t i : ℕ) → i < n → stands_in r i ≡ true → In b (weight_over (stands_in r) k x.matrix d t i)
    retired_box = taken_box v b fit same fit_a

    pub retired_no_nan : (t i j : ℕ) → pair_over (stands_in r) k x.matrix d t ≡ Some (i, j) → NotNan (delta_over (stands_in r) k x.matrix d t i j)
    retired_no_nan = taken_no_nan v b fit same fit_a

    -- the weight behind what home answers for sample s
    pub retired_home_box : (s : ℕ) → s < n → stands_in r s ≡ true → In b (own_over (stands_in r) k x.matrix d budget s)
    retired_home_box = taken_home_box v b fit same fit_a
