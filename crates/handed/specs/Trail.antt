-- What a C function's bytes tell of its run with shrinking off, and what the pair finder's are.
use Rattle.std.specs.Prelude.{ℕ, ◌+◌, ◌*◌, ◌<◌, List, ◌++◌, ◌≡◌, Float, get_or}
use Rattle.std.specs.Float.{nan, binary64}
use Rattle.std.specs.Float.Ieee.{to_bits}
use Rattle.alpha.specs.Weight.{weight}
use Rattle.altuliscia.specs.Functions.{PairHanded}
use Rattle.answer.specs.Answer.{coefficient_of}
use Rattle.finder.specs.Found.{found_pair, found_step}
use Rattle.hosted.specs.Hosted.{is_on, as_float, room, Handed}
use Rattle.promises.specs.Fit.{Fit, after, weight_after, steps_taken, r_of}
use Rattle.promises.specs.Leaves.{Beyond}
use Rattle.promises.specs.Trail.{later_steps, label_lent, no_step, ShownStep}
use Rattle.solver.specs.Pass.{runs}
use Rattle.update.specs.declared.Pair.{Pair}
use Rattle.wire.specs.Wire.{digits}

-- of the fit k over the matrix m
pub record TrailedBytes (k : Fit) (m : List ℕ) (budget : ℕ) (o : Handed) : Type 0 where
  -- the run starts at the start weights
  pub begins : (s : ℕ) → s < k.given.n → weight_after k m room 0 s ≡ get_or k.weights s nan
  -- home at place s: sample s's weight after as many passes as the budget has, as the entry answers it
  pub weights : (s : ℕ) → s < k.given.n
      → digits o.home (8 * s) 8 ≡ to_bits binary64 (coefficient_of k.how (label_lent k m room s) (r_of k m room budget) (weight_after k m room budget s))
  -- each of its iterations is a step of the pair finder
  pub steps : (q : ℕ) → q < digits o.answer 48 8
      → ShownStep k m room budget q (get_or (steps_taken k m room budget) q no_step).i (get_or (steps_taken k m room budget) q no_step).j
  -- a call with a larger budget goes on from there, with the same steps before its own
  pub runs_on : (u : ℕ) → after k m room (u + budget) ≡ runs k.given m k.ceilings (after k m room budget) u
  pub steps_on : (u : ℕ) → steps_taken k m room (u + budget) ≡ steps_taken k m room budget ++ later_steps k m room budget u

-- ---- the pair finder, by the numbers that hold its floats' bytes

abbrev pub pair_called : (ai bi aj bj gi gj di dj r agree : ℕ) → Pair
pair_called ai bi aj bj gi gj di dj r agree =
    found_pair (weight (as_float ai) (as_float bi)) (weight (as_float aj) (as_float bj)) (as_float gi) (as_float gj) (as_float di) (as_float dj) (as_float r) (is_on agree)

abbrev pub step_called : (gi gj di dj r agree : ℕ) → Float
step_called gi gj di dj r agree = found_step (as_float gi) (as_float gj) (as_float di) (as_float dj) (as_float r) (is_on agree)

-- the two weights in the first sixteen bytes, and every other byte as it was
pub record GivesPair (p : Pair) (out : List ℕ) (o : PairHanded) : Type 0 where
  pub i : digits o.pair 0 8 ≡ to_bits binary64 p.i.value
  pub j : digits o.pair 8 8 ≡ to_bits binary64 p.j.value
  pub beyond : Beyond 0 16 out o.pair
