-- The box, of an entry: with one common ceiling b every weight lies in 0..b after each pass of its run, and no step is NaN. Assumes nothing.
use Prim.Native.Nat.{ℕ, ◌*◌, ◌≤◌, ◌<◌}
use mathlib.Core.Bool.{true, false}
use mathlib.Core.List.{List}
use mathlib.Core.Path.{◌≡◌, sym, ◌∙◌}
use native.Mathlib.Omega.{arith}
use lib.Dec.{T}
use lib.Ieee.{Float, nan, inf, fin, binary64, of_bits, fits, lt, le}
use lib.Ieee.Scale.{finite}
use lib.Ieee.Bits.{of_bits-fits}
use lib.ListN.{get_or}
use Rattle.std.specs.Prelude.{Some}
use Rattle.alpha.specs.Weight as Weight
use Rattle.alpha.specs.Weight.{one}
use Rattle.answer.specs.Lent.{Lent, Whole}
use Rattle.boxed.specs.Delta.{delta_at}
use Rattle.boxed.specs.Range.{Ceiling, In, Entry, Divides}
use Rattle.boxrun.specs.Boxed as Boxed
use Rattle.boxrun.specs.Boxed.{OneCeiling}
use Rattle.boxrun.proofs.Run.{box_weights, box_trained, no_nan_chosen, no_nan_runs}
use Rattle.fits.proofs.Loaded.{weight_loaded, ceiling_loaded, label_loaded}
use Rattle.judge.specs.Judge.{first, is_ceiling, entry_good, label_good, floor_good}
use Rattle.judge.proofs.Accepted.{entry_within, label_within, cost_within, floor_within}
use Rattle.judge.proofs.First.{first_fine}
use Rattle.rounding.specs.Units.{NotNan}
use Rattle.rounding.proofs.Order.{lt_real, lt→le, le_real}
use Rattle.readings.specs.Order.{weight_in}
use Rattle.readings.proofs.Order.{home_at}
use Rattle.solver.specs.End.{trained}
use Rattle.solver.specs.Pass.{chosen}
use Rattle.solver.specs.Run.{problem_of}
use Rattle.solver.specs.declared.Given.{Given}
use Rattle.travel.specs.Home.{last_left}
use Rattle.travel.proofs.Home.{trained_home}
use Rattle.travel.proofs.Travel.{travelled_trained}
use Rattle.wire.specs.Wire.{float_at, digits}
use Rattle.promises.specs.Fit.{Fit, start_from, after, weight_after, pair_after, delta_after, steps_taken}
use Rattle.promises.proofs.Travel.{Served, ready_start, fresh_start}
use Rattle.std.specs.Prelude.{Ok}
use Rattle.judge.specs.declared.Refusal.TheVariants.{Kernel, Label}

-- ---- what the verdict says of entries, labels and ceilings

pub entries_in : (n : ℕ) (m : List ℕ) → first Kernel (entry_good m) (n * n) 0 ≡ Ok tt → (k : ℕ) → k < n * n → Entry (float_at m (8 * k))
entries_in n m h k b =
    let w = entry_within m k (first_fine Kernel (entry_good m) (n * n) 0 h k (omega arith) (omega arith)) in
    record { fit = of_bits-fits binary64 (digits m (8 * k) 8); low = w.0; high = w.1 }

pub labels_in : (n : ℕ) (l : List ℕ) → first Label (label_good l) n 0 ≡ Ok tt → (k : ℕ) → k < n → get_or l k 0 ≤ 1
labels_in n l h k b = label_within l k (first_fine Label (label_good l) n 0 h k (omega arith) (omega arith))

-- refusal 14 leaves a floor that divides
pub floor_in : (x : Float) → floor_good x ≡ true → Divides x
floor_in x h = let w = floor_within x h in record { finite = under x w.0 w.1; above = w.0 }
  where
    under : (x : Float) → T (lt Weight.zero x) → T (le x one) → T (finite x)
    under nan a b = unfold of_bits lt in a
    under (inf true) a b = unfold of_bits lt in a
    under (inf false) a b = unfold of_bits le in b
    under (fin s m e) a b = tt

-- every f64 fits its format
pub ceiling_in_law : (b : Float) → T (fits binary64 b) → is_ceiling b ≡ true → Ceiling b
ceiling_in_law b f h =
    let w = cost_within b h in
    record { number = record { fit = f; real = (lt_real Weight.zero b w.0).1 }; low = lt→le Weight.zero b w.0; high = w.1 }

pub weight_in_law : (b x : Float) → T (fits binary64 x) → T (le Weight.zero x) → T (le x b) → In b x
weight_in_law b x f l h = record { number = record { fit = f; real = (le_real Weight.zero x l).1 }; low = l; high = h }

-- ---- the run of an entry

-- one ceiling b for all places, start weights from 0 to b, and what refusals 3 and 4 leave of the matrix and the labels
pub record Common (k : Fit) (m : List ℕ) (b : Float) : Type 0 where
  pub ceiling : Ceiling b
  pub places : (i : ℕ) → i < k.given.n → get_or k.ceilings i nan ≡ b
  pub weights : (i : ℕ) → i < k.given.n → In b (get_or k.weights i nan)
  pub entries : (i : ℕ) → i < k.given.n * k.given.n → Entry (float_at m (8 * i))
  pub labels : (i : ℕ) → i < k.given.n → get_or k.labels i 0 ≤ 1
  pub floor : Divides k.given.floor

module _ {k : Fit} {m : List ℕ} {budget : ℕ} {d : Lent} {o : Whole} (v : Served k m budget d o) {b : Float} (c : Common k m b) where
  abbrev g : Given
  g = k.given

  one_ceiling : OneCeiling (problem_of g m) g.floor b k.ceilings
  one_ceiling = record { ceiling = c.ceiling; places = c.places; entries = λ i h. c.entries i (rw v.square at h); floor_above = c.floor }

  lent : Boxed.LentBoxed b (problem_of g m) (start_from k m d)
  lent = record {
    ready = ready_start v;
    held = λ i h. record {
      upper = ceiling_loaded g.n k.ceilings k.weights k.terms d.floats v.room.floats g.n i (omega arith) h ∙ c.places i h;
      value = rw (weight_loaded g.n k.ceilings k.weights k.terms d.floats v.room.floats g.n i (omega arith) h) (c.weights i h);
    };
    label = λ i h. rw (label_loaded k.labels d.bytes g.n i v.room.bytes h) (c.labels i h);
  }

  -- after t passes, at position i
  pub served_box : (t i : ℕ) → i < g.n → In b (weight_after k m d t i)
  served_box = box_weights g m one_ceiling (start_from k m d) lent

  -- where the next pass steps with i and j
  pub served_no_nan : (t i j : ℕ) → pair_after k m d t ≡ Some (i, j) → NotNan (delta_after k m d t i j)
  served_no_nan = no_nan_runs g m one_ceiling (start_from k m d) lent

  -- the pair that is chosen after t passes
  pub served_chosen : (t i j : ℕ) → chosen g m (after k m d t) ≡ Some (i, j) → NotNan (delta_at (problem_of g m) (after k m d t).state g.floor i j)
  served_chosen = no_nan_chosen g m one_ceiling (start_from k m d) lent

  -- and at home, before sign and scaling: the weight of each sample
  pub served_home_box : (s : ℕ) → s < g.n → In b (last_left (steps_taken k m d budget) s (get_or k.weights s nan))
  served_home_box s h =
      let w = trained g m k.ceilings budget (start_from k m d) in
      let q = (travelled_trained g m k.ceilings budget (start_from k m d) (ready_start v) (fresh_start v)).order in
      rw (
        sym (weight_loaded g.n k.ceilings k.weights k.terms d.floats v.room.floats g.n s (omega arith) h),
        sym (trained_home g m k.ceilings budget (start_from k m d) (ready_start v) (fresh_start v) d.home v.room.home s h),
        home_at nan w.state.numbers (weight_in g.n w.state.floats) d.home g.n s v.room.home q h,
      )
      (box_trained g m one_ceiling (start_from k m d) lent budget (q.place s) (q.inside s h))
