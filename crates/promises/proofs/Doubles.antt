-- Where ceilings and start weights are f64s, every weight of a run is one, and so is what home answers. Assumes nothing.
use Prim.Native.Nat.{ℕ, ◌+◌, ◌*◌, ◌≤◌, ◌<◌}
use mathlib.Core.Bool.{Bool, true, false, cond}
use mathlib.Core.List.{List}
use mathlib.Core.Path.{◌≡◌, refl, sym, ap}
use native.Mathlib.Decide.{ℕ_discrete}
use native.Mathlib.Omega.{arith}
use lib.Dec.{eqb}
use lib.Ieee.{Float, nan, binary64, neg}
use lib.Ieee.Bits.{of_bits-fits}
use lib.Ieee.Fits.{cond-fits, neg-fits, div-fits}
use lib.ListN.{length, get_or}
use Rattle.alpha.specs.Weight as Weight
use Rattle.alpha.specs.Weight.{weight}
use Rattle.alpha.specs.declared.Alpha.{Alpha}
use Rattle.answer.specs.Answer.{signed_by, coefficient_of}
use Rattle.answer.specs.Lent.{Lent, Whole}
use Rattle.answer.specs.declared.Answer.{Answer}
use Rattle.answer.specs.declared.Finish.{Finish}
use Rattle.answer.specs.declared.Finish.TheVariants.{Plain, Signed, Scaled}
use Rattle.classification.specs.Entries.{fitted}
use Rattle.finder.proofs.Doubles.{Double, Doubled, step_doubled}
use Rattle.fits.proofs.Loaded.{weight_loaded, ceiling_loaded}
use Rattle.readings.specs.Order.{weight_in}
use Rattle.readings.proofs.Order.{home_at}
use Rattle.modes.specs.Modes.{travels, repaired}
use Rattle.reconstruct.specs.Reconstruct.{reconstructed}
use Rattle.retired.specs.Differ.{Input}
use Rattle.retired.specs.Entry.{stands_in, kept}
use Rattle.retired.proofs.Independent.{kept_place, Taken, taken_usable}
use Rattle.solver.specs.End.{trained}
use Rattle.solver.specs.Pass.{runs}
use Rattle.solver.specs.Run.{problem_of}
use Rattle.solver.specs.declared.Given.{Given}
use Rattle.state.specs.Fields.{alpha, bound}
use Rattle.state.specs.Lists.{Problem, State, over}
use Rattle.state.specs.Moving.{moved}
use Rattle.state.proofs.Moves.{source, source_below, length_fields, fields_at}
use Rattle.trace.specs.Trace.{start_of}
use Rattle.trace.proofs.Kept.{pair_keeps, runs_keeps, trained_keeps}
use Rattle.trace.proofs.Rests.{same_started, same_reconstructed}
use Rattle.travel.proofs.Travel.{travelled_trained}
use Rattle.update.specs.Pair.{pair, pair_of}
use Rattle.update.specs.Update.{ceiling_in, ceiling, pair_at, updated_state}
use Rattle.update.proofs.Left.{length_updated, alpha_i, alpha_j, alpha_other}
use Rattle.tuning.specs.declared.Tuning.{Tuning}
use Rattle.promises.specs.Fit.{Fit, start_from, r_of, own_weight, weight_after}
use Rattle.promises.specs.Retired.{retired_fit, silent_fit, own_over}
use Rattle.promises.proofs.Home.{served_home, served_at}
use Rattle.promises.proofs.Retired.{taken_left, taken_coded}
use Rattle.promises.proofs.Travel.{Served, ready_start, fresh_start}
use Rattle.std.specs.Prelude.{Ok}

-- ---- a run

module _ (g : Given) (m : List ℕ) (b : List Float) (bounds : (k : ℕ) → k < g.n → Double (bound b k)) where
  abbrev p : Problem
  p = problem_of g m

  record P (s : State) : Type 0 where
    long : 7 * g.n ≤ length s.floats
    at : (k : ℕ) → k < g.n → Double (alpha p s k).value
    top : (k : ℕ) → k < g.n → Double (alpha p s k).upper

  -- whichever ceiling the mode takes
  ceiling_doubled : (s : State) (k : ℕ) → k < g.n → P s → Double (ceiling p g.mode b s k)
  unfolding ceiling_in
  ceiling_doubled s k h w = go (travels g.mode)
    where
      go : (x : Bool) → Double (cond x (alpha p s k).upper (bound b k))
      go true = w.top k h
      go false = bounds k h

  on_rebuilt : (s : State) (a : ℕ) → a ≤ g.n → P s → P (over s (reconstructed p (repaired g.mode) a s))
  on_rebuilt s a l h =
      let e = same_reconstructed p (repaired g.mode) a l (7 * g.n) s in
      record {
        long = rw e.long h.long;
        at = λ k x. rw (e.at (2 * g.n + k) (omega arith) (omega arith)) (h.at k x);
        top = λ k x. rw (e.at (3 * g.n + k) (omega arith) (omega arith)) (h.top k x);
      }

  on_moved : (s : State) (i j : ℕ) → i < g.n → j < g.n → P s → P (moved g.n s i j)
  unfolding moved
  on_moved s i j x y h =
      let long = h.long in
      record {
        long = rw (length_fields nan g.n s.floats i j 5) long;
        at = λ k z. rw (fields_at nan g.n s.floats i j x y 5 2 k (omega arith) (omega arith) z) (h.at (source i j k) (source_below g.n i j k x y z));
        top = λ k z. rw (fields_at nan g.n s.floats i j x y 5 3 k (omega arith) (omega arith) z) (h.top (source i j k) (source_below g.n i j k x y z));
      }

  on_pair : (s : State) (i j a : ℕ) → i < a → j < a → a ≤ g.n → (i ≡ j → ⊥) → P s → P (updated_state p b g.mode g.floor s i j a)
  unfolding pair_at pair_of
  on_pair s i j a x y l d h = record {
    long = rw (length_updated p b g.mode g.floor s i j a) h.long;
    at = λ k z. go k z (ℕ_discrete k i) (ℕ_discrete k j);
    top = λ k z. cap k z (ℕ_discrete k i) (ℕ_discrete k j);
  }
    where
      hi : i < g.n
      hi = omega arith

      hj : j < g.n
      hj = omega arith

      new : Doubled (pair_at p b g.mode g.floor s i j)
      new = step_doubled (pair (weight (alpha p s i).value (ceiling p g.mode b s i)) (weight (alpha p s j).value (ceiling p g.mode b s j)))
          (record { value_i = h.at i hi; value_j = h.at j hj; upper_i = ceiling_doubled s i hi h; upper_j = ceiling_doubled s j hj h }) _ _

      go : (k : ℕ) → k < g.n → Dec (k ≡ i) → Dec (k ≡ j) → Double (alpha p (updated_state p b g.mode g.floor s i j a) k).value
      go k z (yes e) f = rw (e, ap (λ (w : Alpha). w.value) (alpha_i p b g.mode g.floor s i j a hi hj l h.long d)) new.value_i
      go k z (no e) (yes f) = rw (f, ap (λ (w : Alpha). w.value) (alpha_j p b g.mode g.floor s i j a hi hj l h.long)) new.value_j
      go k z (no e) (no f) = rw (ap (λ (w : Alpha). w.value) (alpha_other p b g.mode g.floor s i j a hi hj l h.long k z e f)) (h.at k z)

      cap : (k : ℕ) → k < g.n → Dec (k ≡ i) → Dec (k ≡ j) → Double (alpha p (updated_state p b g.mode g.floor s i j a) k).upper
      cap k z (yes e) f = rw (e, ap (λ (w : Alpha). w.upper) (alpha_i p b g.mode g.floor s i j a hi hj l h.long d)) (ceiling_doubled s i hi h)
      cap k z (no e) (yes f) = rw (f, ap (λ (w : Alpha). w.upper) (alpha_j p b g.mode g.floor s i j a hi hj l h.long)) (ceiling_doubled s j hj h)
      cap k z (no e) (no f) = rw (ap (λ (w : Alpha). w.upper) (alpha_other p b g.mode g.floor s i j a hi hj l h.long k z e f)) (h.top k z)

  module _ (s : State) (room : 7 * g.n ≤ length s.floats) (start : (k : ℕ) → k < g.n → Double (weight_in g.n s.floats k))
      (tops : (k : ℕ) → k < g.n → Double (alpha p s k).upper) where
    started_doubled : P (start_of g m b s).state
    started_doubled =
        let e = same_started p b s in
        record {
          long = rw e.long room;
          at = λ k x. rw (e.at (2 * g.n + k) (omega arith) (omega arith)) (start k x);
          top = λ k x. rw (e.at (3 * g.n + k) (omega arith) (omega arith)) (tops k x);
        }

    runs_doubled : (t k : ℕ) → k < g.n → Double (alpha p (runs g m b (start_of g m b s) t).state k).value
    runs_doubled t = (runs_keeps g m P on_rebuilt on_moved b (pair_keeps g m P b on_pair) (start_of g m b s) t (record { kept = started_doubled; active = omega arith })).kept.at

    trained_doubled : (budget k : ℕ) → k < g.n → Double (weight_in g.n (trained g m b budget s).state.floats k)
    trained_doubled budget = (trained_keeps g m P on_rebuilt on_moved b (pair_keeps g m P b on_pair) budget s started_doubled).kept.at

-- ---- a fit

pub coefficient_doubled : (how : Finish) (label : ℕ) (r x : Float) → Double x → Double (coefficient_of how label r x)
unfolding coefficient_of
coefficient_doubled Plain label r x h = h
coefficient_doubled Signed label r x h = go (eqb label 1)
  where
    go : (b : Bool) → Double (cond b x (neg x))
    go true = h
    go false = neg-fits binary64 x h
coefficient_doubled Scaled label r x h = div-fits binary64 (signed_by label x) r

module _ {k : Fit} {m : List ℕ} {budget : ℕ} {d : Lent} {o : Whole} (v : Served k m budget d o)
    (ceilings : (i : ℕ) → i < k.given.n → Double (get_or k.ceilings i nan)) (weights : (i : ℕ) → i < k.given.n → Double (get_or k.weights i nan)) where
  abbrev g : Given
  g = k.given

  start : (i : ℕ) → i < g.n → Double (weight_in g.n (start_from k m d).floats i)
  start i h = rw (weight_loaded g.n k.ceilings k.weights k.terms d.floats v.room.floats g.n i (omega arith) h) (weights i h)

  tops : (i : ℕ) → i < g.n → Double (alpha (problem_of g m) (start_from k m d) i).upper
  tops i h = rw (ceiling_loaded g.n k.ceilings k.weights k.terms d.floats v.room.floats g.n i (omega arith) h) (ceilings i h)

  -- after t passes, at position i
  pub served_doubles : (t i : ℕ) → i < g.n → Double (weight_after k m d t i)
  served_doubles = runs_doubled g m k.ceilings ceilings (start_from k m d) (ready_start v).floats start tops

  -- and what home answers for sample s
  pub served_own_double : (x : Answer) → o.out ≡ Ok x → (s : ℕ) → s < g.n → Double (own_weight k m d budget s)
  served_own_double x e s h =
      let w = trained g m k.ceilings budget (start_from k m d) in
      let q = (travelled_trained g m k.ceilings budget (start_from k m d) (ready_start v) (fresh_start v)).order in
      rw (sym (served_home v x e s h), served_at v x e s h, home_at nan w.state.numbers (weight_in g.n w.state.floats) d.home g.n s v.room.home q h)
      (coefficient_doubled k.how (get_or k.labels s 0) (r_of k m d budget) (weight_in g.n w.state.floats (q.place s))
      (trained_doubled g m k.ceilings ceilings (start_from k m d) (ready_start v).floats start tops budget (q.place s) (q.inside s h)))

-- ---- a training with retired samples: the code's run has the same weights

module _ {tune : Tuning} {n : ℕ} {r : List ℕ} {nurule : Bool} {eps : Float} {shrinking : Bool} {budget : ℕ} {d : Lent} {x : Input} {o : Whole} (v : Taken tune n r nurule eps shrinking budget d x o)
    (ceilings : (i : ℕ) → i < n → Double (get_or x.ceilings i nan)) (weights : (i : ℕ) → i < n → Double (get_or x.weights i nan)) where
  kept_doubled : (i : ℕ) → i < n → Double (get_or (kept r x.weights n) i nan)
  kept_doubled i h = rw (kept_place r n v.room.most x.weights i h) (cond-fits binary64 (stands_in r i) (get_or x.weights i nan) Weight.zero (weights i h) (of_bits-fits binary64 0))

  abbrev k : Fit
  k = silent_fit tune n x r nurule eps

  silent : Served k x.matrix budget d (fitted k.given k.how x.matrix k.labels k.ceilings k.weights k.terms budget d)
  silent = record { square = refl; room = v.room; usable = taken_usable v; same = refl }

  pub taken_own_double : (s : ℕ) → s < n → Double (own_over (stands_in r) (retired_fit tune n x r nurule eps) x.matrix d budget s)
  taken_own_double s h = rw (sym (taken_left v budget s h), sym (taken_coded v budget s h)) (served_doubles silent ceilings kept_doubled budget s h)
