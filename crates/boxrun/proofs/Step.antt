-- A step of a chosen pair is no NaN, and keeps a run in the box. Assumes nothing.
use Prim.Native.Nat.{ℕ, ◌*◌, ◌≤◌, ◌<◌}
use mathlib.Core.Bool.{Bool, true, false, cond}
use mathlib.Core.List.{List}
use mathlib.Core.Path.{◌≡◌}
use native.Mathlib.Decide.{ℕ_discrete}
use lib.Ieee.{Float}
use lib.ListN.{length}
use Rattle.alpha.specs.Weight.{weight}
use Rattle.boxed.specs.Delta.{delta_at}
use Rattle.boxed.specs.Range.{Held, BothHeld}
use Rattle.boxed.proofs.Pairs.{Plain, pair_in_box}
use Rattle.modes.specs.Modes.{travels}
use Rattle.modes.specs.declared.Mode.{Mode}
use Rattle.rounding.specs.Units.{NotNan}
use Rattle.state.specs.Fields.{alpha, bound}
use Rattle.state.specs.Lists.{Problem, State}
use Rattle.state.proofs.Kept.{ready_floats}
use Rattle.update.specs.Update.{ceiling_in, ceiling, pair_at, updated, updated_state}
use Rattle.update.proofs.Left.{length_updated, alpha_i, alpha_j, alpha_other}
use Rattle.boxrun.specs.Boxed.{OneCeiling, Boxed}
use Rattle.boxrun.proofs.Owned.{Owned, entry_diagonal, entry_row, owned_updated}

module _ {p : Problem} {floor b : Float} {bs : List Float} (o : OneCeiling p floor b bs) {s : State} (w : Boxed b p s) where
  owned : Owned p s
  owned = record { ready = w.lent.ready; own = w.own }

  pub plain : (i j : ℕ) → i < p.n → j < p.n → Plain p s floor i j
  plain i j hi hj = record {
    label_i = w.lent.label i hi;
    label_j = w.lent.label j hj;
    diagonal_i = entry_diagonal o.entries owned i hi;
    diagonal_j = entry_diagonal o.entries owned j hj;
    entry = entry_row o.entries owned i j hi hj;
    above = o.floor_above;
  }

  -- ---- the step

  -- whichever ceiling the mode takes, it is the one
  ceiling_is : (mode : Mode) (k : ℕ) → k < p.n → ceiling p mode bs s k ≡ b
  unfolding ceiling_in
  ceiling_is mode k h = go (travels mode)
    where
      go : (x : Bool) → cond x (alpha p s k).upper (bound bs k) ≡ b
      go true = (w.lent.held k h).upper
      go false = o.places k h

  placed : (mode : Mode) (k : ℕ) → k < p.n → Held b (weight (alpha p s k).value (ceiling p mode bs s k))
  placed mode k h = record { upper = ceiling_is mode k h; value = (w.lent.held k h).value }

  pub boxed_updated : (mode : Mode) (i j a : ℕ) → i < p.n → j < p.n → a ≤ p.n → (i ≡ j → ⊥) → NotNan (delta_at p s floor i j) → Boxed b p (updated_state p bs mode floor s i j a)
  boxed_updated mode i j a hi hj ha d h = record {
    lent = record {
      ready = ready_floats w.lent.ready (updated p bs mode floor s i j a) (length_updated p bs mode floor s i j a);
      held = λ k l. at k l (ℕ_discrete k i) (ℕ_discrete k j);
      label = w.lent.label;
    };
    own = (owned_updated p bs mode floor owned i j a hi hj ha).own;
  }
    where
      long : 7 * p.n ≤ length s.floats
      long = w.lent.ready.floats

      both : BothHeld b (pair_at p bs mode floor s i j)
      both = pair_in_box p s floor i j mode b bs o.ceiling (placed mode i hi) (placed mode j hj) h

      at : (k : ℕ) → k < p.n → Dec (k ≡ i) → Dec (k ≡ j) → Held b (alpha p (updated_state p bs mode floor s i j a) k)
      at k l (yes e) y = rw (e, alpha_i p bs mode floor s i j a hi hj ha long d) (record { upper = ceiling_is mode i hi; value = both.i.value })
      at k l (no e) (yes f) = rw (f, alpha_j p bs mode floor s i j a hi hj ha long) (record { upper = ceiling_is mode j hj; value = both.j.value })
      at k l (no e) (no f) = rw (alpha_other p bs mode floor s i j a hi hj ha long k l e f) (w.lent.held k l)
