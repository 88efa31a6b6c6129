-- What a stop tells of the sums of the extremes, where the entries are of magnitude 2^1000 at the most: by them the rule stops, or none is
-- above 0 (`stop_quiet`). Assumes nothing.
use Prim.Native.Nat.{ℕ, ◌*◌, ◌≤◌, ◌<◌}
use mathlib.Core.Bool.{Bool, true, false, ◌&&◌}
use mathlib.Core.List.{List}
use mathlib.Core.Logic.{inl, inr}
use mathlib.Core.Path.{◌≡◌, refl}
use native.Mathlib.Omega.{arith}
use lib.Dec.{T}
use lib.Ieee.{Float, nan, inf, fin, binary64, add, sub, lt}
use lib.Ieee.Fits.{and_i, and_l, and_r}
use Rattle.alpha.specs.Weight.{zero}
use Rattle.boxed.specs.Range.{Entry, Divides}
use Rattle.boxed.proofs.Gain.{gain_number}
use Rattle.choose_nu.specs.Choice.{of_label}
use Rattle.extreme.specs.Rule.{Top}
use Rattle.partner.specs.Curvature.{gap_of}
use Rattle.partner.specs.Rule.{NoSecond, Sum}
use Rattle.partner.specs.Second.{agree, gap, gain_of}
use Rattle.partner.specs.Sides.{may_fall, rise, fall, fall_of}
use Rattle.rounding.specs.Units.{NotNan}
use Rattle.rounding.proofs.Binary64.{zero_is}
use Rattle.solver.specs.Run.{problem_of}
use Rattle.solver.specs.declared.Given.{Given}
use Rattle.state.specs.Fields.{gradient, diagonal, row, positive}
use Rattle.state.specs.Lists.{Problem, State}
use Rattle.trace.specs.Rule.{Rises, Falls, NoPair}
use Rattle.trace.proofs.Rule.{sums_by, sum_by, sums_are}
use Rattle.wire.specs.Wire.{float_at}
use Rattle.boxrun.specs.Quiet.{Quiet}
use Rattle.boxrun.proofs.Owned.{Owned, entry_diagonal, entry_row}

-- a sum with minus infinity isn't above 0
low_left : (y : Float) → T (lt zero (add binary64 (inf true) y)) → ⊥
unfolding add lt
low_left nan t = rw zero_is at t
low_left (inf true) t = rw zero_is at t
low_left (inf false) t = rw zero_is at t
low_left (fin s m e) t = rw zero_is at t

low_right : (x : Float) → T (lt zero (add binary64 x (inf true))) → ⊥
unfolding add lt
low_right nan t = rw zero_is at t
low_right (inf true) t = rw zero_is at t
low_right (inf false) t = rw zero_is at t
low_right (fin s m e) t = rw zero_is at t

-- d of a position is the lead's value and its fall, added
gap_is : (pos : Bool) (top g : Float) → gap_of pos top g ≡ add binary64 top (fall_of pos g)
unfolding sub
gap_is true top g = refl
gap_is false top g = refl

label_is : (t pos : Bool) → T (of_label t pos) → t ≡ pos
label_is true true h = refl
label_is true false h = absurd h
label_is false true h = absurd h
label_is false false h = refl

unequal : (b : Bool) → (T b → ⊥) → b ≡ false
unequal true h = absurd (h tt)
unequal false h = refl

module _ (stands : ℕ → Bool) (g : Given) (m : List ℕ) (s : State) (a : ℕ) (few : a ≤ g.n) (entries : (k : ℕ) → k < g.side * g.side → Entry (float_at m (8 * k))) (floor : Divides g.floor)
    (w : Owned (problem_of g m) s) where
  abbrev p : Problem
  p = problem_of g m

  -- who holds a label's fall stands, may fall, and is of that label where the nu rule holds: so the holder of its label's rise is the one of t
  holder : (nu t : Bool) (i j : ℕ) → Rises stands g m s a nu t i → Falls stands g m s a nu t j → (i < a) × (j < a) × Rises stands g m s a nu (positive s j) i × T (stands j && may_fall p s j)
  holder true t i j r f =
      let o = and_r (stands j) (of_label t (positive s j) && may_fall p s j) f.eligible in (
        r.inside,
        f.inside,
        rw (label_is t (positive s j) (and_l (of_label t (positive s j)) (may_fall p s j) o)) at r,
        and_i (stands j) (may_fall p s j) (and_l (stands j) (of_label t (positive s j) && may_fall p s j) f.eligible) (and_r (of_label t (positive s j)) (may_fall p s j) o),
      )
  holder false t i j r f = (r.inside, f.inside, r, f.eligible)

  gain_there : (i j : ℕ) → i < a → j < a → T (lt zero (gap p s (rise p s i) j)) → NotNan (gain_of p s g.floor (rise p s i) i j)
  gain_there i j hi hj h =
      gain_number (agree s i j) (diagonal p s i) (diagonal p s j) (row p s i j) g.floor
      (entry_diagonal entries w i (omega arith)) (entry_diagonal entries w j (omega arith)) (entry_row entries w i j (omega arith) (omega arith)) floor (gap p s (rise p s i) j) h

  -- with nobody to follow no sum is above 0
  not_above : (nu t : Bool) → NoSecond stands p s g.floor a (Rises stands g m s a nu) → (x : Float) → Sum p s (Rises stands g m s a nu t) (Falls stands g m s a nu t) x → T (lt zero x) → ⊥
  not_above nu t none x w h = go w.up w.down w.rises w.falls (rw w.sum at h)
    where
      go : (u d : Float) → Top (Rises stands g m s a nu t) (rise p s) u → Top (Falls stands g m s a nu t) (fall p s) d → T (lt zero (add binary64 u d)) → ⊥
      go u d (inr (z, q)) f h = low_left d (rw q at h)
      go u d (inl r) (inr (z, q)) h = low_right u (rw q at h)
      go u d (inl (i, r, q)) (inl (j, f, e)) h =
          let o = holder nu t i j r f in
          let ahead : T (lt zero (gap p s (rise p s i) j)) = rw (gap_is (positive s j) (rise p s i) (gradient p s j)) (rw (q, e) at h) in
          none i j o.1 (record { led = o.2; falls = o.3; ahead = ahead }) (gain_there i j o.0 o.1 ahead)

  pub stop_quiet : NoPair stands g m s a → Quiet stands g m s a
  stop_quiet (inl l) = record { sums = l.sums; each = l.each; tells = inl l.tells }
  stop_quiet (inr none) =
      record {
        sums = sums_by stands g m s a g.nu;
        each = sum_by stands g m s a g.nu;
        tells = inr (λ t. unequal _ (not_above g.nu t none (sums_by stands g m s a g.nu t) (sum_by stands g m s a g.nu t)));
      }

-- the sums it speaks of are the extremes' own, to the bit: there is one Quiet
pub quiet_sums : (stands : ℕ → Bool) (g : Given) (m : List ℕ) (s : State) (a : ℕ) (q : Quiet stands g m s a) (t : Bool) → sums_by stands g m s a g.nu t ≡ q.sums t
quiet_sums stands g m s a q t = sums_are stands g m s a g.nu t (q.sums t) (q.each t)
