-- At each point of a run, whatever its ceilings, the diagonal field is the matrix's; so every entry that the rule reads is of magnitude 2^1000 at the
-- most: `trained_owned`, `entry_diagonal`, `entry_row`. Assumes nothing.
use Prim.Native.Nat.{ℕ, zero, suc, ◌+◌, ◌*◌, ◌≤◌, ◌<◌}
use mathlib.Core.Bool.{Bool, true, false}
use mathlib.Core.List.{List}
use mathlib.Core.Path.{◌≡◌, ◌∙◌}
use native.Mathlib.Decide.{ℕ_discrete}
use native.Mathlib.Omega.{arith}
use lib.Dec.{T}
use lib.Ieee.{Float, nan, Format, binary64, neg, le}
use lib.ListN.{length, get_or, set}
use lib.Seq.{get_or-set_same, get_or-set_other}
use Rattle.alpha.specs.Weight.{limit}
use Rattle.boxed.specs.Range.{Entry}
use Rattle.kernel.specs.Matrix.{entry_at}
use Rattle.kernel.specs.Row.{kernel_index, alike_of, signed_of, row_at}
use Rattle.kernel.proofs.Inside.{inside}
use Rattle.modes.specs.Modes.{repaired}
use Rattle.modes.specs.declared.Mode.{Mode}
use Rattle.reconstruct.specs.Reconstruct.{reconstructed}
use Rattle.rounding.specs.Units.{Number}
use Rattle.rounding.proofs.Binary64.{limit_parts}
use Rattle.rounding.proofs.Order.{le_real}
use Rattle.rounding.proofs.Units.{compare, neg_parts}
use Rattle.solver.specs.End.{trained}
use Rattle.solver.specs.Pass.{runs}
use Rattle.solver.specs.Run.{problem_of}
use Rattle.solver.specs.declared.Given.{Given}
use Rattle.start.specs.Start.{laid_to, diagonal_to, gathered_to, started}
use Rattle.state.specs.Fields.{diagonal, row}
use Rattle.state.specs.Lists.{Problem, State, Ready, over}
use Rattle.state.specs.Moving.{moved}
use Rattle.state.proofs.Kept.{ready_floats, ready_moved}
use Rattle.state.proofs.Moves.{fields_behind}
use Rattle.trace.specs.Trace.{start_of}
use Rattle.trace.proofs.Kept.{Keeps, pair_keeps, runs_keeps, trained_keeps}
use Rattle.trace.proofs.Rests.{Same, same_laid, same_diagonal, same_gathered, same_reconstructed}
use Rattle.update.specs.Update.{updated, updated_state}
use Rattle.update.proofs.Left.{length_updated, behind}
use Rattle.wire.specs.Wire.{float_at}

-- ready, and the diagonal in its field
pub record Owned (p : Problem) (s : State) : Type 0 where
  pub ready : Ready p s
  pub own : (c : ℕ) → c < p.side → get_or s.floats (5 * p.n + c) nan ≡ entry_at p.side p.matrix c c

-- ---- entries of the matrix and of a row

module _ (f : Format) (x l : Float) (nx : Number f x) (nl : Number f l) where
  below_neg : T (le x l) → T (le (neg l) (neg x))
  below_neg h =
      let a = neg_parts f x nx in
      let b = neg_parts f l nl in
      let c = (compare f x l nx nl).most.0 h in
      (compare f (neg l) (neg x) b.number a.number).most.1 (omega (arith, a, b))

  above_neg : T (le (neg l) x) → T (le (neg x) l)
  above_neg h =
      let a = neg_parts f x nx in
      let b = neg_parts f l nl in
      let c = (compare f (neg l) x b.number nx).most.0 h in
      (compare f (neg x) l a.number nl).most.1 (omega (arith, a, b))

entry_neg : (x : Float) → Entry x → Entry (neg x)
entry_neg x e =
    let n : Number binary64 x = record { fit = e.fit; real = (le_real x limit e.high).0 } in
    record {
      fit = (neg_parts binary64 x n).number.fit;
      low = below_neg binary64 x limit n limit_parts.number e.high;
      high = above_neg binary64 x limit n limit_parts.number e.low;
    }

entry_signed : (t : Bool) (x : Float) → Entry x → Entry (signed_of t x)
entry_signed true x e = e
entry_signed false x e = entry_neg x e

module _ {p : Problem} (entries : (k : ℕ) → k < p.side * p.side → Entry (float_at p.matrix (8 * k))) {s : State} (w : Owned p s) where
  entry_at_law : (c r : ℕ) → c < p.side → r < p.side → Entry (entry_at p.side p.matrix c r)
  entry_at_law c r hc hr = entries (c * p.side + r) (inside w.ready.matrix c r hc hr).entry

  pub entry_diagonal : (k : ℕ) → k < p.n → Entry (diagonal p s k)
  entry_diagonal k h =
      let c = kernel_index p.n s.numbers k in
      let l = w.ready.indexed.below k h in
      rw (w.own c l) (entry_at_law c c l l)

  pub entry_row : (i k : ℕ) → i < p.n → k < p.n → Entry (row p s i k)
  unfolding row_at
  entry_row i k hi hk =
      entry_signed (alike_of p.kind (get_or s.labels i 0) (get_or s.labels k 0)) (entry_at p.side p.matrix (kernel_index p.n s.numbers i) (kernel_index p.n s.numbers k))
      (entry_at_law (kernel_index p.n s.numbers i) (kernel_index p.n s.numbers k) (w.ready.indexed.below i hi) (w.ready.indexed.below k hk))

-- ---- what keeps it

module _ (p : Problem) (f : List Float) where
  abbrev n : ℕ
  n = p.n

  abbrev side : ℕ
  side = p.side

  abbrev m : List ℕ
  m = p.matrix

  long : (c : ℕ) → length (diagonal_to n side m f c) ≡ length f
  long c = (same_diagonal p f c).long

  pub diagonal_own : (c k : ℕ) → k < c → 5 * n + c ≤ length f → get_or (diagonal_to n side m f c) (5 * n + k) nan ≡ entry_at side m k k
  unfolding diagonal_to
  diagonal_own zero k h l = let z : ⊥ = omega arith in absurd z
  diagonal_own (suc c) k h l = go (diagonal_own c k) (ℕ_discrete k c)
    where
      go : (k < c → 5 * n + c ≤ length f → get_or (diagonal_to n side m f c) (5 * n + k) nan ≡ entry_at side m k k) → Dec (k ≡ c)
          → get_or (set (diagonal_to n side m f c) (5 * n + c) (entry_at side m c c)) (5 * n + k) nan ≡ entry_at side m k k
      go before (yes e) =
          rw e (get_or-set_same (diagonal_to n side m f c) (5 * n + c) (entry_at side m c c) nan (rw (long c) (omega arith)))
      go before (no e) =
          get_or-set_other (diagonal_to n side m f c) (5 * n + c) (5 * n + k) (entry_at side m c c) nan (λ q. e (omega arith))
          ∙ before (omega arith) (omega arith)

module _ {p : Problem} {s : State} (f : List Float) {hi : ℕ} (e : Same (2 * p.n) hi s.floats f) where
  pub owned_kept : 5 * p.n + p.side ≤ hi → Owned p s → Owned p (over s f)
  owned_kept l w = record { ready = ready_floats w.ready f e.long; own = λ c h. e.at (5 * p.n + c) (omega arith) (omega arith) ∙ w.own c h }

pub owned_reconstructed : {p : Problem} (s : State) (x : Bool) (a : ℕ) → a ≤ p.n → Owned p s → Owned p (over s (reconstructed p x a s))
owned_reconstructed {p} s x a l w =
    let e = same_reconstructed p x a l (5 * p.n + p.side) s in
    owned_kept {p = p} {s = s} (reconstructed p x a s) (record { long = e.long; at = λ q x y. e.at q (omega arith) y }) (omega arith) w

pub owned_moved : {p : Problem} {s : State} → Owned p s → (i j : ℕ) → i < p.n → j < p.n → Owned p (moved p.n s i j)
unfolding moved
owned_moved {p} {s} w i j hi hj =
    let long = w.ready.floats in
    record {
      ready = unfold moved in ready_moved w.ready i j hi hj;
      own = λ c h. let q = w.ready.square in fields_behind nan p.n s.floats i j hi hj 5 (5 * p.n + c) (omega arith) (omega arith) ∙ w.own c h;
    }

pub owned_updated : (p : Problem) (bs : List Float) (mode : Mode) (floor : Float) {s : State} → Owned p s → (i j a : ℕ) → i < p.n → j < p.n → a ≤ p.n → Owned p (updated_state p bs mode floor s i j a)
owned_updated p bs mode floor {s} w i j a hi hj ha = record {
  ready = ready_floats w.ready (updated p bs mode floor s i j a) (length_updated p bs mode floor s i j a);
  own = λ c l. behind p bs mode floor s i j a hi hj ha w.ready.floats (5 * p.n + c) (omega arith) ∙ w.own c l;
}

pub owned_started : (p : Problem) (bs : List Float) {s : State} → Ready p s → Owned p (over s (started p bs s))
unfolding started
owned_started p bs {s} w =
    let hi = 5 * p.n + p.side in
    let f = laid_to p.n s.floats p.n in
    let g = diagonal_to p.n p.side p.matrix f p.side in
    let r = ready_floats (ready_floats w f (same_laid p hi s.floats p.n (omega arith)).long) g (same_diagonal p f p.side).long in
    let l = (same_laid p hi s.floats p.n (omega arith)).long in
    let t = over s g in
    owned_kept {p = p} {s = t} (gathered_to p bs t p.n) (same_gathered p hi bs t p.n) (omega arith)
    (record { ready = r; own = λ c h. let a = w.floats in let q = w.square in diagonal_own p f p.side c h (omega arith) })

-- at each point of a run
pub runs_owned : (g : Given) (m : List ℕ) (bs : List Float) (t : ℕ) (s : State) → Ready (problem_of g m) s → Keeps g (Owned (problem_of g m)) (runs g m bs (start_of g m bs s) t)
runs_owned g m bs t s r =
    runs_keeps g m (Owned (problem_of g m)) (λ t a l w. owned_reconstructed t (repaired g.mode) a l w) (λ t i j x y w. owned_moved w i j x y) bs
    (pair_keeps g m (Owned (problem_of g m)) bs (λ t i j a x y l d w. owned_updated (problem_of g m) bs g.mode g.floor w i j a (omega arith) (omega arith) l))
    (start_of g m bs s) t (record { kept = owned_started (problem_of g m) bs r; active = omega arith })

-- and at its end
pub trained_owned : (g : Given) (m : List ℕ) (bs : List Float) (budget : ℕ) (s : State) → Ready (problem_of g m) s → Keeps g (Owned (problem_of g m)) (trained g m bs budget s)
trained_owned g m bs budget s r =
    trained_keeps g m (Owned (problem_of g m)) (λ t a l w. owned_reconstructed t (repaired g.mode) a l w) (λ t i j x y w. owned_moved w i j x y) bs
    (pair_keeps g m (Owned (problem_of g m)) bs (λ t i j a x y l d w. owned_updated (problem_of g m) bs g.mode g.floor w i j a (omega arith) (omega arith) l))
    budget s (owned_started (problem_of g m) bs r)
