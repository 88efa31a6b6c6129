-- What stays with a sample through a whole run. Assumes nothing.
--
-- Main theorems:
--   started_stays: a start moves no sample; nor does a reconstruction (`reconstructed_stays`) or an update (`updated_stays`)
--   fresh_travelled: in lists as lent each sample has what was lent for it
--   travelled_runs: what each sample has with it, it has after any number of passes; `travelled_look`: and at the last look of a pass
--   travelled_from: from lists as lent: each sample has the kernel index, the label and the linear term that were lent for it
--   travelled_trained: and so when the run has ended
--   counted_moves: before its look a pass moves samples by one rearrangement at the most
--   pass_stays: and not at all from there on
use Prim.Native.Nat.{ℕ, ◌+◌, ◌-◌, ◌*◌, ◌≤◌, ◌<◌}
use mathlib.Core.Bool.{Bool, true, false, not, ◌&&◌, cond}
use mathlib.Core.List.{List}
use mathlib.Core.Logic.{inl, inr}
use mathlib.Core.Path.{◌≡◌, refl, sym, ◌∙◌}
use native.Mathlib.Omega.{arith}
use lib.Dec.{ltb}
use lib.Ieee.{Float, nan, binary64, mul, le}
use lib.ListN.{get_or}
use Rattle.std.specs.Prelude.{Option, Some, None}
use Rattle.modes.specs.Modes.{repaired}
use Rattle.modes.specs.declared.Mode.{Mode}
use Rattle.reconstruct.specs.Reconstruct.{reconstructed}
use Rattle.solver.specs.End.{trained}
use Rattle.solver.specs.Pass.{ten, chosen, rebuilt, refreshed, tops_of, restored, walked_from, shrunk, counted_down, passed, runs}
use Rattle.solver.specs.Run.{problem_of, Full, with_run, counter_at, reopened, period}
use Rattle.solver.specs.declared.Given.{Given}
use Rattle.solver.proofs.Laws.{chosen_below}
use Rattle.start.specs.Start.{started}
use Rattle.state.specs.Lists.{Problem, State, Ready, over}
use Rattle.state.specs.Moving.{moved}
use Rattle.state.proofs.Kept.{ready_floats, ready_moved}
use Rattle.trace.specs.Trace.{look_by, look_at, pair_from, start_of}
use Rattle.trace.proofs.Kept.{Keeps, rebuilt_keeps, refreshed_keeps, counted_keeps, look_keeps, pair_keeps, runs_keeps, trained_keeps}
use Rattle.trace.proofs.Passes.{pair_look, pass_steps, pass_ends}
use Rattle.trace.proofs.Rests.{same_started, same_reconstructed}
use Rattle.update.specs.Update.{updated, updated_state}
use Rattle.update.proofs.Left.{length_updated, behind}
use Rattle.travel.specs.Travel.{Fresh, Travelled, Rearranged, Stays}
use Rattle.travel.proofs.Rearranged.{rearranged_none, rearranged_moved, one_rearrangement, travelled_rearranged}

-- ---- what moves no sample

stays_none : (n : ℕ) (s : State) → Stays n s s
stays_none n s = record { numbers = refl; labels = refl; long = refl; terms = λ k c. refl }

stays_more : (n : ℕ) (s t u : State) → Stays n s t → Stays n t u → Stays n s u
stays_more n s t u x y =
    record {
      numbers = y.numbers ∙ x.numbers;
      labels = y.labels ∙ x.labels;
      long = y.long ∙ x.long;
      terms = λ k c. y.terms k c ∙ x.terms k c;
    }

module _ (p : Problem) (s : State) where
  pub started_stays : (b : List Float) → Stays p.n s (over s (started p b s))
  started_stays b =
      let e = same_started p b s in
      record { numbers = refl; labels = refl; long = e.long; terms = λ k c. e.at (4 * p.n + k) (omega arith) (omega arith) }

  pub reconstructed_stays : (x : Bool) (a : ℕ) → a ≤ p.n → Stays p.n s (over s (reconstructed p x a s))
  reconstructed_stays x a l =
      let e = same_reconstructed p x a l (5 * p.n) s in
      record { numbers = refl; labels = refl; long = e.long; terms = λ k c. e.at (4 * p.n + k) (omega arith) (omega arith) }

  pub updated_stays : (b : List Float) (mode : Mode) (floor : Float) (i j a : ℕ) → i < a → j < a → a ≤ p.n → Ready p s → Stays p.n s (updated_state p b mode floor s i j a)
  updated_stays b mode floor i j a x y l r =
      record {
        numbers = refl;
        labels = refl;
        long = length_updated p b mode floor s i j a;
        terms = λ k c. behind p b mode floor s i j a (omega arith) (omega arith) l r.floats (4 * p.n + k) (omega arith);
      }

-- ---- ready, and with each sample what is its own

module _ (p : Problem) (labels : ℕ → ℕ) (terms : ℕ → Float) where
  pub record Settled (s : State) : Type 0 where
    pub ready : Ready p s
    pub travelled : Travelled p.n labels terms s

  pub settled_stays : (s : State) (f : List Float) → Stays p.n s (over s f) → Settled s → Settled (over s f)
  settled_stays s f e w =
      record {
        ready = ready_floats w.ready f e.long;
        travelled = record {
          order = w.travelled.order;
          paired = w.travelled.paired;
          label = w.travelled.label;
          term = λ k c. e.terms k c ∙ w.travelled.term k c;
        };
      }

  settled_moved : (s : State) (i j : ℕ) → i < p.n → j < p.n → Settled s → Settled (moved p.n s i j)
  settled_moved s i j a b w =
      let r = ready_moved w.ready i j a b in
      let l = r.indexed.long in
      record {
        ready = r;
        travelled = travelled_rearranged p labels terms s (moved p.n s i j) (omega arith)
            (rearranged_moved p s s i j a b w.ready (rearranged_none p s)) w.travelled;
      }

pub fresh_travelled : (p : Problem) (s : State) → Ready p s → Fresh p.n s
    → Travelled p.n (λ k. get_or s.labels k 0) (λ k. get_or s.floats (4 * p.n + k) nan) s
fresh_travelled p s r h =
    let l = r.indexed.long in
    record {
      order = record {
        within = record { long = omega arith; below = λ k c. rw (h.order k c) c };
        place = λ q. q;
        inside = λ q c. c;
        there = λ q c. h.order q c;
        only = λ k c. h.order k c;
      };
      paired = record { same = λ k c. h.order k c ∙ sym (h.index k c) };
      label = λ k c. rw (h.order k c);
      term = λ k c. rw (h.order k c);
    }

module _ (g : Given) (m : List ℕ) (b : List Float) (labels : ℕ → ℕ) (terms : ℕ → Float) where
  abbrev p : Problem
  p = problem_of g m

  abbrev S : State → Type 0
  S = Settled p labels terms

  by_rebuilt : (s : State) (a : ℕ) → a ≤ g.n → S s → S (over s (reconstructed p (repaired g.mode) a s))
  by_rebuilt s a l = settled_stays p labels terms s (reconstructed p (repaired g.mode) a s) (reconstructed_stays p s (repaired g.mode) a l)

  by_updated : (s : State) (i j a : ℕ) → i < a → j < a → a ≤ g.n → (i ≡ j → ⊥) → S s → S (updated_state p b g.mode g.floor s i j a)
  by_updated s i j a x y l d w = settled_stays p labels terms s (updated p b g.mode g.floor s i j a) (updated_stays p s b g.mode g.floor i j a x y l w.ready) w

  -- at each point of a run
  pub travelled_runs : (w : Full) (t : ℕ) → w.run.active ≤ g.n → Ready p w.state → Travelled g.n labels terms w.state
      → Travelled g.n labels terms (runs g m b w t).state
  travelled_runs w t h r k =
      (runs_keeps g m S by_rebuilt (settled_moved p labels terms) b (pair_keeps g m S b by_updated) w t
      (record { kept = record { ready = r; travelled = k }; active = h })).kept.travelled

  -- and where a pass takes its last look
  pub travelled_look : (w : Full) → w.run.active ≤ g.n → Ready p w.state → Travelled g.n labels terms w.state
      → Travelled g.n labels terms (look_at g m (counted_down g m w)).state
  travelled_look w h r k =
      (look_keeps g m S by_rebuilt (settled_moved p labels terms) (counted_down g m w)
      (counted_keeps g m S by_rebuilt (settled_moved p labels terms) w (record { kept = record { ready = r; travelled = k }; active = h }))).kept.travelled

  trained_settled : (budget : ℕ) (s : State) → S s → S (trained g m b budget s).state
  trained_settled budget s k =
      (trained_keeps g m S by_rebuilt (settled_moved p labels terms) b (pair_keeps g m S b by_updated) budget s
      (settled_stays p labels terms s (started p b s) (started_stays p s b) k)).kept

-- from lists as lent, after any number of passes: each sample has the kernel index, the label and the linear term that were lent for it
pub travelled_from : (g : Given) (m : List ℕ) (b : List Float) (s : State) (t : ℕ) → Ready (problem_of g m) s → Fresh g.n s
    → Travelled g.n (λ k. get_or s.labels k 0) (λ k. get_or s.floats (4 * g.n + k) nan) (runs g m b (start_of g m b s) t).state
travelled_from g m b s t r h =
    let p = problem_of g m in
    let x : ℕ → ℕ = λ k. get_or s.labels k 0 in
    let y : ℕ → Float = λ k. get_or s.floats (4 * g.n + k) nan in
    let w = settled_stays p x y s (started p b s) (started_stays p s b) (record { ready = r; travelled = fresh_travelled p s r h }) in
    travelled_runs g m b x y (start_of g m b s) t (omega arith) w.ready w.travelled

-- and when the run has ended
pub travelled_trained : (g : Given) (m : List ℕ) (b : List Float) (budget : ℕ) (s : State) → Ready (problem_of g m) s → Fresh g.n s
    → Travelled g.n (λ k. get_or s.labels k 0) (λ k. get_or s.floats (4 * g.n + k) nan) (trained g m b budget s).state
travelled_trained g m b budget s r h =
    (trained_settled g m b (λ k. get_or s.labels k 0) (λ k. get_or s.floats (4 * g.n + k) nan) budget s
    (record { ready = r; travelled = fresh_travelled (problem_of g m) s r h })).travelled

-- ---- one pass: one rearrangement, where it shrinks, and nothing else moves a sample

module _ (g : Given) (m : List ℕ) where
  abbrev q : Problem
  q = problem_of g m

  -- ready, with an active count of n at the most
  abbrev pub ReadyRun : Full → Type 0
  ReadyRun = Keeps g (Ready q)

  ready_rebuilt : (s : State) (a : ℕ) → a ≤ g.n → Ready q s → Ready q (over s (reconstructed q (repaired g.mode) a s))
  ready_rebuilt s a l r = ready_floats r (reconstructed q (repaired g.mode) a s) (reconstructed_stays q s (repaired g.mode) a l).long

  ready_move : (s : State) (i j : ℕ) → i < g.n → j < g.n → Ready q s → Ready q (moved g.n s i j)
  ready_move s i j a b r = ready_moved r i j a b

  rebuilt_stays : (w : Full) → ReadyRun w → Stays g.n w.state (rebuilt g m w).state
  unfolding rebuilt
  rebuilt_stays w k = reconstructed_stays q w.state (repaired g.mode) w.run.active k.active

  refreshed_stays : (w : Full) → ReadyRun w → Stays g.n w.state (refreshed g m w).state
  unfolding refreshed
  refreshed_stays w k = rebuilt_stays w k

  -- before the walk no sample moves, and the walk is one rearrangement
  pub record Shrinks (s t : State) : Type 0 where
    pub before : State
    pub stays : Stays g.n s before
    pub moves : Rearranged q before t

  shrinks_none : (s : State) → Shrinks s s
  shrinks_none s = record { before = s; stays = stays_none g.n s; moves = rearranged_none q s }

  restored_stays : (level : Float) (w : Full) → ReadyRun w → Stays g.n w.state (restored g m level w).state × ReadyRun (restored g m level w)
  unfolding restored
  restored_stays level w k = go (not w.run.unshrink && le level (mul binary64 g.eps ten))
    where
      go : (x : Bool) → Stays g.n w.state (cond x (with_run (rebuilt g m w) (reopened w.run g.n)) w).state
          × ReadyRun (cond x (with_run (rebuilt g m w) (reopened w.run g.n)) w)
      go true = (
        rebuilt_stays w k,
        record { kept = (rebuilt_keeps g m (Ready q) ready_rebuilt ready_move w k).kept; active = omega arith },
      )
      go false = (stays_none g.n w.state, k)

  shrunk_moves : (w : Full) → ReadyRun w → Shrinks w.state (shrunk g m w).state
  unfolding shrunk walked_from
  shrunk_moves w k =
      let t = tops_of g m w in
      let v = restored g m t.level w in
      let e = restored_stays t.level w k in
      record { before = v.state; stays = e.0; moves = one_rearrangement q t.limits v.run.active v.state e.1.active e.1.kept }

  pub counted_moves : (w : Full) → ReadyRun w → Shrinks w.state (counted_down g m w).state
  unfolding counted_down
  counted_moves w k = go (ltb 0 (w.run.counter - 1)) g.shrinking
    where
      v : Full
      v = with_run w (counter_at w.run (period g.n))

      go : (x y : Bool) → Shrinks w.state (cond x (with_run w (counter_at w.run (w.run.counter - 1))) (cond y (shrunk g m v) v)).state
      go true y = shrinks_none w.state
      go false true = shrunk_moves v (record { kept = k.kept; active = k.active })
      go false false = shrinks_none w.state

  counted_fit : (w : Full) → ReadyRun w → ReadyRun (counted_down g m w)
  counted_fit w k = counted_keeps g m (Ready q) ready_rebuilt ready_move w k

  look_fit : (v : Full) (c : Option (ℕ × ℕ)) → ReadyRun v → Stays g.n v.state (look_by g m v c).state × Ready q (look_by g m v c).state
  unfolding look_by
  look_fit v (Some (i, j)) k = (stays_none g.n v.state, k.kept)
  look_fit v None k = (refreshed_stays v k, (refreshed_keeps g m (Ready q) ready_rebuilt ready_move v k).kept)

  -- looks, reconstruction and update
  pub pass_stays : (b : List Float) (w : Full) → ReadyRun w → Stays g.n (counted_down g m w).state (passed g m b w).state
  pass_stays b w k = go (pair_from g m w) refl
    where
      v : Full
      v = counted_down g m w

      go : (c : Option (ℕ × ℕ)) → pair_from g m w ≡ c → Stays g.n v.state (passed g m b w).state
      go (Some (i, j)) e =
          let u = look_at g m v in
          let x = look_fit v (chosen g m v) (counted_fit w k) in
          let l = chosen_below g m u i j (pair_look g m w i j e) in
          let few = (look_keeps g m (Ready q) ready_rebuilt ready_move v (counted_fit w k)).active in
          rw (pass_steps g m b w i j e).state
          (stays_more g.n v.state u.state _ x.0 (updated_stays q u.state b g.mode g.floor i j u.run.active l.0 l.1 (omega arith) x.1))
      go None e = elim (pass_ends g m b w e) [
        | inl z ↦ rw z.1 (stays_none g.n v.state)
        | inr z ↦ rw z.state (refreshed_stays v (counted_fit w k))
      ]
