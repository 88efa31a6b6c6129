-- A run leaves what lies behind its scratch, and the labels, as they were. Assumes nothing.
use Prim.Native.Nat.{ℕ, zero, suc, ◌+◌, ◌*◌, ◌<◌, ◌≤◌}
use mathlib.Core.Bool.{Bool, true, false, true≢false}
use mathlib.Core.List.{List}
use mathlib.Core.Path.{◌≡◌, refl, sym, ap, ◌∙◌}
use native.Mathlib.Omega.{arith}
use lib.Ieee.{Float, nan}
use lib.ListN.{length, get_or}
use lib.Seq.{get_or-set_other}
use Rattle.std.specs.Prelude.{Option, Some, None}
use Rattle.solver.specs.Pass.{stepped}
use Rattle.solver.specs.Run.{problem_of, Full, full, goes, ready_of}
use Rattle.solver.specs.declared.Given.{Given}
use Rattle.start.specs.Start.{laid_to, diagonal_to, started}
use Rattle.state.specs.Lists.{Problem, State, Ready, over}
use Rattle.trace.proofs.Rests.{same_laid, same_gathered, same_started}
use Rattle.update.proofs.Left.{length_updated, behind, alpha_other}
use Rattle.alpha.specs.declared.Alpha.{Alpha}
use Rattle.standing.specs.Run.{chosen_over, passed_on, next_over, runs_over, trained_over}
use Rattle.standing.proofs.Off.{alike_self}
use Rattle.standing.proofs.Runs.{chosen_stands}

-- as long as f, and the same from 7n on
pub record Behind (n : ℕ) (f h : List Float) : Type 0 where
  pub long : length h ≡ length f
  pub at : (k : ℕ) → 7 * n ≤ k → get_or h k nan ≡ get_or f k nan

diagonal_behind : (p : Problem) (f : List Float) (c k : ℕ) → c ≤ p.n → 6 * p.n ≤ k → get_or (diagonal_to p.n p.side p.matrix f c) k nan ≡ get_or f k nan
unfolding diagonal_to
diagonal_behind p f zero k l h = refl
diagonal_behind p f (suc c) k l h =
    get_or-set_other (diagonal_to p.n p.side p.matrix f c) (5 * p.n + c) k _ nan (λ e. omega arith) ∙ diagonal_behind p f c k (omega arith) h

pub started_behind : (p : Problem) (b : List Float) (s : State) → p.side ≤ p.n → Behind p.n s.floats (started p b s)
unfolding started
started_behind p b s l =
    let f = laid_to p.n s.floats p.n in
    record {
      long = (same_started p b s).long;
      at = λ k h.
          (same_gathered p (suc k) b (over s (diagonal_to p.n p.side p.matrix f p.side)) p.n).at k (omega arith) (omega arith)
          ∙ diagonal_behind p f p.side k l (omega arith)
          ∙ (same_laid p (suc k) s.floats p.n (omega arith)).at k (omega arith) (omega arith);
    }

module _ (stands : ℕ → Bool) (g : Given) (m : List ℕ) (b : List Float) where
  abbrev p : Problem
  p = problem_of g m

  -- what a run keeps of the lists f and y
  pub record Rests (f : List Float) (y : List ℕ) (w : Full) : Type 0 where
    pub floats : Behind g.n f w.state.floats
    pub labels : w.state.labels ≡ y
    pub active : w.run.active ≡ g.n
    -- and the weight of what is retired
    pub gone : (k : ℕ) → k < g.n → stands k ≡ false → get_or w.state.floats (2 * g.n + k) nan ≡ get_or f (2 * g.n + k) nan

  module _ (f : List Float) (y : List ℕ) (room : 7 * g.n ≤ length f) where
    passed_rests : (w : Full) (x : Option (ℕ × ℕ)) → chosen_over stands g m w.state ≡ x → Rests f y w → Rests f y (passed_on stands g m b w x)
    unfolding passed_on stepped
    passed_rests w (Some (i, j)) e r =
        let h = chosen_stands stands g m m w.state w.state (alike_self stands p w.state) i j e in
        let a = w.run.active in
        let q = r.active in
        record {
          floats = record {
            long = length_updated p b g.mode g.floor w.state i j a ∙ r.floats.long;
            at = λ k l. behind p b g.mode g.floor w.state i j a h.0.0 h.1.0 (omega arith) (rw r.floats.long room) k (omega arith) ∙ r.floats.at k l;
          };
          labels = r.labels;
          active = q;
          gone = λ k l z.
              ap (λ (x : Alpha). x.value) (alpha_other p b g.mode g.floor w.state i j a h.0.0 h.1.0 (omega arith) (rw r.floats.long room) k l
              (λ e. true≢false (sym h.0.1 ∙ ap stands (sym e) ∙ z)) (λ e. true≢false (sym h.1.1 ∙ ap stands (sym e) ∙ z)))
              ∙ r.gone k l z;
        }
    passed_rests w None e r = record { floats = r.floats; labels = r.labels; active = r.active; gone = r.gone }

    next_rests : (x : Bool) (w : Full) → Rests f y w → Rests f y (next_over stands g m b x w)
    unfolding next_over
    next_rests true w r = passed_rests w (chosen_over stands g m w.state) refl r
    next_rests false w r = r

    pub runs_rests : (w : Full) (t : ℕ) → Rests f y w → Rests f y (runs_over stands g m b w t)
    unfolding runs_over
    runs_rests w zero r = r
    runs_rests w (suc t) r = next_rests (goes (runs_over stands g m b w t).run.status) (runs_over stands g m b w t) (runs_rests w t r)

  pub trained_rests : (s : State) → Ready p s → (budget : ℕ) → Rests s.floats s.labels (trained_over stands g m b budget s)
  unfolding trained_over
  trained_rests s r budget =
      runs_rests s.floats s.labels r.floats (full (ready_of g.n) (started p b s) s.numbers s.labels) budget
      (record { floats = started_behind p b s r.square; labels = refl; active = refl; gone = λ k l h. (same_started p b s).at (2 * g.n + k) (omega arith) (omega arith) })
