-- In the travelling mode a step clips by the ceilings that were lent for its two samples: `served_own`; and it never turns the fixed gradient: `turn_none`.
-- Assumes nothing.
use Prim.Native.Nat.{ℕ, suc, ◌<◌}
use mathlib.Core.Bool.{Bool, true, false, beq, cond}
use mathlib.Core.List.{List}
use mathlib.Core.Path.{◌≡◌, refl, sym, ap, ap₂, ◌∙◌}
use native.Mathlib.Omega.{arith}
use lib.Ieee.{Float, nan}
use lib.ListN.{length, get_or}
use Rattle.alpha.specs.Weight.{floor, weight, at_upper}
use Rattle.alpha.specs.declared.Alpha.{Alpha}
use Rattle.answer.specs.Lent.{Lent, Whole}
use Rattle.answer.specs.declared.Answer.{Answer}
use Rattle.boxrun.proofs.Owned.{Owned, owned_reconstructed, owned_moved, runs_owned}
use Rattle.classification.specs.Entries.{general_tuned, fit_c_tuned}
use Rattle.modes.specs.Modes.{travels, repaired}
use Rattle.modes.specs.declared.Mode.TheVariants.{Travelling}
use Rattle.solver.specs.Pass.{counted_down, passed, next, runs}
use Rattle.solver.specs.Run.{problem_of, Full, goes}
use Rattle.solver.specs.declared.Given.{Given}
use Rattle.state.specs.Fields.{alpha, sample}
use Rattle.state.specs.Lists.{Problem, State}
use Rattle.trace.specs.Trace.{Step, look_at}
use Rattle.trace.proofs.Kept.{Keeps, counted_keeps, look_keeps}
use Rattle.trace.proofs.Left.{each_step, step_left}
use Rattle.trace.proofs.Passes.{pass_steps}
use Rattle.tuning.specs.declared.Tuning.{Tuning}
use Rattle.update.specs.Update.{ceiling_in, ceiling, counted_upper}
use Rattle.update.specs.declared.Pair as Update
use Rattle.update.proofs.Left.{turn_of, alpha_i, alpha_j}
use Rattle.promises.specs.Fit.{Fit, general_fit, c_fit, start_from, after, steps_taken}
use Rattle.promises.specs.Trail.{found_under, found_at, no_step}
use Rattle.promises.specs.Travelling.{found_own, OwnStep}
use Rattle.promises.proofs.Entries.{general_served, c_served}
use Rattle.promises.proofs.Iterations.{served_iterations}
use Rattle.promises.proofs.Trail.{served_found}
use Rattle.promises.proofs.Travel.{Served, ready_start, travelling_travels, served_ceilings}
use Rattle.std.specs.Prelude.{Ok}

module _ {k : Fit} {m : List ℕ} {budget : ℕ} {d : Lent} {o : Whole} (v : Served k m budget d o) (mode : k.given.mode ≡ Travelling) where
  abbrev g : Given
  g = k.given

  abbrev p : Problem
  p = problem_of g m

  -- the pass was made, so what it leaves is what follows
  made : (q : ℕ) → goes (after k m d q).run.status ≡ true → passed g m k.ceilings (after k m d q) ≡ after k m d (suc q)
  unfolding runs next
  made q h = rw h

  module _ (q : ℕ) (h : q < length (steps_taken k m d budget)) where
    abbrev e : Step
    e = get_or (steps_taken k m d budget) q no_step

    abbrev u : Full
    u = look_at g m (counted_down g m (after k m d q))

    kept : Keeps g (Owned p) (after k m d q)
    kept = runs_owned g m k.ceilings q (start_from k m d) (ready_start v)

    looks : Keeps g (Owned p) u
    looks =
        look_keeps g m (Owned p) (λ t a l w. owned_reconstructed t (repaired g.mode) a l w) (λ t i j x y w. owned_moved w i j x y) (counted_down g m (after k m d q))
        (counted_keeps g m (Owned p) (λ t a l w. owned_reconstructed t (repaired g.mode) a l w) (λ t i j x y w. owned_moved w i j x y) (after k m d q) kept)

    -- the ceiling that a step takes at a position is left there, and is its sample's
    own_at : (i s : ℕ) → i < g.n → (alpha p (passed g m k.ceilings (after k m d q)).state i).upper ≡ ceiling p g.mode k.ceilings u.state i
        → s ≡ sample (passed g m k.ceilings (after k m d q)).state i → goes (after k m d q).run.status ≡ true
        → ceiling p g.mode k.ceilings u.state i ≡ get_or k.ceilings s nan
    own_at i s l left stood going =
        sym left
        ∙ ap (λ (z : Full). (alpha p z.state i).upper) (made q going)
        ∙ served_ceilings v (ap travels mode ∙ travelling_travels) (suc q) i l
        ∙ ap (λ (z : Full). get_or k.ceilings (sample z.state i) nan) (sym (made q going))
        ∙ ap (λ (z : ℕ). get_or k.ceilings z nan) (sym stood)

    own_pair : found_at p g.mode k.ceilings u.state e.i e.j ≡ found_own k m d e u.state
    own_pair =
        let x = each_step g m k.ceilings _ budget q no_step h in
        let l = step_left g m k.ceilings (after k m d q) e.i e.j kept.active kept.kept.ready.floats x.pair in
        let a = l.active_i in
        let b = l.active_j in
        let few = l.below in
        let room = looks.kept.ready.floats in
        let steps = (pass_steps g m k.ceilings (after k m d q) e.i e.j x.pair).state in
        let i-in : e.i < g.n = omega arith in
        let j-in : e.j < g.n = omega arith in
        let left_i_law = ap (λ (z : State). (alpha p z e.i).upper) steps
        ∙ ap (λ (w : Alpha). w.upper) (alpha_i p k.ceilings g.mode g.floor u.state e.i e.j u.run.active i-in j-in few room l.apart) in
        let left_j_law = ap (λ (z : State). (alpha p z e.j).upper) steps
        ∙ ap (λ (w : Alpha). w.upper) (alpha_j p k.ceilings g.mode g.floor u.state e.i e.j u.run.active i-in j-in few room) in
        ap₂ (λ (v w : Float). found_under p u.state e.i e.j v w)
        (own_at e.i e.sample_i i-in left_i_law (ap (λ (y : Step). y.sample_i) x.is) x.going)
        (own_at e.j e.sample_j j-in left_j_law (ap (λ (y : Step). y.sample_j) x.is) x.going)

    pub served_own : g.floor ≡ floor → OwnStep k m d budget q
    served_own plain =
        let w = served_found v plain q h in
        (w.0 ∙ ap (λ (x : Update.Pair). x.i.value) own_pair, w.1 ∙ ap (λ (x : Update.Pair). x.j.value) own_pair)

-- ---- the entries, with the usual floor

pub general_own : (tune : Tuning) → tune.mode ≡ Travelling → tune.floor ≡ floor → (n : ℕ) (m l : List ℕ) (c a p : List Float) (nurule : Bool) (eps : Float) (shrinking : Bool) (budget : ℕ) (d : Lent) (x : Answer)
    → (general_tuned tune n m l c a p nurule eps shrinking budget d).out ≡ Ok x → (q : ℕ) → q < x.iterations → OwnStep (general_fit tune n l c a p nurule eps shrinking) m d budget q
general_own tune mode plain n m l c a p nurule eps shrinking budget d x e q h =
    let v = general_served tune n m l c a p nurule eps shrinking budget d x e in served_own v mode q (rw (served_iterations v x e).0 at h) plain

pub c_own : (tune : Tuning) → tune.mode ≡ Travelling → tune.floor ≡ floor → (n : ℕ) (m l : List ℕ) (cpos cneg eps : Float) (shrinking : Bool) (budget : ℕ) (d : Lent) (x : Answer)
    → (fit_c_tuned tune n m l cpos cneg eps shrinking budget d).out ≡ Ok x → (q : ℕ) → q < x.iterations → OwnStep (c_fit tune n l cpos cneg eps shrinking) m d budget q
c_own tune mode plain n m l cpos cneg eps shrinking budget d x e q h =
    let v = c_served tune n m l cpos cneg eps shrinking budget d x e in served_own v mode q (rw (served_iterations v x e).0 at h) plain

-- ---- the fixed gradient

-- both answers are by one ceiling, so none is turned
pub turn_none : (p : Problem) (b : List Float) (s : State) (k : ℕ) (x : Float) (h : ℕ) (g : Float) → turn_of p b Travelling s k x h g ≡ g
unfolding counted_upper ceiling_in travels repaired
turn_none p b s k x h g = go (at_upper (weight x (alpha p s k).upper)) _
  where
    go : (y : Bool) (z : Float) → cond (beq y y) g z ≡ g
    go true z = refl
    go false z = refl
