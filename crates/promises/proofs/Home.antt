-- Home, of an entry: each sample's answered coefficient is made of its start weight, or of what the last step that chose it left. Assumes nothing.
use Prim.Native.Nat.{ℕ, zero, suc, ◌≤◌, ◌<◌}
use mathlib.Core.Bool.{Bool, true, false}
use mathlib.Core.List.{List}
use mathlib.Core.Path.{◌≡◌, refl, sym, ap, ◌∙◌}
use native.Mathlib.Decide.{ℕ_discrete}
use native.Mathlib.Omega.{arith}
use lib.Ieee.{Float, nan}
use lib.ListN.{length, get_or, set, length-set}
use lib.Seq.{get_or-set_same, get_or-set_other}
use Rattle.answer.specs.Answer.{coefficient_of, finished_to}
use Rattle.answer.specs.Lent.{Lent, Whole}
use Rattle.answer.specs.Solved as Solved
use Rattle.answer.specs.Solved.{stuck, level_at, settled_by, solved}
use Rattle.answer.specs.declared.Answer.{Answer}
use Rattle.answer.specs.declared.Finish.{Finish}
use Rattle.classification.specs.Entries.{fitted}
use Rattle.fits.proofs.Loaded.{weight_loaded}
use Rattle.readings.specs.Order.{home_reading, weight_in}
use Rattle.readings.proofs.Order.{length_scattered}
use Rattle.solver.specs.Run.{Full}
use Rattle.solver.specs.declared.Given.{Given}
use Rattle.travel.specs.Home.{last_left}
use Rattle.travel.proofs.Home.{trained_home}
use Rattle.promises.specs.Fit.{Fit, start_from, run_of, steps_taken, r_of, own_weight}
use Rattle.classification.proofs.Accepts.{refused_apart}
use Rattle.promises.proofs.Travel.{Served, ready_start, fresh_start}
use Rattle.std.specs.Prelude.{Ok}
use Rattle.judge.specs.declared.Refusal.TheVariants.{ShrunkAway}

-- ---- a finished list

module _ (how : Finish) (l : List ℕ) (r : Float) (d : List Float) where
  length_finished : (k : ℕ) → length (finished_to how l r d k) ≡ length d
  unfolding finished_to
  length_finished zero = refl
  length_finished (suc k) = simp length-set (length_finished k)

  -- places from k on stay
  finished_later : (k j : ℕ) → k ≤ j → get_or (finished_to how l r d k) j nan ≡ get_or d j nan
  unfolding finished_to
  finished_later zero j h = refl
  finished_later (suc k) j h =
      get_or-set_other (finished_to how l r d k) k j (coefficient_of how (get_or l k 0) r (get_or (finished_to how l r d k) k nan)) nan (λ (e : j ≡ k). omega arith)
      ∙ finished_later k j (omega arith)

  pub finished_at : (k j : ℕ) → k ≤ length d → j < k → get_or (finished_to how l r d k) j nan ≡ coefficient_of how (get_or l j 0) r (get_or d j nan)
  unfolding finished_to
  finished_at zero j b h = absurd (omega arith)
  finished_at (suc k) j b h = go (finished_at k j (omega arith)) (ℕ_discrete j k)
    where
      t : List Float
      t = finished_to how l r d k

      go : (j < k → get_or t j nan ≡ coefficient_of how (get_or l j 0) r (get_or d j nan)) → Dec (j ≡ k)
          → get_or (set t k (coefficient_of how (get_or l k 0) r (get_or t k nan))) j nan ≡ coefficient_of how (get_or l j 0) r (get_or d j nan)
      go ih (yes e) =
          rw e (get_or-set_same t k (coefficient_of how (get_or l k 0) r (get_or t k nan)) nan (rw (length_finished k) b)
          ∙ ap (coefficient_of how (get_or l k 0) r) (finished_later k k (omega arith)))
      go ih (no e) = get_or-set_other t k j (coefficient_of how (get_or l k 0) r (get_or t k nan)) nan e ∙ ih (omega arith)

-- ---- what a fit hands out

settled_lists : (b : Bool) (g : Given) (how : Finish) (l : List ℕ) (budget : ℕ) (w : Full) (c h : List Float) (x : Answer) → (settled_by b g how l budget w c h).out ≡ Ok x
    → ((settled_by b g how l budget w c h).crate ≡ Solved.crate_of g how l w (level_at g w) c) × ((settled_by b g how l budget w c h).home ≡ Solved.home_of g how l w (level_at g w) h)
unfolding settled_by
settled_lists true g how l budget w c h x e = absurd (refused_apart ShrunkAway x e)
settled_lists false g how l budget w c h x e = (refl, refl)

module _ {k : Fit} {m : List ℕ} {budget : ℕ} {d : Lent} {o : Whole} (v : Served k m budget d o) (x : Answer) (e : o.out ≡ Ok x) where
  abbrev g : Given
  g = k.given

  abbrev w : Full
  w = run_of k m d budget

  abbrev weights : ℕ → Float
  weights = weight_in g.n w.state.floats

  -- the lists that it answers: the readings of what the run left, signed and divided
  pub served_lists : (o.left.crate ≡ Solved.crate_of g k.how k.labels w (level_at g w) d.crate) × (o.left.home ≡ Solved.home_of g k.how k.labels w (level_at g w) d.home)
  unfolding fitted solved
  served_lists =
      let r = settled_lists (stuck w.run.status) g k.how k.labels budget w d.crate d.home x (sym (ap (λ (q : Whole). q.out) v.same) ∙ e) in
      (ap (λ (q : Whole). q.left.crate) v.same ∙ r.0, ap (λ (q : Whole). q.left.home) v.same ∙ r.1)

  pub served_at : (s : ℕ) → s < g.n
      → get_or o.left.home s nan ≡ coefficient_of k.how (get_or k.labels s 0) (r_of k m d budget) (get_or (home_reading g.n w.state.numbers weights d.home) s nan)
  unfolding Solved.home_of
  served_at s h =
      ap (λ (t : List Float). get_or t s nan) served_lists.1
      ∙ finished_at k.how k.labels (r_of k m d budget) (home_reading g.n w.state.numbers weights d.home) g.n s
      (rw (length_scattered w.state.numbers weights d.home g.n) v.room.home) h

  pub served_home : (s : ℕ) → s < g.n → get_or o.left.home s nan ≡ own_weight k m d budget s
  served_home s h =
      served_at s h
      ∙ ap (coefficient_of k.how (get_or k.labels s 0) (r_of k m d budget))
      (trained_home g m k.ceilings budget (start_from k m d) (ready_start v) (fresh_start v) d.home v.room.home s h
      ∙ ap (last_left (steps_taken k m d budget) s) (weight_loaded g.n k.ceilings k.weights k.terms d.floats v.room.floats g.n s (omega arith) h))
