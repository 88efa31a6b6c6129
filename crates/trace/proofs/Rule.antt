-- Each pair of a run is the one that the written rule names (specs/Rule.antt), and a run that ends by itself found none, twice:
--   chosen_words    the pair that is chosen is the rule's, and the rule's pair is chosen
--   none_words      none is chosen exactly where the rule stops
--   pair_by_rule    the pair with which a pass steps is the rule's, in the state of its last look
--   stop_by_rule    a pass that ends the run met no pair at both looks
--   trained_stops   a run that ended by itself ended with such a pass; ended_done: and one that did has ended
--   trained_none    and in what it leaves there is no pair
--   trained_fewer   it took fewer steps than the budget has; trained_done: so does no other run that isn't refused
-- Assumes nothing.
use Prim.Native.Nat.{ℕ, zero, suc, ◌+◌, ◌-◌, ◌<◌}
use mathlib.Core.Bool.{Bool, true, false, not, ◌&&◌, cond, true≢false}
use mathlib.Core.List.{List}
use mathlib.Core.Logic.{◌⊎◌, inl, inr, ⊎_elim, ◌↔◌}
use mathlib.Core.Path.{◌≡◌, refl, sym, ap, ◌∙◌}
use native.Mathlib.Omega.{arith}
use borrow.Author.Tests.{ne_eqb}
use lib.Dec.{eqb, ltb}
use lib.Ieee.{Float, binary64, add, mul, le}
use Rattle.std.specs.Prelude.{Option, Some, None}
use Rattle.choose_c.specs.Choice.{extremes_c, choice_c}
use Rattle.choose_c.proofs.Rule.{risen_c, fallen_c, rises_c, falls_c, sum_c}
use Rattle.choose_nu.specs.Choice.{risen, fallen, choice_nu}
use Rattle.choose_nu.proofs.Rule.{risen_nu, fallen_nu, rises_nu, falls_nu, sum_nu}
use Rattle.extreme.specs.Rule.{everybody}
use Rattle.partner.specs.Rule.{Pairs, NoSecond, Sum}
use Rattle.partner.specs.Second.{choice, second}
use Rattle.partner.proofs.Rule.{chosen_by, choice_pair, choice_optimal, sum_is}
use Rattle.shrink.specs.Drops.{walked_over}
use Rattle.solver.specs.End.{closed, trained}
use Rattle.solver.specs.Pass.{ten, chosen, rebuilt, refreshed, tops_of, restored, walked_from, shrunk, counted_down, looked, worked_by, onward, passed, next, runs}
use Rattle.solver.specs.Run.{problem_of, Full, with_run, goes, counter_at, active_at, reopened, period}
use Rattle.solver.specs.declared.Given.{Given}
use Rattle.solver.specs.declared.Status.{Status}
use Rattle.solver.specs.declared.Status.TheVariants.{Going, Done, Refused}
use Rattle.solver.proofs.Laws.{counted_iterations}
use Rattle.state.specs.Lists.{Problem, State}
use Rattle.trace.specs.Rule.{Rises, Falls, is_below, Level, ByRule, NoPair, PairIn, NoPairIn, Stops, Ended}
use Rattle.trace.specs.Trace.{look_at, pair_from, start_of}
use Rattle.trace.proofs.Passes.{look_status, pass_steps, pair_look, Ends, pass_ends}
use Rattle.trace.proofs.Trace.{iterations_are_steps, steps_going, closed_iterations}

-- ---- the words, over those that stand

module _ (stands : ℕ → Bool) (g : Given) (m : List ℕ) (s : State) (a : ℕ) where
  abbrev p : Problem
  p = problem_of g m

  -- each label's extremes as the definitions have them, added
  abbrev pub sums_by : Bool → Bool → Float
  sums_by true t = add binary64 (risen_nu stands p s a t).value (fallen_nu stands p s a t).value
  sums_by false t = add binary64 (risen_c stands p s a).value (fallen_c stands p s a).value

  pub sum_by : (nu t : Bool) → Sum p s (Rises stands g m s a nu t) (Falls stands g m s a nu t) (sums_by nu t)
  sum_by true t = sum_nu stands p s a t
  sum_by false t = sum_c stands p s a

  -- and any sums of the words are these
  pub sums_are : (nu t : Bool) (x : Float) → Sum p s (Rises stands g m s a nu t) (Falls stands g m s a nu t) x → sums_by nu t ≡ x
  sums_are true t x w = sum_is p s (rises_nu stands p s a t) (falls_nu stands p s a t) x w
  sums_are false t x w = sum_is p s (rises_c stands p s a) (falls_c stands p s a) x w

  -- so the level of the words is theirs
  pub level_words : (nu b : Bool) → (is_below stands g m s a nu (sums_by nu) ≡ b) ↔ Level stands g m s a nu b
  level_words nu b = (λ e. record { sums = sums_by nu; each = sum_by nu; tells = e }, λ w. back nu w.sums w.each ∙ w.tells)
    where
      back : (nu : Bool) (x : Bool → Float) → ((t : Bool) → Sum p s (Rises stands g m s a nu t) (Falls stands g m s a nu t) (x t))
          → is_below stands g m s a nu (sums_by nu) ≡ is_below stands g m s a nu x
      back true x w = rw (sums_are true true (x true) (w true), sums_are true false (x false) (w false))
      back false x w = rw (sums_are false true (x true) (w true))

  -- the choice over those that stand, by either rule
  abbrev pub choice_by : Bool → Option (ℕ × ℕ)
  choice_by true = chosen_by stands p s g.floor a (risen_nu stands p s a) (Rises stands g m s a true) (rises_nu stands p s a) (is_below stands g m s a true (sums_by true))
  choice_by false = chosen_by stands p s g.floor a (λ t. risen_c stands p s a) (Rises stands g m s a false) (λ t. rises_c stands p s a) (is_below stands g m s a false (sums_by false))

  pub pair_words : (nu : Bool) (i j : ℕ) → (choice_by nu ≡ Some (i, j)) ↔ (Level stands g m s a nu false × Pairs stands p s g.floor a (Rises stands g m s a nu) i j)
  pair_words nu i j = (λ e. let w = (by nu).0 e in ((level_words nu false).0 w.0, w.1), λ w. (by nu).1 ((level_words nu false).1 w.0, w.1))
    where
      by : (nu : Bool) → (choice_by nu ≡ Some (i, j)) ↔ ((is_below stands g m s a nu (sums_by nu) ≡ false) × Pairs stands p s g.floor a (Rises stands g m s a nu) i j)
      by true = choice_pair stands p s g.floor a (risen_nu stands p s a) (Rises stands g m s a true) (rises_nu stands p s a) (is_below stands g m s a true (sums_by true)) i j
      by false = choice_pair stands p s g.floor a (λ t. risen_c stands p s a) (Rises stands g m s a false) (λ t. rises_c stands p s a) (is_below stands g m s a false (sums_by false)) i j

  pub optimal_words : (nu : Bool) → (choice_by nu ≡ None) ↔ (Level stands g m s a nu true ⊎ NoSecond stands p s g.floor a (Rises stands g m s a nu))
  optimal_words nu = (λ e. ⊎_elim (λ z. inl ((level_words nu true).0 z)) inr ((by nu).0 e), λ w. (by nu).1 (⊎_elim (λ z. inl ((level_words nu true).1 z)) inr w))
    where
      by : (nu : Bool) → (choice_by nu ≡ None) ↔ ((is_below stands g m s a nu (sums_by nu) ≡ true) ⊎ NoSecond stands p s g.floor a (Rises stands g m s a nu))
      by true = choice_optimal stands p s g.floor a (risen_nu stands p s a) (Rises stands g m s a true) (rises_nu stands p s a) (is_below stands g m s a true (sums_by true))
      by false = choice_optimal stands p s g.floor a (λ t. risen_c stands p s a) (Rises stands g m s a false) (λ t. rises_c stands p s a) (is_below stands g m s a false (sums_by false))

  -- a choice that is one of these is the rule's
  pub by_words : (c : Option (ℕ × ℕ)) → c ≡ choice_by g.nu → (i j : ℕ) → (c ≡ Some (i, j)) ↔ ByRule stands g m s a i j
  by_words c e i j = (
    λ q. let w = (pair_words g.nu i j).0 (sym e ∙ q) in record { level = w.0; pair = w.1 },
    λ w. e ∙ (pair_words g.nu i j).1 (w.level, w.pair),
  )

  pub none_by_words : (c : Option (ℕ × ℕ)) → c ≡ choice_by g.nu → (c ≡ None) ↔ NoPair stands g m s a
  none_by_words c e = (λ q. (optimal_words g.nu).0 (sym e ∙ q), λ w. e ∙ (optimal_words g.nu).1 w)

-- ---- the run's own choice: everybody stands

module _ (g : Given) (m : List ℕ) where
  chosen_is : (v : Full) → chosen g m v ≡ choice_by everybody g m v.state v.run.active g.nu
  unfolding chosen choice_c choice_nu choice second extremes_c risen fallen
  chosen_is v = go g.nu
    where
      go : (x : Bool)
          → cond x (choice_nu (problem_of g m) v.state g.floor g.eps v.run.active) (choice_c (problem_of g m) v.state g.floor g.eps v.run.active)
          ≡ choice_by everybody g m v.state v.run.active x
      go true = refl
      go false = refl

  pub chosen_words : (v : Full) (i j : ℕ) → (chosen g m v ≡ Some (i, j)) ↔ PairIn g m v i j
  chosen_words v i j = by_words everybody g m v.state v.run.active (chosen g m v) (chosen_is v) i j

  pub none_words : (v : Full) → (chosen g m v ≡ None) ↔ NoPairIn g m v
  none_words v = none_by_words everybody g m v.state v.run.active (chosen g m v) (chosen_is v)

  -- in the state of the pass's last look: counted down, and reconstructed where the first look found none
  pub pair_by_rule : (w : Full) (i j : ℕ) → pair_from g m w ≡ Some (i, j) → PairIn g m (look_at g m (counted_down g m w)) i j
  pair_by_rule w i j e = (chosen_words (look_at g m (counted_down g m w)) i j).0 (pair_look g m w i j e)

  -- ---- counting down ends no run by itself

  restored_status : (level : Float) (w : Full) → (restored g m level w).run.status ≡ w.run.status
  unfolding restored
  restored_status level w = go (not w.run.unshrink && le level (mul binary64 g.eps ten))
    where
      go : (x : Bool) → (cond x (with_run (rebuilt g m w) (reopened w.run g.n)) w).run.status ≡ w.run.status
      go true = refl
      go false = refl

  abbrev Onward : Status → Status → Type 0
  Onward s t = (t ≡ s) ⊎ (t ≡ Refused)

  shrunk_status : (w : Full) → Onward w.run.status (shrunk g m w).run.status
  unfolding shrunk walked_from
  shrunk_status w =
      let v = restored g m (tops_of g m w).level w in
      go (walked_over g.n (tops_of g m w).limits v.run.active v.state).refused v.run.status (restored_status (tops_of g m w).level w)
    where
      go : (x : Bool) (s : Status) → s ≡ w.run.status → Onward w.run.status (cond x Refused s)
      go true s e = inr refl
      go false s e = inl e

  counted_status : (w : Full) → Onward w.run.status (counted_down g m w).run.status
  unfolding counted_down
  counted_status w = go (ltb 0 (w.run.counter - 1)) g.shrinking
    where
      v : Full
      v = with_run w (counter_at w.run (period g.n))

      go : (x y : Bool) → Onward w.run.status (cond x (with_run w (counter_at w.run (w.run.counter - 1))) (cond y (shrunk g m v) v)).run.status
      go true y = inl refl
      go false true = shrunk_status v
      go false false = inl refl

  -- ---- the end

  going_not_done : Going ≡ Done → ⊥
  going_not_done e = let z : ◌≡◌ {A = ℕ} 0 1 = cc in omega arith

  refused_not_done : Refused ≡ Done → ⊥
  refused_not_done e = let z : ◌≡◌ {A = ℕ} 0 1 = cc in omega arith

  goes_going : (s : Status) → goes s ≡ true → s ≡ Going
  unfolding goes
  goes_going Going e = refl
  goes_going Done e = absurd (true≢false (sym e))
  goes_going Refused e = absurd (true≢false (sym e))

  module _ (b : List Float) where
    counted_not_done : (w : Full) → w.run.status ≡ Going → (counted_down g m w).run.status ≡ Done → ⊥
    counted_not_done w h d = elim (counted_status w) [ inl e ↦ going_not_done (sym h ∙ sym e ∙ d) | inr e ↦ refused_not_done (sym e ∙ d) ]

    -- a pass that ends the run met no pair at both looks, and leaves what the second saw
    pass_done : (w : Full) → w.run.status ≡ Going → (passed g m b w).run.status ≡ Done → Ends g m b (counted_down g m w) (passed g m b w)
    pass_done w h d = go (pair_from g m w) refl
      where
        go : (c : Option (ℕ × ℕ)) → pair_from g m w ≡ c → Ends g m b (counted_down g m w) (passed g m b w)
        go (Some (i, j)) e =
            let same = look_status g m (counted_down g m w) (chosen g m (counted_down g m w)) in
            absurd (counted_not_done w h (sym same ∙ sym (pass_steps g m b w i j e).status ∙ d))
        go None e = elim (pass_ends g m b w e) [
          | inl z ↦ absurd (counted_not_done w h (sym (ap (λ (x : Full). x.run.status) z.1) ∙ d))
          | inr z ↦ z
        ]

    -- the walk before it refused nothing
    counted_on : (w : Full) → w.run.status ≡ Going → (passed g m b w).run.status ≡ Done → goes (counted_down g m w).run.status ≡ true
    unfolding passed onward goes
    counted_on w h d = elim (counted_status w) [
      | inl e ↦ ap goes (e ∙ h)
      | inr e ↦ absurd (refused_not_done (sym e ∙ ap (λ (x : Full). x.run.status) (sym (off (counted_down g m w) (ap goes e))) ∙ d))
    ]
      where
        off : (v : Full) → goes v.run.status ≡ false → onward g m b (goes v.run.status) v ≡ v
        off v e = rw e

    pub stop_by_rule : (w : Full) → w.run.status ≡ Going → (passed g m b w).run.status ≡ Done → Stops g m (counted_down g m w)
    stop_by_rule w h d =
        let z = pass_done w h d in
        record { first = (none_words (counted_down g m w)).0 z.first; second = (none_words (refreshed g m (counted_down g m w))).0 z.second }

    -- so in what it leaves there is no pair
    pass_none : (w : Full) → w.run.status ≡ Going → (passed g m b w).run.status ≡ Done → NoPairIn g m (passed g m b w)
    pass_none w h d = let z = pass_done w h d in rw (z.state, z.active) ((none_words (refreshed g m (counted_down g m w))).0 z.second)

    -- a run that ended by itself ended with such a pass
    pub run_stops : (w : Full) (t : ℕ) → w.run.status ≡ Going → (runs g m b w t).run.status ≡ Done → Ended g m b w t
    unfolding runs next
    run_stops w zero h d = absurd (going_not_done (sym h ∙ d))
    run_stops w (suc t) h d = go (goes (runs g m b w t).run.status) refl (run_stops w t h) d
      where
        go : (x : Bool) → goes (runs g m b w t).run.status ≡ x → ((runs g m b w t).run.status ≡ Done → Ended g m b w t)
            → (next g m b x (runs g m b w t)).run.status ≡ Done → Ended g m b w (suc t)
        go true e ih d =
            record {
              pass = t;
              before = omega arith;
              going = e;
              on = counted_on (runs g m b w t) (goes_going (runs g m b w t).run.status e) d;
              last = rw e;
              stops = stop_by_rule (runs g m b w t) (goes_going (runs g m b w t).run.status e) d;
            }
        go false e ih d =
            let r = ih d in
            let l = r.before in
            record { pass = r.pass; before = omega arith; going = r.going; on = r.on; last = rw e r.last; stops = r.stops }

    -- and whoever stops so has ended
    stops_done : (w : Full) → goes (counted_down g m w).run.status ≡ true → Stops g m (counted_down g m w) → (passed g m b w).run.status ≡ Done
    unfolding passed onward worked_by looked
    stops_done w o s =
        rw (o, (none_words (counted_down g m w)).1 s.first, (none_words (refreshed g m (counted_down g m w))).1 s.second)

    pub ended_done : (w : Full) (t : ℕ) → Ended g m b w t → (runs g m b w t).run.status ≡ Done
    ended_done w t e = ap (λ (x : Full). x.run.status) e.last ∙ stops_done (runs g m b w e.pass) e.on e.stops

    module _ (w : Full) (t : ℕ) (h : w.run.status ≡ Going) (d : (runs g m b w t).run.status ≡ Done) where
      e : Ended g m b w t
      e = run_stops w t h d

      abbrev v : Full
      v = runs g m b w e.pass

      v_going : v.run.status ≡ Going
      v_going = goes_going v.run.status e.going

      v_done : (passed g m b v).run.status ≡ Done
      v_done = ap (λ (x : Full). x.run.status) (sym e.last) ∙ d

      run_none : NoPairIn g m (runs g m b w t)
      run_none = rw e.last (pass_none v v_going v_done)

      -- each pass but the last made a step
      run_fewer : (runs g m b w t).run.iterations < w.run.iterations + t
      run_fewer =
          let l = e.before in
          let i = ap (λ (x : Full). x.run.iterations) e.last ∙ (pass_done v v_going v_done).iterations ∙ counted_iterations g m v in
          let k = iterations_are_steps g m b w e.pass in
          let n = steps_going g m b w e.pass e.going in
          omega arith

    closed_status : (budget : ℕ) (w : Full) → (closed g m budget w).run.status ≡ w.run.status
    unfolding closed
    closed_status budget w = go (eqb w.run.iterations budget && ltb w.run.active g.n)
      where
        go : (x : Bool) → (cond x (with_run (rebuilt g m w) (active_at w.run g.n)) w).run.status ≡ w.run.status
        go true = refl
        go false = refl

    -- the same of start, run and end
    pub trained_stops : (budget : ℕ) (s : State) → (trained g m b budget s).run.status ≡ Done → Ended g m b (start_of g m b s) budget
    unfolding trained
    trained_stops budget s d = run_stops (start_of g m b s) budget refl (sym (closed_status budget (runs g m b (start_of g m b s) budget)) ∙ d)

    -- it took fewer steps than the budget has
    pub trained_fewer : (budget : ℕ) (s : State) → (trained g m b budget s).run.status ≡ Done → (trained g m b budget s).run.iterations < budget
    unfolding trained
    trained_fewer budget s d =
        let w = start_of g m b s in
        let c = closed_iterations g m b budget (runs g m b w budget) in
        let l = run_fewer w budget refl (sym (closed_status budget (runs g m b w budget)) ∙ d) in
        omega arith

    -- and in what it leaves, over the positions that are active there, there is no pair
    pub trained_none : (budget : ℕ) (s : State) → (trained g m b budget s).run.status ≡ Done → NoPairIn g m (trained g m b budget s)
    unfolding trained closed
    trained_none budget s d =
        let w = start_of g m b s in
        let z = sym (closed_status budget (runs g m b w budget)) ∙ d in
        let l = run_fewer w budget refl z in
        rw (ne_eqb (runs g m b w budget).run.iterations budget (λ q. omega arith)) (run_none w budget refl z)

    -- with fewer steps than the budget has, and not refused, a run ended by itself
    pub trained_done : (budget : ℕ) (s : State) → ((trained g m b budget s).run.iterations ≡ budget → ⊥) → ((trained g m b budget s).run.status ≡ Refused → ⊥)
        → (trained g m b budget s).run.status ≡ Done
    unfolding trained goes
    trained_done budget s few on = go v.run.status refl
      where
        v : Full
        v = runs g m b (start_of g m b s) budget

        go : (q : Status) → v.run.status ≡ q → (closed g m budget v).run.status ≡ Done
        go Going e =
            let c = closed_iterations g m b budget v in
            let i = iterations_are_steps g m b (start_of g m b s) budget in
            let n = steps_going g m b (start_of g m b s) budget (rw e) in
            absurd (few (omega arith))
        go Done e = closed_status budget v ∙ e
        go Refused e = absurd (on (closed_status budget v ∙ e))
