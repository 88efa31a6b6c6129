-- One pass, and the run (the rule, sections 'Shrinking' and 'Run').
use Rattle.std.specs.Prelude.{ℕ, zero, suc, ◌-◌, Bool, true, false, not, ◌&&◌, cond, List, ltb, Float, Option, Some, None}
use Rattle.std.specs.Float.{binary64}
use Rattle.std.specs.Float.Ieee.{of_bits, add, mul, le}
use Rattle.choose_c.specs.Choice.{extremes_c, choice_c}
use Rattle.choose_c.specs.declared.Extremes.{Extremes}
use Rattle.choose_nu.specs.Choice.{extremes_nu, choice_nu}
use Rattle.choose_nu.specs.declared.Extremes.{Extremes as ExtremesNu}
use Rattle.floats.specs.Helpers.{max_of}
use Rattle.modes.specs.Modes.{repaired}
use Rattle.reconstruct.specs.Reconstruct.{reconstructed}
use Rattle.shrink.specs.Drops.{limits_c, limits_nu, walked_over}
use Rattle.shrink.specs.Walk.{Walking}
use Rattle.shrink.specs.declared.Limits.{Limits}
use Rattle.state.specs.Lists.{State}
use Rattle.update.specs.Update.{updated}
use Rattle.solver.specs.Run.{problem_of, Full, with_floats, with_run, goes, counter_at, active_at, reopened, advanced, ended, after_walk, period}
use Rattle.solver.specs.declared.Given.{Given}
use Rattle.solver.specs.declared.Run.{Run}
use Rattle.solver.specs.declared.Tops.{Tops}

abbrev pub ten : Float
ten = of_bits binary64 0x4024_0000_0000_0000

-- what shrinking asks of the extremes
abbrev pub tops_c : Bool → Extremes → Tops
tops_c x e =
    record { limits = limits_c x e.gmax1.value e.gmax2.value; level = add binary64 e.gmax1.value e.gmax2.value }

-- the level crosses the labels; repaired it adds a label's own two
unfoldable pub level_nu : Bool → Float → Float → Float → Float → Float
level_nu x a b c d = cond x (max_of (add binary64 a c) (add binary64 b d)) (max_of (add binary64 a b) (add binary64 c d))

abbrev pub tops_nu : Bool → ExtremesNu → Tops
tops_nu x e =
    let a = e.gmaxp1.value in
    let b = e.gmaxn1.value in
    let c = e.gmaxp2.value in
    let d = e.gmaxn2.value in
    record { limits = limits_nu x a b c d; level = level_nu x a b c d }

abbrev pub walked_full : Run → Walking State → Full
walked_full r k = record { run = after_walk r k.active k.refused; state = k.state }

-- m is the lent matrix, b the ceilings by place
module _ (g : Given) (m : List ℕ) where
  -- the pair, by the rule that holds
  unfoldable pub chosen : Full → Option (ℕ × ℕ)
  chosen w =
      cond g.nu
      (choice_nu (problem_of g m) w.state g.floor g.eps w.run.active)
      (choice_c (problem_of g m) w.state g.floor g.eps w.run.active)

  unfoldable pub rebuilt : Full → Full
  rebuilt w = with_floats w (reconstructed (problem_of g m) (repaired g.mode) w.run.active w.state)

  -- before the second look: all gradients anew; repaired, all positions are active again
  unfoldable pub refreshed : Full → Full
  refreshed w = with_run (rebuilt w) (cond (repaired g.mode) (active_at w.run g.n) w.run)

  -- ---- shrinking

  unfoldable pub tops_of : Full → Tops
  tops_of w =
      cond g.nu
      (tops_nu (repaired g.mode) (extremes_nu (problem_of g m) w.state w.run.active))
      (tops_c (repaired g.mode) (extremes_c (problem_of g m) w.state w.run.active))

  -- once in a run, where the level is at most eps·10: all gradients anew, and all positions active
  unfoldable pub restored : Float → Full → Full
  restored level w =
      cond (not w.run.unshrink && le level (mul binary64 g.eps ten))
      (with_run (rebuilt w) (reopened w.run g.n))
      w

  unfoldable pub walked_from : Limits → Full → Full
  walked_from l w = walked_full w.run (walked_over g.n l w.run.active w.state)

  -- the extremes are taken before the gradients are computed anew
  unfoldable pub shrunk : Full → Full
  shrunk w = let t = tops_of w in walked_from t.limits (restored t.level w)

  -- the counter falls; at 0 it begins again, and the run shrinks
  unfoldable pub counted_down : Full → Full
  counted_down w =
      let c = w.run.counter - 1 in
      let v = with_run w (counter_at w.run (period g.n)) in
      cond (ltb 0 c) (with_run w (counter_at w.run c)) (cond g.shrinking (shrunk v) v)

  module _ (b : List Float) where
    -- ---- one step, one iteration

    unfoldable pub stepped : Full → ℕ → ℕ → Full
    stepped w i j =
        with_run (with_floats w (updated (problem_of g m) b g.mode g.floor w.state i j w.run.active)) (advanced w.run)

    -- the second look: a pair found now makes the next pass shrink
    unfoldable pub looked : Full → Option (ℕ × ℕ) → Full
    looked w (Some (i, j)) = stepped (with_run w (counter_at w.run 1)) i j
    looked w None = with_run w (ended w.run)

    abbrev pub looked_again : Full → Full
    looked_again w = looked w (chosen w)

    unfoldable pub worked_by : Full → Option (ℕ × ℕ) → Full
    worked_by w (Some (i, j)) = stepped w i j
    worked_by w None = looked_again (refreshed w)

    abbrev pub worked : Full → Full
    worked w = worked_by w (chosen w)

    unfoldable pub onward : Bool → Full → Full
    onward true w = worked w
    onward false w = w

    unfoldable pub passed : Full → Full
    passed w = let v = counted_down w in onward (goes v.run.status) v

    -- ---- the first t passes

    unfoldable pub next : Bool → Full → Full
    next true w = passed w
    next false w = w

    unfoldable pub runs : Full → ℕ → Full
    runs w zero = w
    runs w (suc t) = let v = runs w t in next (goes v.run.status) v
