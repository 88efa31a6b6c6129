-- What is left of the questions that a mode is asked. In neither mode is shrinking repaired (`never`), and each definition that asks then says what the rule says: of shrink, rho and reconstruct
-- where the answer is no, of update and solver in each mode. In the crate's mode a step takes the ceiling of the place. Assumes nothing.
use Prim.Native.Nat.{ℕ}
use mathlib.Core.Bool.{Bool, true, false, cond}
use mathlib.Core.List.{List}
use mathlib.Core.Path.{◌≡◌, refl}
use lib.Ieee.{Float, binary64, add, mul}
use Rattle.alpha.specs.Weight.{weight, at_upper, is_free}
use Rattle.alpha.specs.declared.Alpha.{Alpha}
use Rattle.floats.specs.Helpers.{max_of}
use Rattle.modes.specs.Modes.{travels, repaired}
use Rattle.modes.specs.declared.Mode.{Mode}
use Rattle.modes.specs.declared.Mode.TheVariants.{Crate, Travelling}
use Rattle.reconstruct.specs.Reconstruct.{brought, gets}
use Rattle.rho.specs.Rho.{ub_raised, ub_moved}
use Rattle.rho.specs.declared.Share.{Share}
use Rattle.shrink.specs.Drops.{limits_c, limits_nu}
use Rattle.shrink.specs.Walk.{Walking, dropped, visited}
use Rattle.solver.specs.Pass.{level_nu, rebuilt, refreshed}
use Rattle.solver.specs.Run.{Full}
use Rattle.solver.specs.declared.Given.{Given}
use Rattle.state.specs.Fields.{bound}
use Rattle.update.specs.Update.{ceiling_in, counted_upper, j_reach}

pub never : (mode : Mode) → repaired mode ≡ false
unfolding repaired
never Crate = refl
never Travelling = refl

-- ---- update

pub crates_ceiling : (n : ℕ) (b f : List Float) (k : ℕ) → ceiling_in n Crate b f k ≡ bound b k
unfolding ceiling_in travels
crates_ceiling n b f k = refl

pub counted_after : (mode : Mode) (w : Alpha) (x : Float) → counted_upper mode w x ≡ at_upper (weight x w.upper)
unfolding counted_upper
counted_after mode w x = rw (never mode)

pub reaches_active : (mode : Mode) (n a : ℕ) → j_reach mode n a ≡ a
unfolding j_reach
reaches_active mode n a = rw (never mode)

-- ---- shrink

pub c_limits : (gmax1 gmax2 : Float) → limits_c false gmax1 gmax2 ≡ record { upos = gmax1; uneg = gmax2; lpos = gmax2; lneg = gmax1; mirrored = true; ends = false }
c_limits gmax1 gmax2 = refl

pub nu_limits : (gmax1 gmax2 gmax3 gmax4 : Float)
    → limits_nu false gmax1 gmax2 gmax3 gmax4 ≡ record { upos = gmax1; uneg = gmax4; lpos = gmax2; lneg = gmax3; mirrored = false; ends = false }
unfolding limits_nu
nu_limits gmax1 gmax2 gmax3 gmax4 = refl

pub visits_all : {S : Type 0} (drops : S → ℕ → Bool) (swap : S → ℕ → ℕ → S) (i : ℕ) (w : Walking S)
    → visited false drops swap i w ≡ cond w.refused w (cond (drops w.state i) (dropped drops swap w.state i w.active) w)
unfolding visited
visits_all drops swap i w = refl

-- ---- reconstruct, rho

pub free_gets : (w : Alpha) → gets false w ≡ is_free w
unfolding gets
free_gets w = refl

pub brings_all : (w : Alpha) (g r : Float) → brought false w g r ≡ add binary64 g (mul binary64 w.value r)
unfolding brought
brings_all w g r = refl

pub raises : (s : Share) (g : Float) → ub_moved false s g ≡ ub_raised s g
unfolding ub_moved
raises s g = refl

-- ---- solver

pub nu_level : (a b c d : Float) → level_nu false a b c d ≡ max_of (add binary64 a b) (add binary64 c d)
unfolding level_nu
nu_level a b c d = refl

pub only_rebuilt : (g : Given) (m : List ℕ) (w : Full) → refreshed g m w ≡ rebuilt g m w
unfolding refreshed rebuilt
only_rebuilt g m w = rw (never g.mode)
