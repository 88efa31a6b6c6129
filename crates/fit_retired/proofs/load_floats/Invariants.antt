use Prim.Native.Nat.{◌≤◌}
use mathlib.Core.Path.{◌≡◌}
use lib.Ieee.{nan}
use lib.ListN.{length}
use Rattle.fits.specs.Load.{loaded_floats}
use Rattle.retired.specs.Entry.{kept}
use Rattle.retired.specs.Silenced.{silenced}
use Rattle.fit_retired.proofs.load_floats.Given as goal

abbrev pub invariant-loop-k : goal.invariant-loop-k
invariant-loop-k l = (l.k ≤ l.n) × (length l.f ≡ length l.initial.f) × (l.f ≡ loaded_floats l.n l.c (kept l.r l.a l.n) (silenced l.r l.p l.n) l.initial.f l.k) × (l.none ≡ nan)
