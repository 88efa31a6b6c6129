use Prim.Native.Nat.{◌≤◌}
use mathlib.Core.Path.{◌≡◌}
use lib.ListN.{length}
use Rattle.fits.specs.Load.{loaded_floats}
use Rattle.fits.proofs.load_floats.Given as goal

abbrev pub invariant-loop-k : goal.invariant-loop-k
invariant-loop-k l = (l.k ≤ l.n) × (length l.f ≡ length l.initial.f) × (l.f ≡ loaded_floats l.n l.c l.a l.p l.initial.f l.k)
