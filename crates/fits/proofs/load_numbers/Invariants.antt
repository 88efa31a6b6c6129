use Prim.Native.Nat.{◌≤◌}
use mathlib.Core.Path.{◌≡◌}
use lib.ListN.{length}
use Rattle.fits.specs.Load.{loaded_numbers}
use Rattle.fits.proofs.load_numbers.Given as goal

abbrev pub invariant-loop-k : goal.invariant-loop-k
invariant-loop-k l = (l.k ≤ l.n) × (length l.u ≡ length l.initial.u) × (l.u ≡ loaded_numbers l.n l.initial.u l.k)
