use Prim.Native.Nat.{◌≤◌}
use mathlib.Core.Path.{◌≡◌}
use lib.ListN.{length}
use Rattle.fits.specs.Starts.{costs_to}
use Rattle.fits.proofs.ceilings_c.Given as goal

abbrev pub invariant-loop-k : goal.invariant-loop-k
invariant-loop-k l = (l.k ≤ l.n) × (length l.d ≡ length l.initial.d) × (l.d ≡ costs_to l.cpos l.cneg l.l l.initial.d l.k)
