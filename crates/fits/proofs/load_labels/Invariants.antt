use Prim.Native.Nat.{◌≤◌}
use mathlib.Core.Path.{◌≡◌}
use lib.ListN.{length}
use Rattle.fits.specs.Load.{loaded_labels}
use Rattle.fits.proofs.load_labels.Given as goal

abbrev pub invariant-loop-k : goal.invariant-loop-k
invariant-loop-k l = (l.k ≤ l.n) × (length l.y ≡ length l.initial.y) × (l.y ≡ loaded_labels l.l l.initial.y l.k)
