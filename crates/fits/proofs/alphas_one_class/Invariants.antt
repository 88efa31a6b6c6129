use Prim.Native.Nat.{◌≤◌}
use mathlib.Core.Path.{◌≡◌}
use lib.ListN.{length}
use Rattle.fits.specs.Starts.{one_class_to}
use Rattle.fits.proofs.alphas_one_class.Given as goal

abbrev pub invariant-loop-k : goal.invariant-loop-k
invariant-loop-k l = (l.k ≤ l.n) × (length l.d ≡ length l.initial.d) × (l.d ≡ one_class_to l.nu l.n l.initial.d l.k)
