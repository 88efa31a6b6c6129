use Prim.Native.Nat.{◌≤◌}
use mathlib.Core.Path.{◌≡◌}
use lib.ListN.{length}
use Rattle.fits.specs.Starts.{half, rest_to, shared_to}
use Rattle.fits.proofs.alphas_nu.Given as goal

abbrev pub invariant-loop-k : goal.invariant-loop-k
invariant-loop-k l = (l.k ≤ l.n) × (length l.d ≡ length l.initial.d) × (l.d ≡ shared_to l.sum l.l l.initial.d l.k) × (l.r ≡ rest_to l.sum l.l l.k) × (l.sum ≡ half l.nu l.n)
