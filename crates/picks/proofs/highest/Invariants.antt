use Prim.Native.Nat.{◌+◌, ◌*◌, ◌≤◌}
use mathlib.Core.Bool.{true, cond}
use mathlib.Core.Path.{◌≡◌}
use lib.Ieee.{nan, inf}
use lib.ListN.{get_or}
use Rattle.extreme.specs.Best.{at_least, above, best}
use Rattle.orderless.specs.Sheet.{sought}
use Rattle.rho.specs.Rho.{positive_in}
use Rattle.picks.proofs.highest.Given as goal

abbrev pub invariant-loop-k : goal.invariant-loop-k
invariant-loop-k l = (l.k ≤ l.n) × (l.b ≡ (best (cond l.nu above at_least) (inf true) (λ q. sought l.nu l.t (positive_in l.y q)) (λ q. get_or l.f (3 * l.n + q) nan) l.k).value)
