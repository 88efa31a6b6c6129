use Prim.Native.Nat.{◌+◌, ◌≤◌}
use mathlib.Core.Path.{◌≡◌}
use lib.Ieee.{nan}
use lib.ListN.{length, get_or}
use Rattle.orderless.specs.Run.{spread}
use Rattle.reply.proofs.give.Given as goal

abbrev pub invariant-loop-k : goal.invariant-loop-k
invariant-loop-k l = (l.k ≤ l.n) × (length l.h ≡ length l.initial.h) × (l.h ≡ spread (λ q. get_or l.f (l.n + q) nan) l.initial.h l.k)
