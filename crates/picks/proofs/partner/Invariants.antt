use Prim.Native.Nat.{◌*◌}
use mathlib.Core.Path.{◌≡◌}
use Rattle.extreme.specs.Racing.{race_of}
use Rattle.picks.specs.Follow.{bar_of}
use Rattle.picks.proofs.Steps.{partner_to}
use Rattle.picks.proofs.partner.Given as goal

abbrev pub invariant-loop-block : goal.invariant-loop-block
invariant-loop-block l = (l.r ≡ race_of l.g.n (partner_to l.g l.m l.y l.f (8 * l.block))) × (l.bar ≡ bar_of l.r.value)
