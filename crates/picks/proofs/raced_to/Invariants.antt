use Prim.Native.Nat.{◌≤◌, ◌-◌}
use mathlib.Core.Path.{◌≡◌}
use Rattle.picks.specs.Follow.{raced_from, by_label}
use Rattle.picks.proofs.raced_to.Given as goal

abbrev pub invariant-loop-j : goal.invariant-loop-j
invariant-loop-j l = (l.t ≤ l.j) × (l.j ≤ l.e) × (l.r ≡ raced_from l.g l.m l.f (by_label l.y l.p l.q) l.initial.r l.t (l.j - l.t))
