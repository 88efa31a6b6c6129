use Prim.Native.Nat.{◌≤◌}
use mathlib.Core.Path.{◌≡◌}
use Rattle.orderless.specs.End.{share_nu_of}
use Rattle.orderless.specs.Sheet.{read_in, ceilings_of, alpha_of}
use Rattle.orderless.specs.Step.{slope}
use Rattle.course.proofs.share_nu.Given as goal

abbrev pub invariant-loop-k : goal.invariant-loop-k
invariant-loop-k l = let o = read_in l.g.nu l.g.n l.f in
    (l.k ≤ l.n) × (l.s ≡ share_nu_of l.y (alpha_of l.y (ceilings_of l.costs.pos l.costs.neg) o) (slope l.g l.m l.y (ceilings_of l.costs.pos l.costs.neg) o) l.x l.label l.k) × (l.s.free ≤ l.k)
