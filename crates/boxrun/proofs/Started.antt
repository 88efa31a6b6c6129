-- The start leaves a run in the box. Assumes nothing.
use Prim.Native.Nat.{◌+◌, ◌*◌}
use mathlib.Core.List.{List}
use native.Mathlib.Omega.{arith}
use lib.Ieee.{Float}
use Rattle.start.specs.Start.{laid_to, diagonal_to, gathered_to, started}
use Rattle.state.specs.Lists.{Problem, State, state}
use Rattle.trace.proofs.Rests.{same_laid, same_diagonal, same_gathered}
use Rattle.boxrun.specs.Boxed.{LentBoxed, Boxed}
use Rattle.boxrun.proofs.Kept.{kept_lent, kept_boxed}
use Rattle.boxrun.proofs.Owned.{diagonal_own}

-- the diagonal in its field puts a lent state in the box
diagonal_boxed : {b : Float} {p : Problem} {s : State} → LentBoxed b p s
    → Boxed b p (state (diagonal_to p.n p.side p.matrix s.floats p.side) s.numbers s.labels)
diagonal_boxed {b} {p} {s} w = record {
  lent = kept_lent {b = b} {p = p} {s = s} (diagonal_to p.n p.side p.matrix s.floats p.side) (same_diagonal p s.floats p.side) (omega arith) w;
  own = λ c h. let l = w.ready.floats in let q = w.ready.square in diagonal_own p s.floats p.side c h (omega arith);
}

pub boxed_started : (p : Problem) (bs : List Float) {b : Float} {s : State} → LentBoxed b p s → Boxed b p (state (started p bs s) s.numbers s.labels)
unfolding started
boxed_started p bs {b} {s} w =
    let hi = 5 * p.n + p.side in
    let f = laid_to p.n s.floats p.n in
    let g = diagonal_to p.n p.side p.matrix f p.side in
    let l = kept_lent {b = b} {p = p} {s = s} f (same_laid p hi s.floats p.n (omega arith)) (omega arith) w in
    kept_boxed {b = b} {p = p} {s = state g s.numbers s.labels} (gathered_to p bs (state g s.numbers s.labels) p.n)
    (same_gathered p hi bs (state g s.numbers s.labels) p.n) (omega arith) (diagonal_boxed l)
