use native.Mathlib.Omega.{arith}
use Rattle.fit_one_class.proofs.started.Goals as goal

pub fit-requires : goal.fit-requires
fit-requires c =
    let s = c in
    let o = s.requires.0.most in
    (rw c.given-g.ensures, rw c.given-g.ensures s.requires.0, rw c.given-g.ensures s.requires.1, s.requires.2, rw c.given-g.ensures (omega (arith, o, c.fill.auto.d)), rw c.given-g.ensures (omega (arith, o)), rw c.given-g.ensures (omega (arith, o)), rw c.given-g.ensures (omega (arith, o)))

pub returns : goal.returns
returns c = rw (← c.fill.ensures, ← c.fill-2.ensures, ← c.alphas_one_class.ensures, ← c.given-g.ensures) c.fit.ensures
