use Prim.Native.Nat.{◌<◌}
use mathlib.Core.Path.{◌≡◌, refl}
use native.Mathlib.Numerals.{add-one}
use native.Mathlib.Omega.{arith}
use lib.Ieee.{div, of_bits}
use lib.ListN.{length-set}
use Rattle.fits.specs.Load.{loaded_floats}
use Rattle.retired.proofs.Coded.{silenced_place}
use Rattle.retired.proofs.Independent.{kept_place}
use borrow.Author.Rules.{rules}
use Rattle.fit_retired.proofs.load_floats.Goals as goal

pub loop-k-init : goal.loop-k-init
unfolding loaded_floats div of_bits
loop-k-init c = (search rules, refl, refl, refl)

pub loop-k-preserved : goal.loop-k-preserved
unfolding loaded_floats
loop-k-preserved c =
    let v = c.loop-k.invariant in
    let h : c.loop-k.k < c.args.n = omega arith in
    (search rules, search rules, rw (add-one, ← v.2, kept_place c.args.r.now c.args.n c.requires.0 c.args.a.now c.loop-k.k h, silenced_place c.args.r.now c.args.n c.requires.0 c.args.p.now c.loop-k.k h, c.either-weight.ensures, c.either-term.ensures, v.3), v.3)

pub returns : goal.returns
returns c = let e : c.loop-k.k ≡ c.args.n = omega arith in rw e at c.loop-k.invariant.2

pub bounds-f-n-in-loop-k : goal.bounds-f-n-in-loop-k
bounds-f-n-in-loop-k c = simp length-set (omega (arith, c.loop-k.invariant.1, c.requires.1))

pub bounds-f-n-in-loop-k-2 : goal.bounds-f-n-in-loop-k-2
bounds-f-n-in-loop-k-2 c = simp length-set (omega (arith, c.loop-k.invariant.1, c.requires.1))
