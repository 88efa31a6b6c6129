use mathlib.Core.Path.{◌≡◌, refl}
use native.Mathlib.Numerals.{add-one}
use native.Mathlib.Omega.{arith}
use lib.ListN.{length-set}
use Rattle.fits.specs.Load.{loaded_floats}
use borrow.Author.Rules.{rules}
use Rattle.fits.proofs.load_floats.Goals as goal

pub loop-k-init : goal.loop-k-init
unfolding loaded_floats
loop-k-init c = (search rules, refl, refl)

pub loop-k-preserved : goal.loop-k-preserved
unfolding loaded_floats
loop-k-preserved c = (search rules, search rules, rw (add-one, ← c.loop-k.invariant.2))

pub returns : goal.returns
returns c = let e : c.loop-k.k ≡ c.args.n = omega arith in rw e at c.loop-k.invariant.2

pub bounds-f-n-in-loop-k : goal.bounds-f-n-in-loop-k
bounds-f-n-in-loop-k c = simp length-set (omega arith)

pub bounds-f-n-in-loop-k-2 : goal.bounds-f-n-in-loop-k-2
bounds-f-n-in-loop-k-2 c = simp length-set (omega arith)
