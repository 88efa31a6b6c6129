use mathlib.Core.Path.{◌≡◌, refl}
use native.Mathlib.Numerals.{add-one}
use native.Mathlib.Omega.{arith}
use lib.ListN.{length-set}
use Rattle.fits.specs.Load.{loaded_numbers}
use borrow.Author.Rules.{rules}
use Rattle.fits.proofs.load_numbers.Goals as goal

pub loop-k-init : goal.loop-k-init
unfolding loaded_numbers
loop-k-init c = (search rules, refl, refl)

pub loop-k-preserved : goal.loop-k-preserved
unfolding loaded_numbers
loop-k-preserved c = (search rules, search rules, rw (add-one, ← c.loop-k.invariant.2))

pub returns : goal.returns
returns c = let e : c.loop-k.k ≡ c.args.n = omega arith in rw e at c.loop-k.invariant.2

pub bounds-u-n : goal.bounds-u-n
bounds-u-n c = simp length-set (omega arith)
