use mathlib.Core.Path.{◌≡◌, refl}
use native.Mathlib.Numerals.{add-one}
use native.Mathlib.Omega.{arith}
use Rattle.fits.specs.Load.{loaded_labels}
use borrow.Author.Rules.{rules}
use Rattle.fits.proofs.load_labels.Goals as goal

pub loop-k-init : goal.loop-k-init
unfolding loaded_labels
loop-k-init c = (search rules, refl, refl)

pub loop-k-preserved : goal.loop-k-preserved
unfolding loaded_labels
loop-k-preserved c = (search rules, search rules, rw (add-one, ← c.loop-k.invariant.2))

pub returns : goal.returns
returns c = let e : c.loop-k.k ≡ c.args.n = omega arith in rw e at c.loop-k.invariant.2
