use mathlib.Core.Path.{◌≡◌, refl}
use native.Mathlib.Numerals.{add-one}
use native.Mathlib.Omega.{arith}
use Rattle.fits.specs.Starts.{rest_to, shared_to}
use borrow.Author.Rules.{rules}
use Rattle.fits.proofs.alphas_nu.Goals as goal

pub loop-k-init : goal.loop-k-init
unfolding shared_to rest_to
loop-k-init c = (search rules, refl, refl, refl, rw c.whole_as_float.ensures)

pub loop-k-preserved : goal.loop-k-preserved
unfolding shared_to rest_to
loop-k-preserved c = let v = c.loop-k.invariant in (search rules, search rules, rw (add-one, ← v.2, ← v.3, ← c.give.ensures), rw (add-one, ← v.3) c.leave-r.ensures, v.4)

pub returns : goal.returns
returns c = let e : c.loop-k.k ≡ c.args.n = omega arith in let v = c.loop-k.invariant in rw (v.4, e) at v.2
