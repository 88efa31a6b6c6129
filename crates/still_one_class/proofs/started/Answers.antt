use lib.Ieee.{binary64}
use lib.Ieee.Bits.{of_bits-fits}
use mathlib.Core.Path.{refl}
use native.Mathlib.Omega.{arith}
use Rattle.alpha.specs.Weight as Weight
use Rattle.alpha.specs.Weight.{one}
use Rattle.answer.specs.declared.Finish.TheVariants.{Plain}
use Rattle.classification.proofs.Laws.{usable_one_class}
use Rattle.fits.specs.Starts.{nothing, evenly, all_positive, one_class_to}
use Rattle.orderless.specs.Sheet.{ceilings_of}
use Rattle.reply.proofs.Laws.{whole_still}
use Rattle.still.proofs.Fits.{one_class_lent}
use Rattle.still_one_class.proofs.started.Goals as goal

pub fit_cleared-requires : goal.fit_cleared-requires
fit_cleared-requires c =
    let s = c in
    let a = s.args in
    let R = s.requires.0 in
    let o = R.most in
    let q = usable_one_class a.n a.m.now a.settings.budget R.most R.matrix a.nu a.settings.eps s.requires.1 in
    (rw c.given-g.ensures (record { matrix = q.matrix; square = refl; labels = omega (arith, o); floats = R.floats }), rw c.given-g.ensures R.some, q.budget_most, rw c.given-g.ensures (omega (arith, o)), rw c.given-g.ensures R.result, rw c.given-g.ensures R.bytes, of_bits-fits binary64 0)

pub returns : goal.returns
returns c =
    let s = c in
    let a = s.args in
    let R = s.requires.0 in
    whole_still _ Plain a.m.now (all_positive a.n) (evenly one a.n) (one_class_to a.nu a.n nothing a.n) nothing (ceilings_of one one) (λ k. Weight.zero) a.settings.budget a.h.now a.f.now a.y.now _ refl refl
    (one_class_lent _ R.most refl) R.floats (rw (c.given-g.ensures, c.alphas_one_class.ensures, c.fill.ensures) at c.fit_cleared.ensures)
