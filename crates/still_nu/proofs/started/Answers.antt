use lib.Ieee.{binary64}
use lib.Ieee.Bits.{of_bits-fits}
use mathlib.Core.Path.{refl}
use native.Mathlib.Omega.{arith}
use Rattle.alpha.specs.Weight as Weight
use Rattle.alpha.specs.Weight.{one}
use Rattle.answer.specs.declared.Finish.TheVariants.{Scaled}
use Rattle.classification.proofs.Laws.{usable_nu}
use Rattle.fits.specs.Starts.{nothing, evenly, half, shared_to}
use Rattle.judge.proofs.Accepted.{nu_fine}
use Rattle.orderless.specs.Sheet.{ceilings_of}
use Rattle.reply.proofs.Laws.{whole_still}
use Rattle.still.proofs.Fits.{nu_lent}
use Rattle.still_nu.proofs.started.Goals as goal

pub fit_cleared-requires : goal.fit_cleared-requires
fit_cleared-requires c =
    let s = c in
    let a = s.args in
    let R = s.requires.0 in
    let o = R.most in
    let q = usable_nu a.n a.m.now a.settings.budget R.most R.matrix a.l.now a.nu a.settings.eps s.requires.2 in
    (rw c.given-g.ensures (record { matrix = q.matrix; square = refl; labels = s.requires.1; floats = R.floats }), rw c.given-g.ensures R.some, q.budget_most, rw c.given-g.ensures (omega (arith, o)), rw c.given-g.ensures R.result, rw c.given-g.ensures R.bytes, of_bits-fits binary64 0)

pub returns : goal.returns
returns c =
    let s = c in
    let a = s.args in
    let R = s.requires.0 in
    let q = nu_fine a.n a.m.now a.l.now a.nu a.settings.eps a.settings.budget s.requires.2 in
    whole_still _ Scaled a.m.now a.l.now (evenly one a.n) (shared_to (half a.nu a.n) a.l.now nothing a.n) nothing (ceilings_of one one) (λ k. Weight.zero) a.settings.budget a.h.now a.f.now a.y.now _ refl refl
    (nu_lent _ R.most a.l.now refl q.labels) R.floats (rw (c.given-g.ensures, c.alphas_nu.ensures) at c.fit_cleared.ensures)
