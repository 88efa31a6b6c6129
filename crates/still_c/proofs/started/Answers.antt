use lib.Ieee.{binary64, of_bits}
use lib.Ieee.Bits.{of_bits-fits}
use lib.Ieee.Fits.{neg-fits}
use mathlib.Core.Path.{refl}
use native.Mathlib.Omega.{arith}
use Rattle.alpha.specs.Weight.{minus_one}
use Rattle.answer.specs.declared.Finish.TheVariants.{Signed}
use Rattle.classification.proofs.Laws.{usable_c}
use Rattle.fits.specs.Starts.{nothing, evenly, costs_to}
use Rattle.judge.proofs.Accepted.{c_fine}
use Rattle.orderless.specs.Sheet.{ceilings_of}
use Rattle.reply.proofs.Laws.{whole_still}
use Rattle.still.proofs.Fits.{c_lent}
use Rattle.still_c.proofs.started.Goals as goal

pub fit_cleared-requires : goal.fit_cleared-requires
fit_cleared-requires c =
    let s = c in
    let a = s.args in
    let R = s.requires.0 in
    let o = R.most in
    let q = usable_c a.n a.m.now a.settings.budget R.most R.matrix a.l.now a.cpos a.cneg a.settings.eps s.requires.2 in
    (rw c.given-g.ensures (record { matrix = q.matrix; square = refl; labels = s.requires.1; floats = R.floats }), rw c.given-g.ensures R.some, q.budget_most, rw c.given-g.ensures (omega (arith, o)), rw c.given-g.ensures R.result, rw c.given-g.ensures R.bytes, neg-fits binary64 (of_bits binary64 0x3ff0000000000000) (of_bits-fits binary64 0x3ff0000000000000))

pub returns : goal.returns
returns c =
    let s = c in
    let a = s.args in
    let R = s.requires.0 in
    let q = c_fine a.n a.m.now a.l.now a.cpos a.cneg a.settings.eps a.settings.budget s.requires.2 in
    whole_still _ Signed a.m.now a.l.now (costs_to a.cpos a.cneg a.l.now nothing a.n) nothing (evenly minus_one a.n) (ceilings_of a.cpos a.cneg) (λ k. minus_one) a.settings.budget a.h.now a.f.now a.y.now _ refl refl
    (c_lent _ R.most a.l.now refl q.labels a.cpos a.cneg q.cpos_good q.cneg_good) R.floats (rw c.given-g.ensures at c.fit_cleared.ensures)
