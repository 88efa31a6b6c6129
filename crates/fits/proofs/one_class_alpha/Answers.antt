use borrow.Author.Tests.{lt-ltb, le-ltb, eq-eqb, ne_eqb}
use Rattle.fits.specs.Starts.{one_class_at}
use Rattle.fits.proofs.one_class_alpha.Goals as goal

pub returns-then-place-whole : goal.returns-then-place-whole
unfolding one_class_at
returns-then-place-whole c = rw (← c.whole_product-whole.ensures, lt-ltb _ _ c.if-place-whole.true)

pub returns-then-place-whole-2 : goal.returns-then-place-whole-2
unfolding one_class_at
returns-then-place-whole-2 c = rw (← c.whole_product-whole.ensures, le-ltb _ _ c.if-place-whole.false, eq-eqb _ _ c.if-place-whole-2.true, c.whole_as_float.ensures, c.whole_as_float-then-place-whole-2.ensures)

pub returns : goal.returns
unfolding one_class_at
returns c = rw (← c.whole_product-whole.ensures, le-ltb _ _ c.if-place-whole.false, ne_eqb _ _ c.if-place-whole-2.false)
