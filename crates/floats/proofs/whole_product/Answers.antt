use Rattle.floats.proofs.whole_product.Goals as goal

pub returns : goal.returns
returns c = rw (← c.whole_as_float.ensures) c.whole_part.ensures
