use Rattle.course.proofs.join.Goals as goal

pub returns-then-v : goal.returns-then-v
returns-then-v c = rw c.if-v.true

pub returns : goal.returns
returns c = rw c.if-v.false (rw c.signed.ensures at c.bring.ensures)
