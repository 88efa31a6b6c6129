use Rattle.std.proofs.Common.{◌≡◌, ◌+◌, ◌*◌, ◌<◌, length, refl, add-one, arith}
use Rattle.std.proofs.lemmas.List.Edits.{swap_is}
use Rattle.state.specs.Moving.{swapped, swapped_fields}
use Rattle.state.proofs.Within.{within}
use Rattle.state.proofs.swap_fields.Goals as goal

pub loop-field-init : goal.loop-field-init
unfolding swapped_fields
loop-field-init g c = λ d. refl

pub loop-field-preserved : goal.loop-field-preserved
unfolding swapped_fields swapped
loop-field-preserved g c =
    let f = c.loop-field.field in
    let w = within c.args.n f c.args.i c.args.count c.requires.0 c.requires.2 c.loop-field-test.true c.requires.3 in
    let v = within c.args.n f c.args.j c.args.count c.requires.1 c.requires.2 c.loop-field-test.true c.requires.3 in
    let a : f * c.args.n + c.args.i < length c.loop-field.xs = omega arith in
    let b : f * c.args.n + c.args.j < length c.loop-field.xs = omega arith in
    λ d. rw (add-one, ← c.loop-field.invariant d, swap_is c.loop-field.xs _ _ d a b) c.swap.ensures.after

pub returns : goal.returns
returns g c = λ d. let e : c.loop-field.field ≡ c.args.count = omega arith in rw e at c.loop-field.invariant d
