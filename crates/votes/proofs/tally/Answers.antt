use Prim.Native.Nat.{◌<◌}
use mathlib.Core.Path.{◌≡◌, refl, sym}
use native.Mathlib.Numerals.{add-one}
use native.Mathlib.Omega.{arith}
use lib.ListN.{length-set, get_or-replicate}
use Rattle.votes.specs.Votes.{pairs_of, panel, sides_of, pair_start, vote_of, votes_to}
use Rattle.votes.proofs.Pairs.{sides_ordered, pairs_few}
use Rattle.votes.proofs.Laws.{votes_at_most}
use Rattle.votes.proofs.Steps.{start_within, vote_counted, vote_made}
use borrow.Author.Rules.{rules}
use Rattle.votes.proofs.tally.Goals as goal

pub pairs_of-n-requires : goal.pairs_of-n-requires
pairs_of-n-requires c = (c.requires.some, c.requires.most)

pub loop-p-init : goal.loop-p-init
unfolding sides_of pair_start votes_to
loop-p-init c = (search rules, c.pairs_of-n.ensures, refl, refl, refl, λ x h. get_or-replicate 12 x 0 0 h)

pub word_at-count-requires : goal.word_at-count-requires
word_at-count-requires c = omega (arith, c.requires.held, c.loop-p.invariant.1)

pub pair_sum-sum-requires : goal.pair_sum-sum-requires
pair_sum-sum-requires c =
    let within = start_within c.args.held.now c.pairs_of-n.result c.loop-p.p c.loop-p-test.true in
    let n = c.loop-p.invariant.1 in
    let total = rw n at within in
    (omega (arith, total, c.word_at-count.ensures, c.loop-p.invariant.4, c.requires.coefficients), omega (arith, total, c.word_at-count.ensures, c.loop-p.invariant.4, c.requires.values))

pub float_at-requires : goal.float_at-requires
float_at-requires c = omega (arith, c.requires.rhos, c.loop-p.invariant.1)

pub offset_bounds-t-x : goal.offset_bounds-t-x
offset_bounds-t-x c =
    let l = panel c.args.c.now c.args.v.now c.args.held.now c.args.valued.now c.args.rhos.now in
    let v = c.loop-p.invariant in
    let w = vote_made c.args.k l c.pairs_of-n.result c.loop-p.p c.requires v.1 c.loop-p-test.true v.3 v.4 c.word_at-count.ensures c.pair_sum-sum.ensures c.float_at.ensures c.side_chosen-x.ensures in
    record { fits = omega (arith, w.1) }

pub offset_bounds-t-x-in-loop-p : goal.offset_bounds-t-x-in-loop-p
offset_bounds-t-x-in-loop-p c =
    let l = panel c.args.c.now c.args.v.now c.args.held.now c.args.valued.now c.args.rhos.now in
    let v = c.loop-p.invariant in
    let w = vote_made c.args.k l c.pairs_of-n.result c.loop-p.p c.requires v.1 c.loop-p-test.true v.3 v.4 c.word_at-count.ensures c.pair_sum-sum.ensures c.float_at.ensures c.side_chosen-x.ensures in
    record { fits = omega (arith, w.1) }

pub bounds-t-x : goal.bounds-t-x
bounds-t-x c =
    let l = panel c.args.c.now c.args.v.now c.args.held.now c.args.valued.now c.args.rhos.now in
    let v = c.loop-p.invariant in
    let w = vote_made c.args.k l c.pairs_of-n.result c.loop-p.p c.requires v.1 c.loop-p-test.true v.3 v.4 c.word_at-count.ensures c.pair_sum-sum.ensures c.float_at.ensures c.side_chosen-x.ensures in
    w.1

pub bounds-t-x-in-loop-p : goal.bounds-t-x-in-loop-p
bounds-t-x-in-loop-p c =
    let l = panel c.args.c.now c.args.v.now c.args.held.now c.args.valued.now c.args.rhos.now in
    let v = c.loop-p.invariant in
    let w = vote_made c.args.k l c.pairs_of-n.result c.loop-p.p c.requires v.1 c.loop-p-test.true v.3 v.4 c.word_at-count.ensures c.pair_sum-sum.ensures c.float_at.ensures c.side_chosen-x.ensures in
    w.1

pub overflow_add-t : goal.overflow_add-t
overflow_add-t c =
    let l = panel c.args.c.now c.args.v.now c.args.held.now c.args.valued.now c.args.rhos.now in
    let v = c.loop-p.invariant in
    let w = vote_made c.args.k l c.pairs_of-n.result c.loop-p.p c.requires v.1 c.loop-p-test.true v.3 v.4 c.word_at-count.ensures c.pair_sum-sum.ensures c.float_at.ensures c.side_chosen-x.ensures in
    let x = c.side_chosen-x.result in
    record { fits = omega (arith, v.5 x w.1, votes_at_most c.args.k l c.loop-p.p x, pairs_few c.args.k c.requires.most, v.0, v.1) }

pub sides_after-s-requires : goal.sides_after-s-requires
sides_after-s-requires c =
    let v = c.loop-p.invariant in
    let o = sides_ordered c.args.k c.loop-p.p c.requires.most (omega (arith, v.1)) in
    rw v.3 (omega (arith, o.0, o.1, c.requires.most), omega (arith, o.1, c.requires.most))

pub overflow_add-start : goal.overflow_add-start
overflow_add-start c =
    let within = start_within c.args.held.now c.pairs_of-n.result c.loop-p.p c.loop-p-test.true in
    let total = rw c.loop-p.invariant.1 at within in
    record { fits = omega (arith, total, c.word_at-count.ensures, c.loop-p.invariant.4, c.requires.coefficients) }

pub loop-p-preserved : goal.loop-p-preserved
unfolding sides_of pair_start
loop-p-preserved c =
    let l = panel c.args.c.now c.args.v.now c.args.held.now c.args.valued.now c.args.rhos.now in
    let v = c.loop-p.invariant in
    let w = vote_made c.args.k l c.pairs_of-n.result c.loop-p.p c.requires v.1 c.loop-p-test.true v.3 v.4 c.word_at-count.ensures c.pair_sum-sum.ensures c.float_at.ensures c.side_chosen-x.ensures in
    let h : vote_of c.args.k l c.loop-p.p < 12 = rw w.0 at w.1 in
    (search rules, v.1, simp length-set v.2, rw (add-one, ← v.3) c.sides_after-s.ensures, rw (add-one, ← v.4, ← c.word_at-count.ensures), rw (add-one c.loop-p.p, w.0) (vote_counted c.args.k l c.loop-p.p c.loop-p.t v.2 h v.5))

pub returns : goal.returns
returns c =
    let v = c.loop-p.invariant in
    let e : c.loop-p.p ≡ pairs_of c.args.k = omega (arith, v.0, v.1) in
    (sym v.2, rw e at v.5)
