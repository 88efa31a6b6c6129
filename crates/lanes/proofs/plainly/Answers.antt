use Rattle.std.proofs.Common.{◌≡◌, ◌+◌, ◌-◌, ◌<◌, true, false, cond, length, take, drop, get_or, refl, ◌∙◌, add-one, arith}
use Rattle.std.proofs.lemmas.List.Edits.{length-between, get_or-between}
use lib.Ieee.{nan, inf, of_bits, div}
use Rattle.extreme.specs.Best.{at_most, best}
use Rattle.extreme.specs.Racing.{below}
use Rattle.extreme.proofs.Racing.{race_weighed}
use Rattle.lanes.proofs.plainly.Goals as goal

pub loop-k-init : goal.loop-k-init
unfolding best div of_bits
loop-k-init c = refl

pub loop-k-preserved : goal.loop-k-preserved
unfolding best
loop-k-preserved c =
    let a = c.args in
    let k = c.loop-k.k in
    let long : length (take (a.o + a.n - a.o) (drop a.o a.f.now)) ≡ a.o + a.n - a.o = length-between a.f.now a.o (a.o + a.n) (omega arith) in
    let inside : a.o + k < a.o + a.n = omega arith in
    let v = get_or-between a.f.now a.o (a.o + a.n) k nan inside in
    let e = best (cond a.nu below at_most) (inf false) (λ k. true) (λ k. get_or a.f.now (a.o + k) nan) k in
    rw add-one (rw (c.less.ensures, c.loop-k.invariant, v) at c.taken-r.ensures ∙ race_weighed (cond a.nu below at_most) a.n k (get_or a.f.now (a.o + k) nan) true e)

pub returns : goal.returns
returns c =
    let a = c.args in
    let long : length (take (a.o + a.n - a.o) (drop a.o a.f.now)) ≡ a.o + a.n - a.o = length-between a.f.now a.o (a.o + a.n) (omega arith) in
    let all : c.loop-k.k ≡ a.n = omega arith in
    rw all at c.loop-k.invariant
