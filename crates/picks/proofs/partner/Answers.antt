use Prim.Native.Nat.{◌+◌, ◌*◌, ◌/◌, ◌≤◌}
use mathlib.Core.Path.{◌≡◌, refl, sym, ap, ◌∙◌}
use native.Mathlib.Omega.{arith}
use lib.Ieee.{of_bits, div}
use Rattle.extreme.specs.Best.{best}
use Rattle.extreme.specs.declared.Race.{Race}
use Rattle.picks.proofs.Steps.{raced_partner, raced_rest, calm, same_leader}
use Rattle.picks.proofs.partner.Goals as goal
use Rattle.picks.proofs.partner.Goals.{then-stirred, else-stirred}

pub loop-block-init : goal.loop-block-init
unfolding best div of_bits
loop-block-init c = (refl, c.bar_of-bar.ensures)

pub stirred-requires : goal.stirred-requires
stirred-requires c =
    let a = c.args in
    let P = c.requires in
    (P.0, P.1, omega arith, P.2, P.3, λ h. P.4 ∙ same_leader a.g a.m.now a.y.now a.f.now h ∙ sym P.5)

pub eight-r-requires : goal.eight-r-requires
eight-r-requires c =
    let a = c.args in
    let P = c.requires in
    (P.0, P.1, omega arith, P.2, P.3, λ h. P.4 ∙ same_leader a.g a.m.now a.y.now a.f.now h ∙ sym P.5)

pub loop-block-preserved : goal.loop-block-preserved
loop-block-preserved c =
    let a = c.args in
    let P = c.requires in
    let v = c.loop-block.invariant in
    let t = 8 * c.loop-block.block in
    let room : t + 8 ≤ a.g.n = omega arith in
    let next : 8 * (c.loop-block.block + 1) ≡ t + 8 = omega arith in
    let whole = raced_partner a.g a.m.now a.y.now a.f.now t 8 in
    rw next (elim c.if-stirred.branch [
      | then-stirred w ↦ (w.r-is ∙ rw (P.4, P.5, v.0) at w.eight-r.ensures ∙ whole, rw w.r-is (w.bar-is ∙ w.bar_of-bar-then-stirred.ensures))
      | else-stirred w ↦ (
        w.r-is ∙ v.0 ∙ sym (calm a.g a.m.now a.y.now a.f.now P.1 _ _ t 8 room (rw (P.4, P.5, v.1, v.0) at (sym c.stirred.ensures ∙ w.if-stirred.false))) ∙ whole,
        rw w.r-is (w.bar-is ∙ v.1),
      )
    ])

pub returns : goal.returns
returns c =
    let a = c.args in
    let P = c.requires in
    let v = c.loop-block.invariant in
    let e : c.loop-block.block ≡ a.g.n / 8 = omega arith in
    let all = rw e at v.0 in
    ap (λ (r : Race). r.at) (rw (P.4, P.5, all) at c.raced_to.ensures ∙ raced_rest a.g a.m.now a.y.now a.f.now (8 * (a.g.n / 8)) (omega arith))
