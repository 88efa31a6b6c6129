use mathlib.Core.Path.{sym, ◌∙◌}
use native.Mathlib.Omega.{arith}
use Rattle.state.specs.Moving.{moved}
use Rattle.shrink.specs.Drops.{drops_at}
use Rattle.shrink.proofs.Laws.{visited_past, visited_kept, visited_none, visited_some}
use Rattle.shrink.proofs.visit.Goals as goal

pub returns-then-l-active : goal.returns-then-l-active
returns-then-l-active c = (visited_past (drops_at c.args.n c.args.l) _ c.args.i (moved c.args.n) c.args.l.ends _ _ c.if-l-active.true, omega arith)

pub returns-then-not-drops : goal.returns-then-not-drops
returns-then-not-drops c = (visited_kept (drops_at c.args.n c.args.l) _ c.args.i (moved c.args.n) c.args.l.ends _ _ (sym c.drops.ensures ∙ c.if-not-drops.true), omega arith)

pub returns-then-active-eq0 : goal.returns-then-active-eq0
returns-then-active-eq0 c =
    (visited_none (drops_at c.args.n c.args.l) _ c.args.i (moved c.args.n) c.args.l.ends _ c.if-l-active.false c.if-active-eq0.true (sym c.drops.ensures ∙ c.if-not-drops.false), tt)

pub returns : goal.returns
returns c =
    let d = sym c.drops.ensures ∙ c.if-not-drops.false in (
      c.exchange.ensures ∙ rw c.fall-a.ensures.0 (visited_some (drops_at c.args.n c.args.l) _ c.args.i (moved c.args.n) c.args.l.ends _ c.if-l-active.false c.if-active-eq0.false d),
      omega (arith, c.fall-a.ensures.1),
    )
