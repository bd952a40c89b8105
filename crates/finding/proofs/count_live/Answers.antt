-- `finding::count_live` meets its contract: of the places that are passed, `live` are live.
use mathlib.Core.Path.{◌≡◌, refl, ◌∙◌}
use native.Mathlib.Omega.{arith}
use lib.ListN.{get_or, take}
use Rattle.std.proofs.Common.{get_or-take}
use borrow.Author.Tests.{eq-eqb, ne_eqb}
use Rattle.laws.specs.Search.{count}
use Rattle.laws.proofs.CountLaws.{count_le, count_more}
use Rattle.table.specs.inner.Places.{is_taken}
use Rattle.finding.proofs.count_live.Goals as goal
use Rattle.finding.proofs.count_live.Goals.{then-held-ne0, else-held-ne0}

pub loop-held-init : goal.loop-held-init
unfolding count
loop-held-init c = refl

pub overflow_add-live : goal.overflow_add-live
overflow_add-live c = omega (arith, count_le (is_taken c.args.table.now.ids) c.loop-held.held-index)

pub loop-held-preserved : goal.loop-held-preserved
loop-held-preserved c =
    let t = c.args.table.now in
    let ids = t.ids in
    let k = c.loop-held.held-index in
    let e : get_or (take t.top ids) k 0 ≡ get_or ids k 0 = get_or-take t.top ids k 0 (omega arith) in
    rw (count_more (is_taken ids) k)
    (elim c.if-held-ne0.branch [
      | then-held-ne0 w ↦ rw (ne_eqb (get_or ids k 0) 0 (rw e at w.if-held-ne0.true)) (w.live-is ∙ omega arith)
      | else-held-ne0 w ↦ rw (eq-eqb (get_or ids k 0) 0 (rw e at w.if-held-ne0.false)) (w.live-is ∙ omega arith)
    ])
