-- `finding::skip_later` meets its contract: each place that is passed has a later deadline.
use native.Mathlib.Omega.{arith}
use borrow.Author.Tests.{leb-false}
use Rattle.laws.proofs.Choice.{or_four}
use Rattle.laws.proofs.SpanLaws.{span_four}
use Rattle.finding.proofs.skip_later.Goals as goal

pub loop-n-preserved : goal.loop-n-preserved
loop-n-preserved c = λ j l h.
    let w = or_four _ _ _ _ c.if-table-k.false in
    span_four _ _ _ c.loop-n.invariant (leb-false _ _ w.0) (leb-false _ _ w.1) (leb-false _ _ w.2) (leb-false _ _ w.3) j l (omega arith)
