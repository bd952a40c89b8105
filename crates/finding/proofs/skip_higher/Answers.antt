-- `finding::skip_higher` meets its contract: no place that is passed may be sooner.
use mathlib.Core.Path.{sym, ◌∙◌}
use native.Mathlib.Omega.{arith}
use Rattle.laws.proofs.Choice.{or_four}
use Rattle.laws.proofs.SpanLaws.{span_four}
use Rattle.finding.proofs.skip_higher.Goals as goal

pub loop-n-preserved : goal.loop-n-preserved
loop-n-preserved c = λ j l h.
    let w = or_four _ _ _ _ c.if-may_be_sooner.false in
    span_four _ _ _ c.loop-n.invariant
    (sym c.may_be_sooner.ensures ∙ w.0)
    (sym c.may_be_sooner-in-loop-n.ensures ∙ w.1)
    (sym c.may_be_sooner-in-loop-n-2.ensures ∙ w.2)
    (sym c.may_be_sooner-in-loop-n-3.ensures ∙ w.3)
    j l (omega arith)
