-- `reports::write` meets its contract: each case of what writing comes to.
use Rattle.std.specs.Prelude.{Err}
use mathlib.Core.Path.{ap, ◌∙◌}
use native.Mathlib.Omega.{arith}
use Rattle.reports.specs.Reports.{wrote_told}
use Rattle.reports.proofs.ReportLaws.{written_low, write_is}
use Rattle.reports.proofs.write.Goals as goal

pub overflow_cast-size : goal.overflow_cast-size
overflow_cast-size c =
    let low = written_low _ _ _ _ _ c.write_text.ensures c.in-Ok.is in
    record { fits = omega arith }

pub returns-in-Ok : goal.returns-in-Ok
unfolding wrote_told
returns-in-Ok c = write_is _ c.said.ensures c.in-Ok.is c.write_text.ensures

pub returns-in-Err-TooShort : goal.returns-in-Err-TooShort
unfolding wrote_told
returns-in-Err-TooShort c = write_is _ c.said-in-Err-TooShort.ensures (c.in-Err-TooShort.is ∙ ap Err c.in-Err-TooShort.field-0-is) c.write_text.ensures

pub returns-in-Err-Invalid : goal.returns-in-Err-Invalid
unfolding wrote_told
returns-in-Err-Invalid c = write_is _ c.said-in-Err-Invalid.ensures (c.in-Err-Invalid.is ∙ ap Err c.in-Err-Invalid.field-0-is) c.write_text.ensures
