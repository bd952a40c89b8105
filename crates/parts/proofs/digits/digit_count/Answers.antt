-- `parts::digits::digit_count` meets its contract: a number has one digit more than its logarithm, and 0 has one.
use Rattle.std.proofs.Common.{◌∙◌}
use Rattle.parts.proofs.DigitLaws.{count_log}
use Rattle.parts.proofs.digits.digit_count.Goals as goal

pub returns : goal.returns
returns c =
    let l = c.checked_ilog.ensures in
    let a = c.args in
    count_log a.base a.width a.n c.checked_ilog.result c.requires.base c.requires.width_nonzero l.variant l.power_le l.next_power_gt c.max.result (c.max.ensures ∙ rw c.unwrap_or.ensures)
