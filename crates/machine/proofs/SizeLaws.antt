-- What a call answers, and what is told of the next deadline, have in memory the sizes of zb_answer and zb_next.
-- Assumes nothing.
use prog.Memory.{size}
use mathlib.Core.Path.{◌≡◌, refl}
use Rattle.machine.proofs.Report.TheLaws as report
use Rattle.machine.proofs.NextDeadline.TheLaws as next

pub answer_size : size report.mir ≡ 40
answer_size = refl

pub next-size : size next.mir ≡ 16
next-size = refl
