-- `reports::read` meets its contract: what is told of a text by its first wrong line.
use Rattle.reports.proofs.ReportLaws.{read_told}
use Rattle.reports.proofs.read.Goals as goal

pub returns : goal.returns
returns c = read_told _ c.read_text-read.ensures c.read_as-answer.ensures
