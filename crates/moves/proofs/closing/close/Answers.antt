-- `moves::closing::close` meets its contract: a read closes nothing, and any other request what it meets.
use mathlib.Core.Path.{ap, sym, ◌∙◌}
use Rattle.pdu.specs.Reads.{is_read}
use Rattle.table.proofs.ClosingLaws.{closed_read, closed_all}
use Rattle.moves.proofs.closing.close.Goals as goal

pub returns-else-not-is_read-clause-closed : goal.returns-else-not-is_read-clause-closed
returns-else-not-is_read-clause-closed c = λ word unit asked. closed_all _ _ _ _ _ (closed_read _ _ _ _ (ap is_read asked ∙ sym c.is_read.ensures ∙ c.if-not-is_read.false))
