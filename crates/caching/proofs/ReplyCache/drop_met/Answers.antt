-- `ReplyCache::drop_met` meets its contract: a read drops nothing, and any other request what it spoils.
use mathlib.Core.Path.{ap, sym, ◌∙◌}
use Rattle.pdu.specs.Reads.{is_read}
use Rattle.caching.proofs.DropLaws.{dropped_read, dropped_all}
use Rattle.caching.proofs.ReplyCache.drop_met.Goals as goal

pub returns-else-not-is_read-clause-drops : goal.returns-else-not-is_read-clause-drops
returns-else-not-is_read-clause-drops c w unit asked = dropped_all _ _ _ (dropped_read _ _ _ (ap is_read asked ∙ sym c.is_read.ensures ∙ c.if-not-is_read.false))
