-- `settingstext::reading::read_tags` meets its contract: the tags so far stand in the columns.
use Rattle.settingstext.proofs.ListingLaws.{Listed}
use Rattle.settingstext.proofs.reading.read_tags.Given as goal

abbrev pub invariant-loop-k : goal.invariant-loop-k
invariant-loop-k l = Listed l.head.version l.head.rest.now l.head.tags l.k l.rest l.line l.least l.into.addr l.into.width l.into.sign l.into.ttl l.into.strict
