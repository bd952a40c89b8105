-- `Writer::tags` meets its contract: the lines of all tags, one tag a turn.
use Rattle.settingstext.proofs.WritingLaws.{Written}
use Rattle.settingstext.proofs.writing.Writer.tags.Given as goal

abbrev pub invariant-loop-k : goal.invariant-loop-k
invariant-loop-k l = Written l.s l.initial.self l.self l.k
