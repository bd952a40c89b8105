-- `Writer::bytes` meets its contract: the first bytes stand behind one another.
use lib.ListN.{take}
use Rattle.settingstext.specs.inner.Parts.{Lays}
use Rattle.settingstext.proofs.writing.Writer.bytes.Given as goal

abbrev pub invariant-loop-byte : goal.invariant-loop-byte
invariant-loop-byte l = Lays (take l.byte-index l.bytes) l.initial.self l.self
