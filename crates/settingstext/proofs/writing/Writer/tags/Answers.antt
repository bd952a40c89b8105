-- `Writer::tags` meets its contract: the lines of all tags, one tag a turn.
use native.Mathlib.Omega.{arith}
use Rattle.settings.specs.Values.{value_of}
use Rattle.settingstext.proofs.WritingLaws.{written_none, written_more, written_all, tag-room}
use Rattle.settingstext.proofs.writing.Writer.tags.Goals as goal

pub loop-k-init : goal.loop-k-init
unfolding value_of
loop-k-init c = written_none _ _ c.requires.1

pub tag-requires-in-loop-k : goal.tag-requires-in-loop-k
tag-requires-in-loop-k c = rw c.tag.ensures (tag-room (omega arith) c.loop-k.invariant)

pub loop-k-preserved : goal.loop-k-preserved
loop-k-preserved c = written_more (omega arith) c.loop-k.invariant (rw c.tag.ensures at c.tag-in-loop-k.ensures)

pub returns : goal.returns
unfolding value_of
returns c = written_all (omega arith) c.loop-k.invariant
