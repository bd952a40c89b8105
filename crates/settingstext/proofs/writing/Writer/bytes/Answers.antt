-- `Writer::bytes` meets its contract: the first bytes stand behind one another.
use native.Mathlib.Omega.{arith}
use Rattle.settingstext.proofs.WritingLaws.{bytes_none, bytes_more}
use Rattle.settingstext.proofs.writing.Writer.bytes.Goals as goal

pub loop-byte-init : goal.loop-byte-init
loop-byte-init c = bytes_none c.args.bytes.now c.args.self.now

pub loop-byte-preserved : goal.loop-byte-preserved
loop-byte-preserved c = bytes_more c.args.bytes.now (omega (arith, c.requires)) (omega arith) c.loop-byte.invariant c.byte.ensures
