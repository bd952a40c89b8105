-- `Writer::line` meets its contract: one line, the rest as it was.
use native.Mathlib.Omega.{arith}
use Rattle.settingstext.proofs.WritingLaws.{length-line, lays_line}
use Rattle.settingstext.proofs.writing.Writer.line.Goals as goal

pub bytes-requires : goal.bytes-requires
bytes-requires c = let a = c.args in omega (arith, length-line a.key.now a.n)

pub byte-requires : goal.byte-requires
byte-requires c = let a = c.args in omega (arith, length-line a.key.now a.n)

pub decimal-requires : goal.decimal-requires
decimal-requires c = let a = c.args in omega (arith, length-line a.key.now a.n)

pub byte-requires-2 : goal.byte-requires-2
byte-requires-2 c = let a = c.args in omega (arith, length-line a.key.now a.n)

pub returns : goal.returns
returns c = lays_line c.args.n (omega (arith, c.requires)) c.bytes.ensures c.byte.ensures c.decimal.ensures c.byte-2.ensures
