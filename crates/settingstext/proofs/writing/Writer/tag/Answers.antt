-- `Writer::tag` meets its contract: the lines of a tag, the rest as it was.
use native.Mathlib.Omega.{arith}
use Rattle.settingstext.proofs.WritingLaws.{length-tag, lays_tag}
use Rattle.settingstext.proofs.writing.Writer.tag.Goals as goal

pub line-requires : goal.line-requires
line-requires c = omega (arith, length-tag c.args.tag)

pub line-requires-2 : goal.line-requires-2
line-requires-2 c = omega (arith, length-tag c.args.tag)

pub line-requires-3 : goal.line-requires-3
line-requires-3 c = omega (arith, length-tag c.args.tag)

pub line-requires-4 : goal.line-requires-4
line-requires-4 c = omega (arith, length-tag c.args.tag)

pub line-requires-5 : goal.line-requires-5
line-requires-5 c = omega (arith, length-tag c.args.tag)

pub returns : goal.returns
returns c =
    lays_tag c.args.tag (omega (arith, c.requires)) c.line.ensures c.line-2.ensures c.line-3.ensures c.line-4.ensures c.line-5.ensures
