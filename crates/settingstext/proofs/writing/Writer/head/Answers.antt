-- `Writer::head` meets its contract: the first four lines, the rest as it was.
use native.Mathlib.Omega.{arith}
use Rattle.settingstext.proofs.WritingLaws.{length_head, lays_head}
use Rattle.settingstext.proofs.writing.Writer.head.Goals as goal

pub line-requires : goal.line-requires
line-requires c = let a = c.args.s.now in omega (arith, length_head a.timeout a.join a.tags)

pub line-requires-2 : goal.line-requires-2
line-requires-2 c = let a = c.args.s.now in omega (arith, length_head a.timeout a.join a.tags)

pub line-requires-3 : goal.line-requires-3
line-requires-3 c = let a = c.args.s.now in omega (arith, length_head a.timeout a.join a.tags)

pub line-requires-4 : goal.line-requires-4
line-requires-4 c = let a = c.args.s.now in omega (arith, length_head a.timeout a.join a.tags)

pub returns : goal.returns
returns c =
    let a = c.args.s.now in
    lays_head a.timeout a.join a.tags (omega (arith, c.requires)) c.line.ensures c.line-2.ensures c.line-3.ensures c.line-4.ensures
