-- `parts::rest` meets its contract: the text is dropped up to where the byte first stands, and one byte more.
use Rattle.parts.proofs.TextLaws.{rest_end}
use Rattle.parts.proofs.rest.Goals as goal

pub returns : goal.returns
returns c =
    let a = c.args in
    cc (rest_end a.byte a.s.now 0 c.end_of.result c.end_of.ensures.2)
