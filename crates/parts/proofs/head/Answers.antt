-- `parts::head` meets its contract: the text is taken up to where the byte first stands.
use Rattle.std.proofs.Common.{◌∙◌}
use Rattle.parts.proofs.TextLaws.{head_end}
use Rattle.parts.proofs.head.Goals as goal

pub returns : goal.returns
returns c =
    let a = c.args in
    c.before-2.ensures ∙ head_end a.byte a.s.now c.end_of.result c.end_of.ensures.2
