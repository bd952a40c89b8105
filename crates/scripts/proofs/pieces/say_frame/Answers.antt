-- `scripts::pieces::say_frame` meets its contract: the ':' and the bytes are said as one.
use Rattle.parts.proofs.SayingLaws.{says_says, says_nothing}
use Rattle.std.proofs.Common.{sym, ◌∙◌, refl}
use Rattle.scripts.specs.Pieces.{frame_text}
use Rattle.scripts.proofs.pieces.say_frame.Goals as goal

pub returns-then-not-is_empty : goal.returns-then-not-is_empty
unfolding frame_text
returns-then-not-is_empty c = rw (sym c.is_empty.ensures ∙ c.if-not-is_empty.true) (says_says c.say_colon.ensures c.say_hex.ensures)

pub returns-else-not-is_empty : goal.returns-else-not-is_empty
unfolding frame_text
returns-else-not-is_empty c =
    rw (sym c.is_empty.ensures ∙ c.if-not-is_empty.false) (says_nothing c.args.said.now c.args.said.now refl refl)
