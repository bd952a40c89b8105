-- `scripts::apart::whole` meets its contract: the number of bytes is said, then a colon, a blank and the text with '/' for LF.
use Rattle.parts.proofs.SayingLaws.{says_says}
use Rattle.scripts.specs.Apart.{whole_text}
use Rattle.scripts.proofs.apart.whole.Goals as goal

pub returns : goal.returns
unfolding whole_text
returns c = says_says c.say_form.ensures (says_says c.say_colon.ensures (says_says c.say.ensures (rw (c.before-2.ensures, c.exchanged-text.ensures.0) at c.say-2.ensures)))
