-- `scripts::apart::wrong` meets its contract: the first wrong line is said, then a colon and the numbers of the value.
use Rattle.parts.proofs.SayingLaws.{says_says}
use Rattle.scripts.specs.Apart.{wrong_text}
use Rattle.scripts.proofs.apart.wrong.Goals as goal

pub returns : goal.returns
unfolding wrong_text
returns c =
    says_says (rw c.from.ensures at c.say_form.ensures) (says_says c.say_colon.ensures (rw (c.from-2.ensures, c.from-3.ensures, c.from-4.ensures) at c.say_form-2.ensures))
