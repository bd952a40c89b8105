-- `scripts::telling::tell` meets its contract: what is said piece by piece is said as a whole.
use Rattle.parts.proofs.SayingLaws.{says_says}
use Rattle.scripts.specs.Telling.{report_text}
use Rattle.scripts.proofs.telling.tell.Goals as goal

pub returns : goal.returns
unfolding report_text
returns c =
    rw (← c.report_of-r.ensures)
    (says_says c.say_name.ensures (says_says (rw c.before-2.ensures at c.say_frame.ensures) (says_says c.say_parties.ensures (says_says c.say_kept.ensures (rw c.kept_places.ensures at c.say_touched.ensures)))))
