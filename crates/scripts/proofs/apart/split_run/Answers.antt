-- `scripts::apart::split_run` meets its contract: what stands at the start of the run is said, and the first frame behind it.
use Rattle.parts.proofs.SayingLaws.{says_says}
use Rattle.scripts.specs.Apart.{standing_text, run_text}
use Rattle.scripts.specs.Pieces.{frame_text}
use Rattle.scripts.proofs.apart.split_run.Goals as goal

pub returns-in-Frame : goal.returns-in-Frame
unfolding standing_text run_text
returns-in-Frame c = rw (← c.in-Frame.ensures.standing, ← c.in-Frame.ensures.frame) (says_says c.say.ensures c.say_frame.ensures)

pub returns-in-MoreNeeded : goal.returns-in-MoreNeeded
unfolding standing_text run_text frame_text
returns-in-MoreNeeded c = rw (← c.in-MoreNeeded.ensures.standing, ← c.in-MoreNeeded.ensures.frame) c.say-in-MoreNeeded.ensures

pub returns-in-Refused : goal.returns-in-Refused
unfolding standing_text run_text frame_text
returns-in-Refused c = rw (← c.in-Refused.ensures.standing, ← c.in-Refused.ensures.frame) c.say-in-Refused.ensures
