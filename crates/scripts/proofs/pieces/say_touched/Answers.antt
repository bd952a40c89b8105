-- `scripts::pieces::say_touched` meets its contract: nothing is said of what was kept.
use Rattle.std.proofs.Common.{refl}
use Rattle.parts.proofs.SayingLaws.{says_nothing}
use Rattle.scripts.specs.Pieces.{touched}
use Rattle.scripts.proofs.pieces.say_touched.Goals as goal

pub returns-then-not-kept : goal.returns-then-not-kept
unfolding touched
returns-then-not-kept c = rw c.if-not-kept.true c.say.ensures

pub returns-else-not-kept : goal.returns-else-not-kept
unfolding touched
returns-else-not-kept c = rw c.if-not-kept.false (says_nothing c.args.said.now c.args.said.now refl refl)
