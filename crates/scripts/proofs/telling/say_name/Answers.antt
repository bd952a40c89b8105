-- `scripts::telling::say_name` meets its contract: a lost link has a name of its own, any other answer that of its report.
use Rattle.scripts.specs.Telling.{name_text}
use Rattle.scripts.proofs.PieceLaws.{name_other}
use Rattle.scripts.proofs.telling.say_name.Goals as goal

pub returns-in-Lost : goal.returns-in-Lost
unfolding name_text
returns-in-Lost c = rw (c.in-Lost.is, ← c.from.ensures) c.say_form.ensures

pub returns-in_default : goal.returns-in_default
returns-in_default c = rw (name_other c.args.answer c.in_default.not-Lost, ← c.requires) c.say_outcome.ensures
