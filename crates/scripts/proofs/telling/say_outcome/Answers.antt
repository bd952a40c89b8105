-- `scripts::telling::say_outcome` meets its contract.
use Rattle.scripts.specs.Telling.{outcome_text}
use Rattle.scripts.proofs.telling.say_outcome.Goals as goal

pub returns : goal.returns
unfolding outcome_text
returns c = rw (c.from.ensures, c.from-2.ensures, c.from-3.ensures, c.first_number.ensures, c.field-form.ensures) at c.say_form.ensures
