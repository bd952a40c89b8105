-- `scripts::telling::say_party` meets its contract: both numbers are of the list, behind as much of the form as is said.
use Rattle.scripts.proofs.telling.say_party.Goals as goal

pub returns : goal.returns
returns c =
    rw (c.behind-form.ensures, c.skipped.ensures, c.from.ensures, c.from-2.ensures, c.place_at-client.ensures, c.place_at-id.ensures) at c.say_form.ensures
