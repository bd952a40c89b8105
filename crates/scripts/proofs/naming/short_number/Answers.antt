-- `scripts::naming::short_number` meets its contract: the word is a number of 64 bits, of which 32 are taken.
use Rattle.scripts.proofs.naming.short_number.Goals as goal

pub returns : goal.returns
returns c = rw (c.number.ensures, c.field.ensures, c.from.ensures)
