-- `bcd::is_decimal` meets its contract: none of four nibbles carries.
use Rattle.bcd.proofs.CarryLaws.{no_carry}
use Rattle.bcd.specs.Plain.{ones}
use Rattle.bcd.proofs.is_decimal.Goals as goal

pub returns : goal.returns
unfolding ones
returns c = rw c.from-n.ensures (no_carry 4 c.args.w)
