-- `scripts::naming::length_in` meets its contract: the number behind the comma, up to the most.
use Rattle.std.proofs.Common.{arith}
use Rattle.scripts.specs.Words.{length_in}
use Rattle.scripts.proofs.naming.length_in.Goals as goal

pub returns : goal.returns
unfolding length_in
returns c = (rw (← c.rest.ensures, ← c.rest-2.ensures, ← c.field-word.ensures, ← c.number.ensures) c.min.ensures, omega arith)
