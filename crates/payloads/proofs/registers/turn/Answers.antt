-- `payloads::registers::turn` meets its contract: each way's outcome is the definition's.
use Rattle.rewrite.specs.Rewriting.{turned}
use Rattle.payloads.proofs.registers.turn.Goals as goal

pub returns-in-ToBcd : goal.returns-in-ToBcd
unfolding turned
returns-in-ToBcd c = rw c.in-ToBcd.is c.encode.ensures

pub returns-in-ToBinary : goal.returns-in-ToBinary
unfolding turned
returns-in-ToBinary c = rw c.in-ToBinary.is c.decode.ensures
