-- `checking::words::closed_word` meets its contract: bit 32 by or.
use Rattle.laws.proofs.BitLaws.{or_with}
use Rattle.pdu.specs.Words.{closed_bit}
use Rattle.checking.proofs.words.closed_word.Goals as goal

pub returns : goal.returns
returns c = or_with c.args.word closed_bit
