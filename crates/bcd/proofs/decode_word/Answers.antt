-- `bcd::decode_word` meets its contract: the lowest nibbles are those of the lowest word.
use Rattle.bcd.proofs.RegisterLaws.{word_decoded, word_refused}
use Rattle.bcd.proofs.decode_word.Goals as goal

pub returns-then-is_decimal : goal.returns-then-is_decimal
returns-then-is_decimal c = rw c.from.ensures (word_decoded 4 _ _ _ c.is_decimal.ensures c.if-is_decimal.true c.unpack.ensures)

pub returns-else-is_decimal : goal.returns-else-is_decimal
returns-else-is_decimal c = word_refused 4 _ _ c.is_decimal.ensures c.if-is_decimal.false
