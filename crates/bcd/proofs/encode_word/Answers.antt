-- `bcd::encode_word` meets its contract: a value in the range has its digits packed.
use mathlib.Core.Path.{sym}
use Rattle.bcd.proofs.OutcomeLaws.{encoded_above}
use Rattle.bcd.proofs.RegisterLaws.{word_encoded}
use Rattle.bcd.proofs.encode_word.Goals as goal

pub returns-then-v-lt-FOUR_DIGITS : goal.returns-then-v-lt-FOUR_DIGITS
returns-then-v-lt-FOUR_DIGITS c = rw c.from.ensures (word_encoded 4 _ _ c.if-v-lt-FOUR_DIGITS.true c.pack.ensures)

pub returns-else-v-lt-FOUR_DIGITS : goal.returns-else-v-lt-FOUR_DIGITS
returns-else-v-lt-FOUR_DIGITS c = sym (encoded_above 4 _ c.if-v-lt-FOUR_DIGITS.false)
