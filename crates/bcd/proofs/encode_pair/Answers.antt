-- `bcd::encode_pair` meets its contract: the digits of the two registers are the digits of the pair.
use mathlib.Core.Path.{sym}
use Rattle.bcd.proofs.OutcomeLaws.{encoded_above}
use Rattle.bcd.proofs.RegisterLaws.{pair_encoded}
use Rattle.bcd.proofs.encode_pair.Goals as goal

pub returns-then-v-lt-EIGHT_DIGITS : goal.returns-then-v-lt-EIGHT_DIGITS
returns-then-v-lt-EIGHT_DIGITS c =
    rw (c.from.ensures, c.from-then-v-lt-EIGHT_DIGITS.ensures) (pair_encoded 4 4 _ _ _ c.if-v-lt-EIGHT_DIGITS.true c.pack-low.ensures c.pack-high.ensures)

pub returns-else-v-lt-EIGHT_DIGITS : goal.returns-else-v-lt-EIGHT_DIGITS
returns-else-v-lt-EIGHT_DIGITS c = sym (encoded_above 8 _ c.if-v-lt-EIGHT_DIGITS.false)
