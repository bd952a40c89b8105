-- `parts::hex::digit` meets its contract: the digit below 10, the letter from there on.
use Rattle.std.proofs.Common.{◌%◌, arith, le-ltb, lt-ltb}
use Rattle.parts.proofs.hex.digit.Goals as goal

pub returns-then-low-lt10 : goal.returns-then-low-lt10
returns-then-low-lt10 c = rw (lt-ltb (c.args.n % 16) 10 c.if-low-lt10.true)

pub returns-else-low-lt10 : goal.returns-else-low-lt10
returns-else-low-lt10 c = rw (le-ltb (c.args.n % 16) 10 c.if-low-lt10.false) (omega arith)
