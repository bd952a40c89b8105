-- `parts::hex::nibble` meets its contract: a letter is 9 more than its low digit.
use Rattle.std.proofs.Common.{arith, le-ltb, lt-ltb}
use Rattle.parts.proofs.hex.nibble.Goals as goal
use Rattle.parts.proofs.hex.nibble.Goals.{then-digit-lt65, else-digit-lt65}

pub returns : goal.returns
returns c =
    let digit = c.args.digit in
    (elim c.if-digit-lt65.branch [ then-digit-lt65 w ↦ rw (w.more-is, lt-ltb digit 65 w.if-digit-lt65.true) | else-digit-lt65 w ↦ rw (w.more-is, le-ltb digit 65 w.if-digit-lt65.false) ], omega arith)
