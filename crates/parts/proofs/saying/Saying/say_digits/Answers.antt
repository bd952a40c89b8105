-- `Saying::say_digits` meets its contract: the digits that are made are the fewest.
use Rattle.std.proofs.Common.{min, max, ◌∙◌, arith}
use Rattle.parts.proofs.SaidLaws.{numeral-made}
use Rattle.parts.proofs.saying.Saying.say_digits.Goals as goal

pub returns : goal.returns
returns c =
    let a = c.args in
    rw (c.hex-size.ensures.digits ∙ numeral-made 16 (min (max a.width 1) 16) a.n c.hex-size.result (omega arith) (omega arith) c.hex-size.ensures.len) at c.say.ensures
