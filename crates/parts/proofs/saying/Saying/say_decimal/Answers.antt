-- `Saying::say_decimal` meets its contract: the digits that are made are the fewest.
use Rattle.std.proofs.Common.{◌∙◌, arith}
use Rattle.parts.proofs.SaidLaws.{numeral-made}
use Rattle.parts.proofs.saying.Saying.say_decimal.Goals as goal

pub returns : goal.returns
returns c =
    let a = c.args in
    rw (c.decimal-size.ensures.digits ∙ numeral-made 10 1 a.n c.decimal-size.result (omega arith) (omega arith) c.decimal-size.ensures.len) at c.say.ensures
