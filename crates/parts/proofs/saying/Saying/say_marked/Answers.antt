-- `Saying::say_marked` meets its contract, mark by mark.
use Rattle.std.proofs.Common.{rules}
use Rattle.parts.specs.Said.{marked}
use Rattle.parts.proofs.SaidLaws.{marked_other}
use Rattle.parts.proofs.saying.Saying.say_marked.Goals as goal

pub returns-in-68 : goal.returns-in-68
unfolding marked
returns-in-68 c = rw c.in-68.is c.say_decimal.ensures

pub returns-in-66 : goal.returns-in-66
unfolding marked
returns-in-66 c = rw c.in-66.is c.say_digits.ensures

pub returns-in-88 : goal.returns-in-88
unfolding marked
returns-in-88 c = rw c.in-88.is c.say_digits-in-88.ensures

pub returns-in-76 : goal.returns-in-76
unfolding marked
returns-in-76 c = rw c.in-76.is c.say_digits-in-76.ensures

pub returns-in_default : goal.returns-in_default
returns-in_default c =
    let a = c.args in
    rw (marked_other a.mark a.n (search rules) (search rules) (search rules) (search rules)) at c.say.ensures
