-- `bcd::encode_signed` meets its contract: its test is the range, and a value in the range has the digits of its integer.
use mathlib.Core.Path.{sym, ◌∙◌}
use mir.Syntax.{w16}
use mir.Val.{to_z}
use Rattle.bcd.specs.declared.Kind.TheVariants.{Signed16}
use Rattle.bcd.specs.Bcd.{encoded}
use Rattle.bcd.proofs.RoundTrip.{encode_refuses}
use Rattle.bcd.proofs.CastLaws.{word_back}
use Rattle.bcd.proofs.IntegerLaws.{integer_sent}
use Rattle.bcd.proofs.encode_signed.Goals as goal

pub value_of-requires : goal.value_of-requires
value_of-requires c = sym c.has_three_digits.ensures ∙ c.if-has_three_digits.true

pub digits_of-requires : goal.digits_of-requires
digits_of-requires c =
    let v = c.args.v in
    let s = integer_sent v (sym c.has_three_digits.ensures ∙ c.if-has_three_digits.true) in
    rw (c.value_of.ensures, word_back (to_z w16 v) s.0) s.0

pub returns-then-has_three_digits : goal.returns-then-has_three_digits
unfolding encoded
returns-then-has_three_digits c =
    let v = c.args.v in
    let s = integer_sent v (sym c.has_three_digits.ensures ∙ c.if-has_three_digits.true) in
    rw (c.digits_of.ensures, c.value_of.ensures, word_back (to_z w16 v) s.0) (sym s.1)

pub returns-else-has_three_digits : goal.returns-else-has_three_digits
unfolding encoded
returns-else-has_three_digits c = sym ((encode_refuses Signed16 _).1 (sym c.has_three_digits.ensures ∙ c.if-has_three_digits.false))
