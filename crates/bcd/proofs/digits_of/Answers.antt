-- `bcd::digits_of` meets its contract: the three digits of the size, and the sign above them.
use mathlib.Core.Path.{◌≡◌}
use mir.Syntax.{w16}
use mir.Val.{to_z, of_z}
use Rattle.bcd.proofs.CastLaws.{word_back, minus-digits, plus_digits}
use Rattle.bcd.proofs.digits_of.Goals.{Start}
use Rattle.bcd.proofs.digits_of.Goals as goal

-- what is tested and measured is the value
read : (s : Start) → to_z w16 (of_z w16 s.args.value) ≡ s.args.value
read s = word_back s.args.value s.requires

pub returns-then-value-lt0 : goal.returns-then-value-lt0
returns-then-value-lt0 c =
    let r = read (goal.at.returns-then-value-lt0 c).Start in
    rw (c.from-digits.ensures, c.pack.ensures, c.unsigned_abs.ensures.value, r) (minus-digits c.args.value c.requires (rw r at c.if-value-lt0.true))

pub returns-else-value-lt0 : goal.returns-else-value-lt0
returns-else-value-lt0 c =
    let r = read (goal.at.returns-else-value-lt0 c).Start in
    rw (c.from-digits.ensures, c.pack.ensures, c.unsigned_abs.ensures.value, r) (plus_digits c.args.value c.requires (rw r at c.if-value-lt0.false))
