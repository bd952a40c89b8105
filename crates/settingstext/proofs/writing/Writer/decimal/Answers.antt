-- `Writer::decimal` meets its contract: the digits from the last to the first.
use native.Mathlib.Omega.{arith}
use mathlib.Core.Path.{refl}
use Rattle.settingstext.proofs.WritingLaws.{decimal_one, digits-none, digits_more}
use Rattle.settingstext.proofs.writing.Writer.decimal.Goals as goal

pub byte-requires : goal.byte-requires
byte-requires c = rw (← decimal_one c.args.n (omega arith)) at c.requires

pub returns-then-n-lt10 : goal.returns-then-n-lt10
returns-then-n-lt10 c = rw (decimal_one c.args.n (omega arith)) at (rw c.last_digit.ensures at c.byte.ensures)

pub loop-place-init : goal.loop-place-init
loop-place-init c = let a = c.args in (omega arith, digits-none a.n a.self.now _ c.requires (omega arith))

pub loop-place-preserved : goal.loop-place-preserved
loop-place-preserved c =
    let i = c.loop-place.invariant in
    (i.0, rw c.last_digit-in-loop-place.ensures (digits_more i.1 c.loop-place-test.true refl refl refl))
