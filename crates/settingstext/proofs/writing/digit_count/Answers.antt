-- `settingstext::writing::digit_count` meets its contract: how many digits a number has, by the powers of ten between which it lies.
use mathlib.Core.Path.{ap}
use native.Mathlib.Omega.{arith}
use lib.ListN.{length}
use Rattle.settingstext.proofs.WritingLaws.{decimal_one, digits_ranged}
use Rattle.settingstext.proofs.writing.digit_count.Goals as goal

pub returns-in-0-to-9 : goal.returns-in-0-to-9
returns-in-0-to-9 c = ap length (decimal_one c.args.n (omega arith))

pub returns-in-10-to-99 : goal.returns-in-10-to-99
returns-in-10-to-99 c = digits_ranged 1 c.args.n (omega arith) (omega arith) (omega arith)

pub returns-in-100-to-999 : goal.returns-in-100-to-999
returns-in-100-to-999 c = digits_ranged 2 c.args.n (omega arith) (omega arith) (omega arith)

pub returns-in-1000-to-9999 : goal.returns-in-1000-to-9999
returns-in-1000-to-9999 c = digits_ranged 3 c.args.n (omega arith) (omega arith) (omega arith)

pub returns-in-10000-to-99999 : goal.returns-in-10000-to-99999
returns-in-10000-to-99999 c = digits_ranged 4 c.args.n (omega arith) (omega arith) (omega arith)

pub returns-in-100000-to-999999 : goal.returns-in-100000-to-999999
returns-in-100000-to-999999 c = digits_ranged 5 c.args.n (omega arith) (omega arith) (omega arith)

pub returns-in-1000000-to-9999999 : goal.returns-in-1000000-to-9999999
returns-in-1000000-to-9999999 c = digits_ranged 6 c.args.n (omega arith) (omega arith) (omega arith)

pub returns-in-10000000-to-99999999 : goal.returns-in-10000000-to-99999999
returns-in-10000000-to-99999999 c = digits_ranged 7 c.args.n (omega arith) (omega arith) (omega arith)

pub returns-in-100000000-to-999999999 : goal.returns-in-100000000-to-999999999
returns-in-100000000-to-999999999 c = digits_ranged 8 c.args.n (omega arith) (omega arith) (omega arith)

pub returns-in_default : goal.returns-in_default
returns-in_default c = digits_ranged 9 c.args.n (omega arith) (omega arith) (omega (arith, c.ranges.n.fits))
