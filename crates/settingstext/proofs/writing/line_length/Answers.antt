-- `settingstext::writing::line_length` meets its contract: key, '=', digits and LF.
use native.Mathlib.Omega.{arith}
use Rattle.settingstext.proofs.WritingLaws.{decimal_most, length-line}
use Rattle.settingstext.proofs.writing.line_length.Goals as goal

pub overflow_add-result-2 : goal.overflow_add-result-2
overflow_add-result-2 c = omega (arith, decimal_most 20 c.args.n)

pub overflow_add-result-3 : goal.overflow_add-result-3
overflow_add-result-3 c = omega (arith, decimal_most 20 c.args.n)

pub returns : goal.returns
returns c = let a = c.args in (omega (arith, length-line a.key.now a.n), omega (arith, decimal_most 20 a.n))
