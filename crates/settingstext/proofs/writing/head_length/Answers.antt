-- `settingstext::writing::head_length` meets its contract: the sum of the first four lines' lengths.
use native.Mathlib.Omega.{arith}
use Rattle.settingstext.proofs.WritingLaws.{length_head}
use Rattle.settingstext.proofs.writing.head_length.Goals as goal

pub returns : goal.returns
returns c = let a = c.args.s.now in omega (arith, length_head a.timeout a.join a.tags)
