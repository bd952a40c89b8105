-- `settingstext::writing::tag_length` meets its contract: the lines of a tag.
use native.Mathlib.Omega.{arith}
use Rattle.settingstext.proofs.WritingLaws.{length-tag}
use Rattle.settingstext.proofs.writing.tag_length.Goals as goal

pub returns : goal.returns
returns c = omega (arith, length-tag c.args.tag)
