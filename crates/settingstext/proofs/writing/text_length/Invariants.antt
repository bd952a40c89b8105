-- `settingstext::writing::text_length` meets its contract: the loop over the tags adds up the text's length.
use Rattle.settingstext.proofs.WritingLaws.{Measured}
use Rattle.settingstext.proofs.writing.text_length.Given as goal

abbrev pub invariant-loop-k : goal.invariant-loop-k
invariant-loop-k l = Measured l.s l.size l.k
