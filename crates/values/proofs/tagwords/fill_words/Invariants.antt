-- `values::tagwords::fill_words` meets its contract: the words of the tags stand in their places, the first with the mark where one is strict, and 0 in the places behind.
use Rattle.settings.proofs.MarkLaws.{Worded}
use Rattle.values.proofs.tagwords.fill_words.Given as goal

abbrev pub invariant-loop-k : goal.invariant-loop-k
invariant-loop-k l = Worded l.s l.words l.marked l.k
