-- `settingstext::reading::number_in` meets its contract: the digits so far are a number.
use Rattle.settingstext.proofs.PlaceLaws.{Counted}
use Rattle.settingstext.proofs.reading.number_in.Given as goal

abbrev pub invariant-loop-next : goal.invariant-loop-next
invariant-loop-next l = Counted l.text l.next l.number
