-- `scripts::telling::say_parties` meets its contract. The loop's invariant: the parties so far were said.
use Rattle.parts.specs.Saying.{Says}
use Rattle.scripts.specs.Telling.{parties_text}
use Rattle.scripts.proofs.telling.say_parties.Given as goal

abbrev pub invariant-loop-k : goal.invariant-loop-k
invariant-loop-k l = Says l.fn.said (parties_text l.list l.k) l.said
