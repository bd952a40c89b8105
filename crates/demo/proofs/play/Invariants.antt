-- `demo::play` meets its contract. The loop's invariant: the calls made the state, and the table has an end.
use Rattle.state_by_value.specs.States.{MadeState}
use Rattle.demo.proofs.play.Given as goal

abbrev pub invariant-loop-line : goal.invariant-loop-line
invariant-loop-line l = MadeState l.session.state × (goal.iterator-loop-line).can_next l.line-iterator × (goal.iterator-loop-line).is_finite l.line-iterator
