-- `demo::repeat` meets its contract. The loop's invariant: the calls made the state.
use Rattle.state_by_value.specs.States.{MadeState}
use Rattle.demo.proofs.repeat.Given as goal

abbrev pub invariant-loop : goal.invariant-loop
invariant-loop l = MadeState l.made
