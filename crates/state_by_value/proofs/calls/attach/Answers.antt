-- `state_by_value::calls::attach` meets its contract: attach changes the set alone, whatever the rest of the state is.
use Rattle.state_by_value.specs.States.{state_of}
use Rattle.state_by_value.proofs.calls.attach.Goals as goal

pub returns : goal.returns
returns c =
    let does = c.attach_to-answer.ensures (state_of c.args.s) c.requires in
    (does.0, does.1)
