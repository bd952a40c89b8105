-- `state_by_value::calls::fresh` meets its contract: it gathers the device that the core made fresh.
use Rattle.state_by_value.proofs.CallLaws.{freshly}
use Rattle.state_by_value.proofs.calls.fresh.Goals as goal

pub returns : goal.returns
returns c = freshly _ _ c.gather.ensures _ _ c.fresh-answer.ensures
