-- `request_by_value::request` meets its contract: what is done on the device that the state is spread into, gathered, is done from the state.
use Rattle.state_by_value.proofs.CallLaws.{spread_sound, served}
use Rattle.request_by_value.proofs.request.Goals as goal

pub request-answer-requires : goal.request-answer-requires
request-answer-requires c = spread_sound c.args.s _ c.spread-device.ensures c.requires

pub returns : goal.returns
returns c = served c.args.s _ c.spread-device.ensures _ _ _ _ _ _ c.gather.ensures c.request-answer.ensures
