-- `state_by_value::calls::detach` meets its contract: the core detaches on the device that the state is spread into, and it is gathered.
use Rattle.proxy.specs.State.{state_of as columned}
use Rattle.proxy.proofs.ToldLaws.{stays_does}
use Rattle.state_by_value.proofs.CallLaws.{spread_sound, served}
use borrow.Author.Rules.{rules}
use Rattle.state_by_value.proofs.calls.detach.Goals as goal

pub detach-answer-requires : goal.detach-answer-requires
detach-answer-requires c =
    let sounds = spread_sound c.args.s _ c.spread-device.ensures c.requires in
    search rules

pub returns : goal.returns
returns c =
    let sounds = spread_sound c.args.s _ c.spread-device.ensures c.requires in
    served c.args.s _ c.spread-device.ensures _ _ _ _ _ _ c.gather.ensures (stays_does _ _ _ _ _ _ _ c.detach-answer.ensures.stays (c.detach-answer.ensures.does (columned c.spread-device.result) sounds))
