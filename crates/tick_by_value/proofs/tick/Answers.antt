-- `tick_by_value::tick` meets its contract: what is done on the device that the state is spread into, gathered, is done from the state.
use Rattle.proxy.specs.State.{state_of as columned}
use Rattle.proxy.proofs.ToldLaws.{stays_does}
use Rattle.state_by_value.proofs.CallLaws.{spread_sound, served}
use Rattle.tick_by_value.proofs.tick.Goals as goal

pub tick-answer-requires : goal.tick-answer-requires
tick-answer-requires c =
    let sounds = spread_sound c.args.s _ c.spread-device.ensures c.requires in
    sounds.table

pub returns : goal.returns
returns c =
    let sounds = spread_sound c.args.s _ c.spread-device.ensures c.requires in
    served c.args.s _ c.spread-device.ensures _ _ _ _ _ _ c.gather.ensures (stays_does _ _ _ _ _ _ _ c.tick-answer.ensures.stays (c.tick-answer.ensures.does (columned c.spread-device.result) sounds))
