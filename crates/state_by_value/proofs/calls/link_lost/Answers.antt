-- `state_by_value::calls::link_lost` meets its contract: the core empties the column of ids and the cache, and the device is gathered.
use Rattle.proxy.specs.State.{state_of as columned}
use Rattle.proxy.proofs.ToldLaws.{stays_does}
use Rattle.state_by_value.proofs.CallLaws.{spread_sound, served}
use Rattle.state_by_value.proofs.calls.link_lost.Goals as goal

pub returns : goal.returns
returns c =
    let sounds = spread_sound c.args.s _ c.spread-device.ensures c.requires in
    served c.args.s _ c.spread-device.ensures _ _ _ _ _ _ c.gather.ensures (stays_does _ _ _ _ _ _ _ c.link_lost-answer.ensures.stays (c.link_lost-answer.ensures.does (columned c.spread-device.result) sounds))
