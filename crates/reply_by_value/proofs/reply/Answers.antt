-- `reply_by_value::reply` meets its contract: what is done on the device that the state is spread into, gathered, is done from the state.
use Rattle.proxy.specs.State.{state_of as columned}
use Rattle.state_by_value.proofs.CallLaws.{spread_sound, served}
use Rattle.reply_by_value.proofs.reply.Goals as goal

pub reply-answer-requires : goal.reply-answer-requires
reply-answer-requires c =
    let sounds = spread_sound c.args.s _ c.spread-device.ensures c.requires in
    (sounds.table, sounds.settings, sounds.cache)

pub returns : goal.returns
returns c =
    let sounds = spread_sound c.args.s _ c.spread-device.ensures c.requires in
    served c.args.s _ c.spread-device.ensures _ _ _ _ _ _ c.gather.ensures (rw (c.reply-answer.ensures.stays.0, c.reply-answer.ensures.stays.1) (c.reply-answer.ensures.does (columned c.spread-device.result) sounds))
