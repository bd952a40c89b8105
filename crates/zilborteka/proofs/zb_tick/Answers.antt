-- `zilborteka::zb_tick` meets its contract: its core does, at the fields that it lends, and the report tells its answer in numbers.
use Rattle.proxy.specs.State.{state_of}
use Rattle.proxy.proofs.ToldLaws.{as_told, stays_does}
use Rattle.zilborteka.proofs.zb_tick.Goals as goal

pub returns : goal.returns
returns c = as_told _ _ _ _ _ _ _ c.report_of.ensures (stays_does _ _ _ _ _ _ _ c.tick.ensures.stays (c.tick.ensures.does (state_of c.args.st.now) c.requires))
