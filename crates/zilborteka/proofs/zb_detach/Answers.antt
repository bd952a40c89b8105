-- `zilborteka::zb_detach` meets its contract: its core does, at the fields that it lends, and the report tells its answer in numbers.
use Rattle.device.proofs.DeviceLaws.{may_detach}
use Rattle.proxy.specs.State.{state_of}
use Rattle.proxy.proofs.ToldLaws.{as_told, stays_does}
use Rattle.zilborteka.proofs.zb_detach.Goals as goal

pub detach-requires : goal.detach-requires
detach-requires c = may_detach c.args.st.now c.requires

pub returns : goal.returns
returns c = as_told _ _ _ _ _ _ _ c.report_of.ensures (stays_does _ _ _ _ _ _ _ c.detach.ensures.stays (c.detach.ensures.does (state_of c.args.st.now) c.requires))
