-- `zilborteka::zb_reply` meets its contract: its core does, at the fields that it lends, and the report tells its answer in numbers.
use Rattle.proxy.specs.State.{state_of}
use Rattle.proxy.proofs.ToldLaws.{as_told}
use Rattle.zilborteka.proofs.zb_reply.Goals as goal

pub returns : goal.returns
returns c = as_told _ _ _ _ _ _ _ c.report_of.ensures (rw (c.reply.ensures.stays.0, c.reply.ensures.stays.1) (c.reply.ensures.does (state_of c.args.st.now) c.requires))
