-- `zilborteka::zb_next_deadline` meets its contract: its core finds in the columns what the machine finds.
use Rattle.device.proofs.DeviceLaws.{may_await, awaited}
use Rattle.zilborteka.proofs.zb_next_deadline.Goals as goal

pub next_deadline-requires : goal.next_deadline-requires
next_deadline-requires c = may_await c.args.st.now c.requires

pub returns : goal.returns
returns c = awaited c.args.st.now c.requires c.next_deadline.ensures
