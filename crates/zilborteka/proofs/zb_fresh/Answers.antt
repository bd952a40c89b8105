-- `zilborteka::zb_fresh` meets its contract: its core does, at the fields that it lends, and the report tells its answer in numbers.
use Rattle.proxy.proofs.ToldLaws.{fresh-told}
use Rattle.zilborteka.proofs.zb_fresh.Goals as goal

pub returns : goal.returns
returns c = fresh-told _ _ _ _ c.report_of.ensures c.fresh.ensures
