-- `proxy::making::fresh` meets its contract: cleared columns with what was adopted are the fresh state.
use Rattle.proxy.proofs.MakingLaws.{blank_bytes, made-fresh}
use Rattle.proxy.proofs.making.fresh.Goals as goal

pub returns : goal.returns
returns c = rw c.empty.ensures.stays (made-fresh _ _ _ _ _ _ c.clear.ensures.cleared c.adopt_value.ensures (c.empty.ensures.emptied _ blank_bytes))
