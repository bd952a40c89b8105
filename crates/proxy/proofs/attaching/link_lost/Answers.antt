-- `proxy::attaching::link_lost` meets its contract: the state afterwards is the emptied one.
use mathlib.Core.Path.{refl}
use Rattle.proxy.proofs.AttachLaws.{lost}
use Rattle.proxy.proofs.attaching.link_lost.Goals as goal

pub returns-clause-does : goal.returns-clause-does
returns-clause-does c = λ s sounds. lost _ sounds _ (c.empty.ensures.emptied _ sounds.cache.bytes)

pub returns-clause-stays : goal.returns-clause-stays
returns-clause-stays c = rw c.empty.ensures.stays refl
